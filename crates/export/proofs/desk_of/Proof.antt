-- `export::desk_of` meets its contract: the first four bytes are the states.
use mathlib.Core.Path.{◌≡◌, ap}
use mathlib.Core.List.{List}
use lib.ListN.{length, get_or}
use borrow.Author.Rules.{rules}
use Rattle.model.specs.declared.ProcessState.{ProcessState}
use Rattle.export.specs.After.{desk_of}
use Rattle.export.proofs.DeskBytes.{four_states}
use Rattle.export.proofs.desk_of.Statement.{statement}
use Rattle.export.proofs.desk_of.Tie as tie

-- `ProcessState(bytes[0])`
array-read-t5 : tie.Need-bounds-bytes-0
array-read-t5 c = search rules

-- `ProcessState(bytes[1])`
array-read-t9 : tie.Need-bounds-bytes-1
array-read-t9 c = search rules

-- `ProcessState(bytes[2])`
array-read-t13 : tie.Need-bounds-bytes-2
array-read-t13 c = search rules

-- `ProcessState(bytes[3])`
array-read-t17 : tie.Need-bounds-bytes-3
array-read-t17 c = search rules

-- `environment: bytes[4]`
array-read-t22 : tie.Need-bounds-bytes-4
array-read-t22 c = search rules

-- five bytes, as the type has it
five : (b : tie.Start) → length b.args.bytes ≡ 5
five b = search rules

-- `Desk { .. }`
returns : tie.Need-returns
unfolding desk_of
returns c = ap (λ (xs : List ProcessState). record { states = xs; environment = get_or c.args.bytes 4 0 }) (four_states c.args.bytes (five c))

pub desk_of_spec : {M : Type 1} → statement M
desk_of_spec = tie.close (tie.spec array-read-t5 array-read-t9 array-read-t13 array-read-t17 array-read-t22 returns)
