-- `export::bytes_of` meets its contract: the four states, and the mask behind them.
use mathlib.Core.Path.{◌≡◌, ap}
use mathlib.Core.List.{List, [], ◌∷◌, ◌++◌}
use Prim.Native.Nat.{ℕ}
use lib.ListN.{length}
use borrow.Author.Rules.{rules}
use Rattle.export.specs.After.{bytes_of}
use Rattle.export.proofs.DeskBytes.{four_bytes}
use Rattle.export.proofs.bytes_of.Statement.{statement}
use Rattle.export.proofs.bytes_of.Tie as tie

-- `states[0].0`
element-copy-out-t5 : tie.Need-bounds-states-0
element-copy-out-t5 c = search rules

-- `states[1].0`
element-copy-out-t8 : tie.Need-bounds-states-1
element-copy-out-t8 c = search rules

-- `states[2].0`
element-copy-out-t11 : tie.Need-bounds-states-2
element-copy-out-t11 c = search rules

-- `states[3].0`
element-copy-out-t14 : tie.Need-bounds-states-3
element-copy-out-t14 c = search rules

-- four places, as the type has it
four : (b : tie.Start) → length b.args.desk.states ≡ 4
four b = search rules

-- the bytes
returns : tie.Need-returns
unfolding bytes_of
returns c = let b = c.before in ap (λ (xs : List ℕ). xs ++ (b.args.desk.environment ∷ [])) (four_bytes b.args.desk.states _ (four b))

pub bytes_of_spec : {M : Type 1} → statement M
bytes_of_spec = tie.close (tie.spec element-copy-out-t5 element-copy-out-t8 element-copy-out-t11 element-copy-out-t14 returns)
