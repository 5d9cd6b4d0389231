-- How an array of words says what each entry of a choice may be. These are definitions.
use Rattle.std.specs.Prelude.{List, ◌∷◌, map, ℕ, ◌+◌, ◌*◌, ◌/◌, ◌%◌, eqb, take, replicate}
use Rattle.model.specs.Mask.{if}
use Rattle.model.specs.Choice.{Entry, output, next, row, times}
use Rattle.architecture.specs.declared.Architecture.{Architecture}
use Rattle.architecture.specs.Struct.{process_in}

-- an even word is twice an output mask, an odd one twice a bound and one more
unfoldable pub kind_of : ℕ → Entry
unfolding if
kind_of k = if (eqb (k % 2) 0) (output (k / 2)) (next (k / 2))

-- the word of an entry of a choice
unfoldable pub kind_code : Entry → ℕ
kind_code (output m) = m * 2
kind_code (next b) = b * 2 + 1

-- the first n words, as the entries of a choice
abbrev pub kinds_of : List ℕ → ℕ → List Entry
kinds_of words n = map kind_of (take n words)

-- the words of a row: an output mask, and then the next states
abbrev pub row_codes : ℕ → ℕ → ℕ → List ℕ
row_codes outputs bound states = outputs * 2 ∷ replicate states (bound * 2 + 1)

-- the words of all rows of process i
abbrev pub process_codes : Architecture → ℕ → List ℕ
process_codes a i = map kind_code (times (process_in a i).bound (row (process_in a i)))
