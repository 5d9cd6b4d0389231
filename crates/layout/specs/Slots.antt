-- How an array of words says what each byte of a book is. These are definitions.
use Rattle.std.specs.Prelude.{List, ◌∷◌, map, ℕ, zero, suc, ◌%◌, take, replicate}
use Rattle.model.specs.Reading.{byte}
use Rattle.model.specs.Book.{Slot, due, entry, TB, records}
use Rattle.architecture.specs.declared.Architecture.{Architecture}
use Rattle.architecture.specs.Struct.{process_in}

-- 0 is an entry; any other word is one more than the byte that is due
unfoldable pub slot_of : ℕ → Slot
slot_of zero = entry
slot_of (suc x) = due (x % 256)

-- the word of a byte of a book
unfoldable pub slot_code : Slot → ℕ
slot_code entry = 0
slot_code (due x) = suc x

-- the first n words, as the bytes of a book
abbrev pub slots_of : List ℕ → ℕ → List Slot
slots_of words n = map slot_of (take n words)

-- the words of the record of process i for its state x: the mark, the process, the state, and a row of entries
abbrev pub record_codes : ℕ → ℕ → ℕ → List ℕ
record_codes i x row = suc (byte TB 0) ∷ suc (byte TB 1) ∷ suc i ∷ suc x ∷ replicate row 0

-- the words of all records of process i
abbrev pub process_codes : Architecture → ℕ → List ℕ
process_codes a i = map slot_code (records i (process_in a i) (process_in a i).bound 0)
