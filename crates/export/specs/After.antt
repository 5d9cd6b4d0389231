-- What a C caller gets of reading, of asking for a part, of annotating and of a desk. These are definitions.
use Rattle.std.specs.Prelude.{◌≡◌, List, [], ◌∷◌, ◌++◌, ℕ, ◌+◌, ◌*◌, get_or, take, Result, Ok, Err, ⊤}
use Rattle.model.specs.declared.Desk.{Desk}
use Rattle.model.specs.declared.Finding.TheVariants.{Yes, No}
use Rattle.model.specs.Numbers.{number}
use Rattle.model.specs.Desk.{numbers, process_states}
use Rattle.model.specs.Calls.{AfterRead, AfterPart, annotate_of, AnnotatePath}
use Rattle.model.specs.declared.Refusal.{Refusal}
use Rattle.model.specs.declared.Finding.{Finding}

-- the new tables where reading was not refused
unfoldable pub tables_by : Result ⊤ Refusal → List ℕ → List ℕ → List ℕ
tables_by (Ok done) new old = new
tables_by (Err r) new old = old

-- the tables that were read; where reading is refused, what was there before
abbrev pub tables_after : AfterRead → List ℕ → List ℕ
tables_after a old = tables_by a.answer a.tables old

-- the number of a part, by the answer
unfoldable pub part_by : Result ⊤ Refusal → ℕ → ℕ → ℕ
part_by (Ok done) start end = end * 65536 + start
part_by (Err r) start end = number r

-- the end times 65,536 plus the start, or the refusal's number
abbrev pub part_code : AfterPart → ℕ
part_code a = part_by a.answer a.start a.end

-- the two lengths are written on `loop` only
unfoldable pub lengths_by : Result Finding Refusal → (stem cycle : ℕ) → List ℕ → List ℕ
lengths_by (Err r) stem cycle old = old
lengths_by (Ok Yes) stem cycle old = old
lengths_by (Ok No) stem cycle old = stem ∷ cycle ∷ []

-- what annotate leaves of the path, and its two lengths
pub record RunAfter (sheet book ann path lengths path' lengths' : List ℕ) : Type 0 where
  pub stem : ℕ
  pub cycle : ℕ
  pub run : AnnotatePath sheet book ann path (record { stem = stem; cycle = cycle; path = path' })
  pub lengths_are : lengths' ≡ lengths_by (annotate_of sheet book ann path).answer stem cycle lengths

-- the desk of five bytes: the four states, then the mask
unfoldable pub desk_of : List ℕ → Desk
desk_of bytes = record { states = process_states (take 4 bytes); environment = get_or bytes 4 0 }

-- and back
unfoldable pub bytes_of : Desk → List ℕ
bytes_of k = numbers k.states ++ (k.environment ∷ [])
