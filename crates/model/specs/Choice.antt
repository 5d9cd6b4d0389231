-- 01, "The order of choices": a choice is one row of entries that keeps the ties, and the first entry that differs decides.
use Rattle.std.specs.Prelude.{◌≡◌, Bool, true, false, ◌&&◌, ℕ, zero, suc, ◌+◌, ◌-◌, ◌*◌, ◌^◌, ◌<◌, min, ltb, length, get_or, replicate, take, drop}
use mathlib.Core.List.{List, [], ◌∷◌, ◌++◌, map, Memᴰ}
use Rattle.theory.specs.Lists.{filter, Pairwise, from, tab, all, same}
use Rattle.model.specs.Mask.{within, count, pack}
use Rattle.model.specs.Sheet.{Process, Tie, Architecture}
use Rattle.model.specs.Compose.{row_length, process_length}

-- what an entry is: a mask within these outputs, or a next state below this bound
pub data Entry : Type 0 where
  output : ℕ → Entry
  next : ℕ → Entry

-- the entry may have this value
unfoldable pub may : Entry → ℕ → Bool
unfolding within
may (output m) v = within v m
may (next b) v = ltb v b

-- every value that it may have, rising
unfoldable pub values : Entry → List ℕ
unfolding filter may from
values e = filter (may e) (from 256 0)

-- a row: its output mask, and behind it the next states by their indexes
unfoldable pub row : Process → List Entry
unfolding count
row p = output p.outputs ∷ replicate (2 ^ count p.inputs) (next p.bound)

-- these entries n times
unfoldable pub times : ℕ → List Entry → List Entry
times zero es = []
times (suc n) es = es ++ times n es

-- processes rising, states rising
unfoldable pub rows : List Process → List Entry
unfolding times row
rows [] = []
rows (p ∷ ps) = times p.bound (row p) ++ rows ps

-- the entries of a choice
unfoldable pub entries : Architecture → List Entry
unfolding rows
entries a = rows a.processes

-- each entry has a value that it may have
pub data Fits : List Entry → List ℕ → Type 0 where
  done : Fits [] []
  also : {e : Entry} {es : List Entry} {v : ℕ} {c : List ℕ} → may e v ≡ true → Fits es c → Fits (e ∷ es) (v ∷ c)

-- tables fix every row of every process
abbrev pub IsTables : Architecture → List ℕ → Type 0
IsTables a c = Fits (entries a) c

-- the same as a test; what follows the entries is ignored
unfoldable pub fits : List Entry → List ℕ → Bool
unfolding may
fits [] c = true
fits (e ∷ es) [] = false
fits (e ∷ es) (v ∷ c) = may e v && fits es c

-- ---- ties: two tied processes have one table
-- where the entries of process i begin
unfoldable pub begins : List Process → ℕ → ℕ
unfolding process_length
begins [] i = 0
begins (p ∷ ps) zero = 0
begins (p ∷ ps) (suc i) = process_length p + begins ps i

-- how many it has: none, where there is no such process
unfoldable pub length_of : List Process → ℕ → ℕ
unfolding process_length
length_of [] i = 0
length_of (p ∷ ps) zero = process_length p
length_of (p ∷ ps) (suc i) = length_of ps i

-- a mask packed to the outputs that it is within; a next state as it is
unfoldable pub packed_value : Entry → ℕ → ℕ
unfolding pack
packed_value (output m) v = pack m v
packed_value (next b) v = v

-- what entry k is
abbrev pub entry_at : Architecture → ℕ → Entry
entry_at a k = get_or (entries a) k (next 0)

-- the packed value of entry k
unfoldable pub packed_at : Architecture → List ℕ → ℕ → ℕ
unfolding packed_value entries
packed_at a c k = packed_value (entry_at a k) (get_or c k 0)

-- the table of process i: its entries, packed, states rising
unfoldable pub table_of : Architecture → List ℕ → ℕ → List ℕ
unfolding tab packed_at length_of begins
table_of a c i = tab (packed_at a c) (length_of a.processes i) (begins a.processes i)

-- each two tied processes have one table
abbrev pub KeepsTies : Architecture → List ℕ → Type 0
KeepsTies a c = (t : Tie) → Memᴰ t a.ties → table_of a c t.left ≡ table_of a c t.right

-- one tie is kept
unfoldable pub kept : Architecture → List ℕ → Tie → Bool
unfolding same table_of
kept a c t = same (table_of a c t.left) (table_of a c t.right)

-- all ties are kept, as a test; what follows the entries is ignored
unfoldable pub keeps_ties : Architecture → List ℕ → Bool
unfolding all kept
keeps_ties a c = all (kept a c) a.ties

-- a choice: tables that keep the ties
pub record IsChoice (a : Architecture) (c : List ℕ) : Type 0 where
  pub tables : IsTables a c
  pub ties : KeepsTies a c

-- the entries at the front of the tables
abbrev pub chosen : Architecture → List ℕ → List ℕ
chosen a tables = take (length (entries a)) tables

-- ---- tables with fewer states, filled up with rows of zeros
-- the processes with these bounds, where they are lower
unfoldable pub lowered : List Process → List ℕ → List Process
lowered [] bs = []
lowered (p ∷ ps) [] = p ∷ ps
lowered (p ∷ ps) (b ∷ bs) = record { inputs = p.inputs; outputs = p.outputs; bound = min b p.bound; prompts = p.prompts; prompted = p.prompted } ∷ lowered ps bs

-- behind the rows of each process, rows of zeros up to its bound
unfoldable pub pad_rows : List Process → List ℕ → List ℕ → List ℕ
unfolding process_length row_length
pad_rows [] bs c = []
pad_rows (p ∷ ps) [] c = c
pad_rows (p ∷ ps) (b ∷ bs) c =
    let n = min b p.bound * row_length p in
    take n c ++ replicate (process_length p - n) 0 ++ pad_rows ps bs (drop n c)

-- the tables at the bounds that these stand for
unfoldable pub padded : Architecture → List ℕ → List ℕ → List ℕ
unfolding pad_rows
padded a bs c = pad_rows a.processes bs c

-- ---- the order of choices: the first entry that differs decides
pub data Before : List ℕ → List ℕ → Type 0 where
  lower : {v w : ℕ} {c d : List ℕ} → v < w → Before (v ∷ c) (w ∷ d)
  later : {v : ℕ} {c d : List ℕ} → Before c d → Before (v ∷ c) (v ∷ d)

-- in the order of choices
abbrev pub Ordered : List (List ℕ) → Type 0
Ordered cs = Pairwise Before cs

-- each once
abbrev pub Once : List (List ℕ) → Type 0
Once cs = Pairwise (λ c d. ¬ (c ≡ d)) cs

-- each of the values in front of each of the rest
unfoldable pub each : List ℕ → List (List ℕ) → List (List ℕ)
each [] cs = []
each (v ∷ vs) cs = map (λ c. v ∷ c) cs ++ each vs cs

-- all ways to fill these entries, in order
unfoldable pub fillings : List Entry → List (List ℕ)
unfolding each values
fillings [] = [] ∷ []
fillings (e ∷ es) = each (values e) (fillings es)

-- all choices, in order: the fillings that keep the ties
unfoldable pub choices : Architecture → List (List ℕ)
unfolding filter keeps_ties fillings entries
choices a = filter (keeps_ties a) (fillings (entries a))
