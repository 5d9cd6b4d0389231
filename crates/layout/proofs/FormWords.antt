-- The words of a book's form: what they say, and the next record or process among them.
use mathlib.Core.Path.{◌≡◌, refl, ap, ap₂, ◌∙◌}
use mathlib.Core.List.{List, [], ◌∷◌, ◌++◌, map, map-append, append_assoc, Memᴰ}
use Prim.Native.Nat.{ℕ, zero, suc, ◌+◌, ◌-◌, ◌<◌, ◌≤◌}
use native.Mathlib.Numerals.{add-one}
use native.Mathlib.Nat.{mod-eq_of_lt}
use native.Mathlib.Omega.{arith}
use lib.ListN.{length, drop, replicate, length-map}
use Rattle.model.specs.Sheet as model
use Rattle.model.specs.Sheet.{Process, ProperArchitecture}
use Rattle.model.specs.Compose.{row_length}
use Rattle.model.specs.Book.{Slot, due, entry, records, all_records, form, book_length}
use Rattle.model.proofs.Sizes.{book_is_short}
use Rattle.architecture.specs.declared.Architecture.{Architecture}
use Rattle.architecture.specs.Struct.{IsProper, architecture_of, process_in, processes_in}
use Rattle.architecture.proofs.ProcessesOfArrays.{process_next, processes_end}
use Rattle.append.proofs.Appending.{Opens, opens_codes, codes_same}
use Rattle.layout.specs.Slots.{slot_of, slot_code, record_codes, process_codes}

-- the bytes behind all records
abbrev pub closing : List Slot
closing = due 0x45 ∷ due 0x4E ∷ []

-- ---- what the words say
-- every byte that is due is a byte
unfoldable pub Bytes : List Slot → Type 0
Bytes [] = Unit
Bytes (due x ∷ ps) = (x < 256) × Bytes ps
Bytes (entry ∷ ps) = Bytes ps

pub slots_back : (ps : List Slot) → Bytes ps → map slot_of (map slot_code ps) ≡ ps
unfolding slot_of slot_code Bytes
slots_back [] h = refl
slots_back (due x ∷ ps) h = ap₂ (λ (y : ℕ) (qs : List Slot). due y ∷ qs) (mod-eq_of_lt h.0) (slots_back ps h.1)
slots_back (entry ∷ ps) h = ap (λ (qs : List Slot). entry ∷ qs) (slots_back ps h)

bytes_append : (ps qs : List Slot) → Bytes ps → Bytes qs → Bytes (ps ++ qs)
unfolding Bytes
bytes_append [] qs h k = k
bytes_append (due x ∷ ps) qs h k = (h.0, bytes_append ps qs h.1 k)
bytes_append (entry ∷ ps) qs h k = bytes_append ps qs h k

bytes_entries : (n : ℕ) → Bytes (replicate n entry)
unfolding Bytes
bytes_entries zero = tt
bytes_entries (suc n) = bytes_entries n

bytes_records : (i : ℕ) (p : Process) (n x : ℕ) → i < 256 → x + n ≤ 256 → Bytes (records i p n x)
unfolding records Bytes
bytes_records i p zero x h k = tt
bytes_records i p (suc n) x h k =
    let row = bytes_entries (row_length p) in
    let rest = bytes_records i p n (suc x) h (omega arith) in
    (omega arith, (omega arith, (h, (omega arith, bytes_append (replicate (row_length p) entry) (records i p n (suc x)) row rest))))

bytes_all : (i : ℕ) (ps : List Process) → i + length ps ≤ 256 → ((p : Process) → Memᴰ p ps → p.bound ≤ 256) → Bytes (all_records i ps)
unfolding all_records Bytes
bytes_all i [] h few = tt
bytes_all i (p ∷ ps) h few =
    let own = bytes_records i p p.bound 0 (omega arith) (omega (arith, few p (Memᴰ.head refl))) in
    bytes_append (records i p p.bound 0) (all_records (suc i) ps) own (bytes_all (suc i) ps (omega arith) (λ q m. few q (Memᴰ.tail m)))

-- so it is in the form of a proper sheet
pub bytes_form : (a : model.Architecture) → ProperArchitecture a → Bytes (form a)
unfolding form Bytes
bytes_form a g =
    let all = bytes_all 0 a.processes (omega (arith, g.front.few_processes)) (λ p m. omega (arith, (g.front.processes_proper p m).few_states)) in
    bytes_append (all_records 0 a.processes) closing all (omega arith, (omega arith, tt))

-- ---- what comes next
-- the next record, and those after it
pub records_open : (i : ℕ) (p : Process) (n x row : ℕ) → row ≡ row_length p → x < n
    → Opens (map slot_code (records i p (n - x) x)) (record_codes i x row) (map slot_code (records i p (n - (x + 1)) (x + 1)))
unfolding records slot_code
records_open i p n x row er h =
    let e : n - x ≡ suc (n - (x + 1)) = omega arith in
    let rest = records i p (n - suc x) (suc x) in
    rw (e, er, add-one x) record {
      is = ap (λ (l : List ℕ). suc 0x54 ∷ suc 0x42 ∷ suc i ∷ suc x ∷ l)
          (map-append slot_code (replicate (row_length p) entry) rest ∙ ap (λ (l : List ℕ). l ++ map slot_code rest) (codes_same slot_code (row_length p) entry));
    }

module _ (a : Architecture) where
  -- the words of the processes from i on, and of the bytes behind them
  abbrev pub form_from : ℕ → List ℕ
  form_from i = map slot_code (all_records i (drop i (processes_in a)) ++ closing)

  -- the records of process i, and what follows
  pub form_open : (i : ℕ) → i < a.processes → Opens (form_from i) (process_codes a i) (form_from (i + 1))
  unfolding all_records
  form_open i h =
      let own = records i (process_in a i) (process_in a i).bound 0 in
      let rest = all_records (suc i) (drop (suc i) (processes_in a)) in
      rw (process_next (process_in a) a.processes i h, add-one i, append_assoc own rest closing) (opens_codes slot_code own (rest ++ closing))

  -- behind all processes
  pub form_closing : (i : ℕ) → i ≡ a.processes → form_from i ≡ map slot_code closing
  unfolding all_records
  form_closing i e = rw (e, processes_end (process_in a) a.processes)

  -- all words
  pub form_short : IsProper a → length (map slot_code (form (architecture_of a))) ≤ 338
  unfolding book_length
  form_short z = omega (arith, length-map (form (architecture_of a)) slot_code, book_is_short (architecture_of a) z.proper)
