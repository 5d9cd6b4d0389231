-- A process acts on its own table and on what it reads. On a desk its place and its bits of the label are what is seen of it, so the same holds of two desks.
use mathlib.Core.Path.{◌≡◌, refl, sym, ap, ap₂, ◌∙◌, subst}
use mathlib.Core.Bool.{Bool, true, false}
use mathlib.Core.Logic.{◌↔◌}
use mathlib.Core.List.{List, [], ◌∷◌, ◌++◌}
use Prim.Native.Nat.{ℕ, ◌+◌, ◌-◌, ◌*◌, ◌^◌, ◌≤◌, ◌<◌}
use native.Mathlib.Nat.{mul-le-mul_right}
use native.Mathlib.Omega.{arith}
use native.Mathlib.Decide.{dec_lt}
use lib.Pow.{pow_mono, pow-lt}
use lib.ListN.{length, get_or, drop, length-map, length-take, length-drop}
use lib.Seq.{get_or-take}
use Rattle.theory.specs.Lists.{put, filter, from}
use Rattle.theory.proofs.ListLaws.{list_has, from_long, map_from_at}
use Rattle.model.specs.declared.Desk.{Desk}
use Rattle.model.specs.Mask.{beyond, count, pack}
use Rattle.model.specs.Sheet.{Process, Architecture, Sheet, nobody, process_no, ProperProcess}
use Rattle.model.specs.Compose.{Composed, row_length, process_length, row_at, label, step, initial, composed}
use Rattle.model.specs.Choice.{entries, begins, length_of}
use Rattle.model.specs.Desk.{AfterStep, numbers, on_desk, fresh_of, step_of, desk_after, after, possible}
use Rattle.model.specs.Information.{row_of, row_table, values_read, index_read, Face, face, shows, alone, face_on, shows_on}
use Rattle.model.specs.Demands.{InSystem, AtDesk, Information}
use Rattle.model.proofs.ProperSheet.{sheet_proper, below_bit}
use Rattle.model.proofs.FitsTest.{fits_length}
use Rattle.model.proofs.BookRead.{read_choice}
use Rattle.model.proofs.ComposedNumbers.{IsState, composed_in, row_pos, step_in}
use Rattle.model.proofs.Places.{place_inside, length_is}
use Rattle.model.proofs.OutputBits.{label_outputs}
use Rattle.model.proofs.PackedBits.{AgreeAt, pack_agrees}
use Rattle.model.proofs.PromptInputs.{read_by_label}
use Rattle.model.proofs.TiedTables.{chained}
use Rattle.model.proofs.DeskShows.{fresh_state, desk_shows, call_refused, call_taken}
use Rattle.model.proofs.ActsAlone.{acts_alone}
use Rattle.model.proofs.SamePacked.{same_packed, chain_shape}
use Rattle.std.specs.Prelude.{Result, Ok}
use Rattle.model.specs.declared.Refusal.{Refusal}

-- ---- two processes with the same rows
-- a process of one system is proper
module _ {a : Architecture} {c : List ℕ} {i : ℕ} (z : InSystem a c i) where
  abbrev p : Process
  p = process_no a.processes i

  own : ProperProcess a.variables a.environment p
  own = z.is_proper.front.processes_proper p (list_has a.processes i nobody z.known)

  -- as many rows as states
  rows_many : length (row_table a c i) ≡ p.bound
  unfolding row_table
  rows_many = length-map (from p.bound 0) _ ∙ from_long p.bound 0

  -- the first is as long as its inputs ask for
  first_long : length (get_or (row_table a c i) 0 []) ≡ row_length p
  unfolding row_table row_at process_length entries
  first_long =
      let ps = a.processes in
      let inside : row_length p ≤ length_of ps i = omega (arith, length_is ps i z.known, mul-le-mul_right (row_length p) own.some_state) in
      let there : begins ps i + (row_length p - 1) < length c = omega (arith, fits_length z.tables, place_inside ps i (row_length p - 1) z.known (omega (arith, row_pos p))) in
      ap length (map_from_at (row_of p (begins ps i) c) p.bound 0 0 [] own.some_state)
      ∙ length-take (row_length p) (drop (begins ps i + 0 * row_length p) c)
      ∙ omega (arith, length-drop (begins ps i + 0 * row_length p) c, row_pos p)

  -- its masks are bytes
  inputs_few : p.inputs < 256
  inputs_few = omega (arith, own.inputs_known, pow_mono {i = a.variables} {j = 8} z.is_proper.front.few_variables)

-- what equal tables do alone, fed with the same
both_alone : {table table' : List (List ℕ)} {ks ks' : List ℕ} {fs fs' : List Face} → fs ≡ alone table 0 ks → fs' ≡ alone table' 0 ks' → table ≡ table' → ks ≡ ks' → fs ≡ fs'
both_alone one other rows read = one ∙ ap₂ (λ (t : List (List ℕ)) (is : List ℕ). alone t 0 is) rows read ∙ sym other

-- equal tables are for one bound, and equally many inputs
module _ {a a' : Architecture} {c c' : List ℕ} {i i' : ℕ} (z : InSystem a c i) (z' : InSystem a' c' i') (rows : row_table a c i ≡ row_table a' c' i') where
  same_shape : let p = process_no a.processes i in let q = process_no a'.processes i' in (p.bound ≡ q.bound) × (count p.inputs ≡ count q.inputs)
  unfolding row_length
  same_shape = (sym (rows_many z) ∙ ap length rows ∙ rows_many z', power (omega (arith, first_long z, first_long z', ap (λ (r : List (List ℕ)). length (get_or r 0 [])) rows)))
    where
      power : {m n : ℕ} → 2 ^ m ≡ 2 ^ n → m ≡ n
      power {m} {n} e = by (dec_lt m n) (dec_lt n m)
        where
          by : Dec (m < n) → Dec (n < m) → m ≡ n
          by (yes l) g = absurd (omega (arith, pow-lt l))
          by (no l) (yes g) = absurd (omega (arith, pow-lt g))
          by (no l) (no g) = omega arith

-- ---- desks
-- what is seen begins with the start
first_seen : (a : Architecture) (c : List ℕ) (i : ℕ) (t : Composed) (ds : List ℕ) → shows a c i t ds ≡ face a c i t ∷ drop 1 (shows a c i t ds)
unfolding shows
first_seen a c i t [] = refl
first_seen a c i t (d ∷ ds) = refl

module _ {sheet book : List ℕ} {s : Sheet} {c : List ℕ} {i : ℕ} (z : AtDesk sheet book s c i) where
  abbrev a : Architecture
  a = s.architecture

  abbrev m : ℕ
  m = (process_no a.processes i).outputs

  -- the process is one of a system
  system : InSystem a c i
  system = record { is_proper = (sheet_proper sheet s z.is_proper).architecture; tables = (read_choice a book c z.is_book).0.tables; known = z.known }

  -- the face on a desk that holds u, where the label of u is answered
  face_on_lem : (k : Desk) (u : Composed) → on_desk a k ≡ u → IsState a u → face_on i m (Ok (label a c u)) k ≡ face a c i u ∷ []
  unfolding face_on on_desk face
  face_on_lem k u e w =
      ap₂ (λ (x o : ℕ). record { state = x; outputs = o } ∷ [])
      (sym (get_or-take (length a.processes) (numbers k.states) i 0 z.known) ∙ ap (λ (t : Composed). get_or t.states i 0) e)
      (sym (label_outputs a system.is_proper c u i system.tables w z.known))

  -- along a row of directions
  abbrev Shows : Desk → List ℕ → Type 0
  Shows k ds = shows_on sheet book i m k ds ≡ drop 1 (shows a c i (on_desk a k) (possible a ds))

  shown : (k : Desk) (ds : List ℕ) → IsState a (on_desk a k) → Shows k ds
  unfolding shows_on shows possible filter put
  shown k [] w = refl
  shown k (d ∷ ds) w = by (beyond d a.environment) refl (λ n. shown n ds)
    where
      by : (f : Bool) → beyond d a.environment ≡ f → ((n : Desk) → IsState a (on_desk a n) → Shows n ds) → Shows k (d ∷ ds)
      by true e then =
          ap (λ (r : AfterStep). face_on i m r.answer r.desk ++ shows_on sheet book i m r.desk ds) (call_refused sheet book s c z.is_proper z.is_book k d w e)
          ∙ rw e (then k w)
      by false e then =
          let t = on_desk a k in
          let u = step a c t d in
          let n = (step_of sheet book k d).desk in
          let call = call_taken sheet book s c z.is_proper z.is_book k d w e in
          let state : IsState a u = step_in a c t d system.tables w (below_bit d a.environment e) in
          let rest : shows_on sheet book i m n ds ≡ drop 1 (shows a c i u (possible a ds)) =
          then n (subst (IsState a) (sym call.1) state) ∙ ap (λ (x : Composed). drop 1 (shows a c i x (possible a ds))) call.1 in
          ap₂ (λ (fs gs : List Face). fs ++ gs) (ap (λ (x : Result ℕ Refusal). face_on i m x n) call.0 ∙ face_on_lem n u call.1 state) rest
          ∙ sym (first_seen a c i u (possible a ds))
          ∙ rw e refl

  -- from a fresh desk on
  on_a_desk : (k : Desk) (ds : List ℕ) → shows_on sheet book i m (fresh_of sheet k).desk ds ≡ drop 1 (shows a c i (initial a) (possible a ds))
  unfolding desk_after after possible filter
  on_a_desk k ds =
      shown (fresh_of sheet k).desk ds (fresh_state sheet book s c z.is_proper z.is_book k)
      ∙ ap (λ (t : Composed). drop 1 (shows a c i t (possible a ds))) ((desk_shows sheet book s c z.is_proper z.is_book).shows k [])

-- ---- what is read
-- the same index is the same value at each input
same_bits : {a a' : Architecture} {c c' : List ℕ} {i i' : ℕ} → InSystem a c i → InSystem a' c' i' → let m = (process_no a.processes i).inputs in m ≡ (process_no a'.processes i').inputs
    → (t t' : Composed) (d d' : ℕ) → (index_read a c i t d ≡ index_read a' c' i' t' d') ↔ AgreeAt m (values_read a c i t d) (values_read a' c' i' t' d')
unfolding index_read
same_bits {a} {a'} {c} {c'} {i} {i'} z z' e t t' d d' =
    let w = values_read a' c' i' t' d' in
    let agree = pack_agrees (process_no a.processes i).inputs (values_read a c i t d) w (inputs_few z) in
    let same = ap (λ (n : ℕ). pack n w) e in
    (λ h. agree.0 (h ∙ sym same), λ h. agree.1 h ∙ same)

-- ---- all of the promise
pub all_information : Information
all_information = record {
  acts_alone = acts_alone;
  same_seen = λ z z' rows ds ds' read. both_alone (acts_alone z ds) (acts_alone z' ds') rows read;
  same_shape = same_shape;
  same_bits = same_bits;
  really_read = λ {a} {c} {i} z n d ln ld. read_by_label a z.is_proper i z.known c (composed a n) d z.tables (composed_in a n z.is_proper) ld;
  in_label = λ {a} {c} {i} z n ln. label_outputs a z.is_proper c (composed a n) i z.tables (composed_in a n z.is_proper) z.known;
  on_a_desk = on_a_desk;
  desks_same = λ {s = s} {s'} z z' rows k k' ds ds' read.
      on_a_desk z k ds
      ∙ ap (drop 1) (both_alone (acts_alone (system z) (possible s.architecture ds)) (acts_alone (system z') (possible s'.architecture ds')) rows read)
      ∙ sym (on_a_desk z' k' ds');
  same_packed = same_packed;
  tied_same = λ {a} {c} {i} {j} z z' keeps chain ds ds' read.
      let shape = chain_shape a.processes z.is_proper.front.ties_proper chain in
      same_packed z z' shape.bounds shape.inputs (chained a c keeps i j chain) ds ds' read;
}
