-- Bits of masks; and the bits of all outputs together: each belongs to the one process that can put it out, and none to the environment.
use mathlib.Core.Path.{◌≡◌, refl, sym, ap, ap₂, ◌∙◌, subst}
use mathlib.Core.Bool.{Bool, true, false, ◌&&◌, ◌||◌, not, or-false, and-true, and-false, true≢false, not-not}
use mathlib.Core.Logic.{⊎_elim}
use mathlib.Core.List.{List, [], ◌∷◌, Memᴰ}
use Prim.Native.Nat.{ℕ, zero, suc, ◌+◌, ◌-◌, ◌^◌, ◌<◌}
use native.Mathlib.Nat.{zero-add, mod-eq_of_lt}
use native.Mathlib.Omega.{arith}
use lib.Bits.{bit_and, and_mask}
use lib.Dec.{eqb}
use lib.ListN.{length, get_or, take, drop}
use borrow.Author.Tests.{eqb-true, eq-eqb}
use Rattle.theory.specs.Lists.{before}
use Rattle.theory.proofs.Bools.{and_is, or_is, bool_cases}
use Rattle.theory.proofs.BitLaws.{bit_of_or, bit_of_and, bits_same}
use Rattle.theory.proofs.DepthFirst.{empty}
use Rattle.theory.proofs.ListLaws.{list_has}
use Rattle.model.specs.Mask.{bit, within, share}
use Rattle.model.specs.Sheet.{Process, Architecture, nobody, process_no, outputs_of, Apart, Within, OutputsApart, ProperArchitecture}
use Rattle.model.specs.Compose.{Composed, process_length, row_at, outputs, present, label}
use Rattle.model.specs.Choice.{rows, entries, begins, Fits, IsTables}
use Rattle.model.specs.Information.{face}
use Rattle.model.proofs.ProperSheet as Proper
use Rattle.model.proofs.ComposedNumbers as States
use Rattle.model.proofs.ComposedNumbers.{InBounds, also_in, IsState, rest_fits, output_within}

-- ---- masks, bit by bit
-- a bit of the smaller mask is one of the greater
pub within_bit : (m n i : ℕ) → Within m n → bit m i ≡ true → bit n i ≡ true
unfolding within
within_bit m n i w h = ((and_is (bit m i) (bit n i)).0 (sym (bit_of_and m n i) ∙ ap (λ (x : ℕ). bit x i) (eqb-true (bit_and m n) m w) ∙ h)).1

-- and of masks apart a bit of one is none of the other
apart_bit : (m n i : ℕ) → Apart m n → bit m i ≡ true → bit n i ≡ false
unfolding share
apart_bit m n i a h =
    let none : bit_and m n ≡ 0 = eqb-true (bit_and m n) 0 (sym (not-not (eqb (bit_and m n) 0)) ∙ ap not a) in
    sym (bit_of_and m n i ∙ ap (λ (t : Bool). t && bit n i) h) ∙ ap (λ (x : ℕ). bit x i) none ∙ empty i

-- where the greater mask has no bit
outside : (m n i : ℕ) → Within m n → bit n i ≡ false → bit m i ≡ false
outside m n i w h = ⊎_elim (λ e. absurd (true≢false (sym (within_bit m n i w e) ∙ h))) (λ e. e) (bool_cases (bit m i))

-- ---- the outputs of some processes, whose entries begin at `at`
module _ (c : List ℕ) where
  -- a bit that none of them can put out
  none_put_out : (ps : List Process) (at i : ℕ) (ys : List ℕ) → Fits (rows ps) (drop at c) → InBounds ps ys
      → ((q : Process) → Memᴰ q ps → bit q.outputs i ≡ false) → bit (outputs ps at c ys) i ≡ false
  unfolding outputs
  none_put_out (p ∷ ps) at i [] f h off = elim h [ ]
  none_put_out [] at i ys f h off = empty i
  none_put_out (p ∷ ps) at i (y ∷ ys) f (also_in l h) off =
      bit_of_or (get_or c (row_at p at y) 0) (outputs ps (at + process_length p) c ys) i
      ∙ ap₂ ◌||◌ (outside _ p.outputs i (output_within p ps at y c f l) (off p (Memᴰ.head refl)))
      (none_put_out ps (at + process_length p) i ys (rest_fits p ps at c f) h (λ q m. off q (Memᴰ.tail m)))

  -- the first of them put out no more than all
  fewer_put_out : (n : ℕ) (ps : List Process) (at i : ℕ) (ys : List ℕ) → bit (outputs ps at c ys) i ≡ false → bit (outputs (take n ps) at c ys) i ≡ false
  unfolding outputs
  fewer_put_out zero ps at i ys e = empty i
  fewer_put_out (suc n) [] at i ys e = empty i
  fewer_put_out (suc n) (p ∷ ps) at i [] e = empty i
  fewer_put_out (suc n) (p ∷ ps) at i (y ∷ ys) e =
      let o = get_or c (row_at p at y) 0 in
      let off = Proper.or-false (bit o i) _ (sym (bit_of_or o (outputs ps (at + process_length p) c ys) i) ∙ e) in
      bit_of_or o (outputs (take n ps) (at + process_length p) c ys) i ∙ ap₂ ◌||◌ off.0 (fewer_put_out n ps (at + process_length p) i ys off.1)

  -- a bit of the first ones is no other's
  pub lower_put_out : (n : ℕ) {ps : List Process} (at i : ℕ) {ys : List ℕ} → Fits (rows ps) (drop at c) → InBounds ps ys → OutputsApart ps → bit (outputs_of (take n ps)) i ≡ true
      → bit (outputs (take n ps) at c ys) i ≡ bit (outputs ps at c ys) i
  unfolding outputs outputs_of
  lower_put_out zero at i f h apart e = absurd (true≢false (sym e ∙ empty i))
  lower_put_out (suc n) at i f States.nobody apart e = absurd (true≢false (sym e ∙ empty i))
  lower_put_out (suc n) at i f (also_in {p = p} {ps} {x = y} {xs = ys} l h) (before first rest) e =
      let o = get_or c (row_at p at y) 0 in
      let next = at + process_length p in
      bit_of_or o (outputs (take n ps) next c ys) i
      ∙ ap (λ (t : Bool). bit o i || t) (⊎_elim
      (λ own. let none = none_put_out ps next i ys (rest_fits p ps at c f) h (λ q m. apart_bit p.outputs q.outputs i (first q m) own) in fewer_put_out n ps next i ys none ∙ sym none)
      (λ others. lower_put_out n next i (rest_fits p ps at c f) h rest others)
      ((or_is (bit p.outputs i) _).0 (sym (bit_of_or p.outputs (outputs_of (take n ps)) i) ∙ e)))
      ∙ sym (bit_of_or o (outputs ps next c ys) i)

  -- a bit that process k can put out is its own
  owner_puts_out : (k : ℕ) {ps : List Process} (at i : ℕ) {ys : List ℕ} → k < length ps → Fits (rows ps) (drop at c) → InBounds ps ys → OutputsApart ps → bit (process_no ps k).outputs i ≡ true
      → bit (outputs ps at c ys) i ≡ bit (get_or c (row_at (process_no ps k) (at + begins ps k) (get_or ys k 0)) 0) i
  unfolding outputs begins
  owner_puts_out k at i l f States.nobody apart e = absurd (omega arith)
  owner_puts_out zero at i l f (also_in {p = p} {ps} {x = y} {xs = ys} b h) (before first rest) e =
      let o = get_or c (row_at p at y) 0 in
      bit_of_or o (outputs ps (at + process_length p) c ys) i
      ∙ ap (λ (t : Bool). bit o i || t) (none_put_out ps (at + process_length p) i ys (rest_fits p ps at c f) h (λ q m. apart_bit p.outputs q.outputs i (first q m) e))
      ∙ or-false (bit o i) ∙ ap (λ (n : ℕ). bit (get_or c (row_at p n y) 0) i) (omega arith)
  owner_puts_out (suc k) at i l f (also_in {p = p} {ps} {x = y} {xs = ys} b h) (before first rest) e =
      let o = get_or c (row_at p at y) 0 in
      let q = process_no ps k in
      let apart = Proper.apart_sym p.outputs q.outputs (first q (list_has ps k nobody (omega arith))) in
      bit_of_or o (outputs ps (at + process_length p) c ys) i
      ∙ ap₂ ◌||◌ (outside o p.outputs i (output_within p ps at y c f b) (apart_bit q.outputs p.outputs i apart e))
      (owner_puts_out k (at + process_length p) i (omega arith) (rest_fits p ps at c f) h rest e)
      ∙ ap (λ (n : ℕ). bit (get_or c (row_at q n (get_or ys k 0)) 0) i) (omega arith)

  -- and it puts out nothing else
  owner_within : (k : ℕ) {ps : List Process} (at : ℕ) {ys : List ℕ} → k < length ps → Fits (rows ps) (drop at c) → InBounds ps ys
      → Within (get_or c (row_at (process_no ps k) (at + begins ps k) (get_or ys k 0)) 0) (process_no ps k).outputs
  unfolding begins
  owner_within k at l f States.nobody = absurd (omega arith)
  owner_within zero at l f (also_in {p = p} {ps} {x = y} b h) = subst (λ (n : ℕ). Within (get_or c (row_at p n y) 0) p.outputs) (omega arith) (output_within p ps at y c f b)
  owner_within (suc k) at l f (also_in {p = p} {ps} {xs = ys} b h) =
      let q = process_no ps k in
      subst (λ (n : ℕ). Within (get_or c (row_at q n (get_or ys k 0)) 0) q.outputs) (omega arith) (owner_within k (at + process_length p) (omega arith) (rest_fits p ps at c f) h)

-- ---- a composed state of an architecture
module _ (a : Architecture) (good : ProperArchitecture a) where
  -- a direction has none of the outputs
  pub direction_free : (d : ℕ) → d < 2 ^ a.environment → (q : Process) → Memᴰ q a.processes → (i : ℕ) → bit q.outputs i ≡ true → bit d i ≡ false
  unfolding within
  direction_free d l q m i e =
      let inside : Within d (2 ^ a.environment - 1) = eq-eqb _ _ (and_mask d a.environment ∙ mod-eq_of_lt l) in
      outside d (2 ^ a.environment - 1) i inside (apart_bit q.outputs (2 ^ a.environment - 1) i (good.front.processes_proper q m).outputs_free e)

  -- the outputs of a process are the label's bits within its output mask
  pub label_outputs : (c : List ℕ) (t : Composed) (k : ℕ) → IsTables a c → IsState a t → k < length a.processes
      → (face a c k t).outputs ≡ bit_and (label a c t) (process_no a.processes k).outputs
  unfolding face label present entries
  label_outputs c t k tables state known =
      subst (λ (b : ℕ). put_out b ≡ bit_and (label a c t) m) (zero-add (begins ps k)) (bits_same _ _ (λ i. ⊎_elim (own i) (other i) (bool_cases (bit m i))))
    where
      ps : List Process
      ps = a.processes

      m : ℕ
      m = (process_no ps k).outputs

      put_out : ℕ → ℕ
      put_out b = get_or c (row_at (process_no ps k) b (get_or t.states k 0)) 0

      own : (i : ℕ) → bit m i ≡ true → bit (put_out (0 + begins ps k)) i ≡ bit (bit_and (label a c t) m) i
      own i e =
          sym (bit_of_and (label a c t) m i ∙ ap₂ ◌&&◌ (bit_of_or t.environment (present a c t) i) e ∙ and-true (bit t.environment i || bit (present a c t) i)
          ∙ ap (λ (b : Bool). b || bit (present a c t) i) (direction_free t.environment state.environment_in (process_no ps k) (list_has ps k nobody known) i e)
          ∙ owner_puts_out c k 0 i known tables state.states_in good.front.outputs_apart e)

      other : (i : ℕ) → bit m i ≡ false → bit (put_out (0 + begins ps k)) i ≡ bit (bit_and (label a c t) m) i
      other i e =
          outside (put_out (0 + begins ps k)) m i (owner_within c k 0 known tables state.states_in) e
          ∙ sym (bit_of_and (label a c t) m i ∙ ap (λ (b : Bool). bit (label a c t) i && b) e ∙ and-false (bit (label a c t) i))
