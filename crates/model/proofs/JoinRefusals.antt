-- Joining is refused exactly as its definition of refusals says: the tests in order, of each sheet by itself and then of both.
use mathlib.Core.Path.{◌≡◌, refl, sym, ap, ◌∙◌, subst}
use mathlib.Core.Bool.{Bool, true, false, not, true≢false}
use mathlib.Core.Logic.{◌↔◌, ⊎_elim}
use mathlib.Core.List.{List}
use Prim.Native.Nat.{ℕ}
use native.Mathlib.Omega.{arith}
use lib.Dec.{ltb}
use lib.ListN.{length}
use borrow.Author.Tests.{ltb-true, ltb-false, lt-ltb, le-ltb, not-false}
use Rattle.theory.proofs.ListLaws.{same_is}
use Rattle.theory.proofs.Bools.{bool_cases}
use Rattle.model.specs.declared.Refusal.{Refusal}
use Rattle.model.specs.declared.Refusal.TheVariants.{BufferTooShort, FrontsDiffer, JoinTooLarge}
use Rattle.model.specs.Sheet.{Architecture, Automaton, Sheet}
use Rattle.model.specs.Reading.{Reading, refused, proper, refuse◌when◌else◌, ◌then◌, read_sheet}
use Rattle.model.specs.SheetFile.{front_bytes, sheet_bytes}
use Rattle.model.specs.Join.{join_automata, join_sheets, fronts_differ, is_too_large, join_for, join_bytes}
use Rattle.model.specs.Calls.{room_for_sheet, wrote_sheet, join_of}
use Rattle.model.specs.Refusals.{Fitting, JoinRefused}
use Rattle.model.proofs.ProperSheet.{or-false}
use Rattle.model.proofs.Refusing.{stop, go, refused≢proper, same_refused, refused_when, refused_then, then_refused, then_read}
use Rattle.model.proofs.FaultsExact.{or_off}
use Rattle.model.proofs.CallRefusals.{neither}
use Rattle.std.specs.Prelude.{Err}

-- ---- 19 and 20
-- the records before AU are the same bytes
pub one_front : (a b : Architecture) → (fronts_differ a b ≡ false) ↔ (front_bytes a ≡ front_bytes b)
unfolding fronts_differ
one_front a b = let both = same_is (front_bytes a) (front_bytes b) in (λ e. both.0 (not-false _ e), λ e. ap not (both.1 e))

-- the automaton is not too large
pub fitting : (u : Automaton) → (is_too_large u ≡ false) ↔ Fitting u
unfolding is_too_large
fitting u = (
  λ e. let h = or-false (ltb 16 u.states) (ltb 64 (length u.edges)) e in record { few_states = ltb-false _ _ h.0; few_edges = ltb-false _ _ h.1 },
  λ f. or_off (le-ltb 16 u.states f.few_states) (le-ltb 64 (length u.edges) f.few_edges),
)

-- a test that fails exactly where P holds passes exactly where it does not
unless : {t : Bool} {P : Type 0} → (t ≡ false) ↔ P → t ≡ true → ¬ P
unless exact e p = true≢false (sym e ∙ exact.1 p)

otherwise : {t : Bool} {P : Type 0} → (t ≡ false) ↔ P → ¬ P → t ≡ true
otherwise {t} exact n = ⊎_elim (λ e. e) (λ e. absurd (n (exact.0 e))) (bool_cases t)

-- ---- all tests in a row
module _ (first second sheet : List ℕ) where
  -- of two sheets that were read
  abbrev tests : Sheet → Sheet → Reading (List ℕ)
  tests s t =
      refuse FrontsDiffer when fronts_differ s.architecture t.architecture else
      refuse JoinTooLarge when is_too_large (join_automata s.automaton t.automaton) else
      room_for_sheet (sheet_bytes (join_sheets s t)) sheet

  in_a_row : (join_bytes first second then λ new. room_for_sheet new sheet) ≡ (read_sheet first then λ s. read_sheet second then λ t. tests s t)
  unfolding join_bytes join_for ◌then◌ refuse◌when◌else◌
  in_a_row = by (read_sheet first) (read_sheet second)
    where
      both : (b c : Bool) (new : List ℕ)
          → (refuse◌when◌else◌ FrontsDiffer b (refuse◌when◌else◌ JoinTooLarge c (proper new)) then λ new. room_for_sheet new sheet)
          ≡ refuse◌when◌else◌ FrontsDiffer b (refuse◌when◌else◌ JoinTooLarge c (room_for_sheet new sheet))
      both true c new = refl
      both false true new = refl
      both false false new = refl

      by : (m n : Reading Sheet) → ((m then λ s. n then λ t. join_for s t) then λ new. room_for_sheet new sheet) ≡ (m then λ s. n then λ t. tests s t)
      by (refused r) n = refl
      by (proper s) (refused r) = refl
      by (proper s) (proper t) = both (fronts_differ s.architecture t.architecture) (is_too_large (join_automata s.automaton t.automaton)) (sheet_bytes (join_sheets s t))

  -- ---- the refusal of what was tested
  module _ (s t : Sheet) (is_first : read_sheet first ≡ proper s) (is_second : read_sheet second ≡ proper t) (r : Refusal) where
    tested : tests s t ≡ refused r → JoinRefused first second sheet r
    unfolding room_for_sheet
    tested e = ⊎_elim
        (λ h. subst (JoinRefused first second sheet) h.1 (JoinRefused.other_front s t is_first is_second (unless (one_front s.architecture t.architecture) h.0)))
        (λ h. behind ((one_front s.architecture t.architecture).0 h.0) h.1)
        (refused_when FrontsDiffer _ _ r e)
      where
        last : front_bytes s.architecture ≡ front_bytes t.architecture → Fitting (join_automata s.automaton t.automaton) → room_for_sheet (sheet_bytes (join_sheets s t)) sheet ≡ refused r
            → JoinRefused first second sheet r
        last f fits e = ⊎_elim
            (λ h. subst (JoinRefused first second sheet) h.1
            (JoinRefused.short_sheet s t record { is_first = is_first; is_second = is_second; same_front = f } fits (ltb-true _ _ h.0)))
            (λ h. absurd (refused≢proper r _ (sym h.1)))
            (refused_when BufferTooShort _ _ r e)

        behind : front_bytes s.architecture ≡ front_bytes t.architecture
            → refuse◌when◌else◌ JoinTooLarge (is_too_large (join_automata s.automaton t.automaton)) (room_for_sheet (sheet_bytes (join_sheets s t)) sheet) ≡ refused r
            → JoinRefused first second sheet r
        behind f e = ⊎_elim
            (λ h. subst (JoinRefused first second sheet) h.1
            (JoinRefused.too_large s t record { is_first = is_first; is_second = is_second; same_front = f } (unless (fitting (join_automata s.automaton t.automaton)) h.0)))
            (λ h. last f ((fitting (join_automata s.automaton t.automaton)).0 h.0) h.1)
            (refused_when JoinTooLarge _ _ r e)

  join_tests : (r : Refusal) → (read_sheet first then λ s. read_sheet second then λ t. tests s t) ≡ refused r → JoinRefused first second sheet r
  join_tests r e = ⊎_elim
      (λ q. JoinRefused.by_first r q)
      (λ h. ⊎_elim (λ q. JoinRefused.by_second h.0 r h.1 q) (λ k. tested h.0 k.0 h.1 k.1 r k.2) (refused_then (read_sheet second) _ r h.2))
      (refused_then (read_sheet first) _ r e)

  tests_join : (r : Refusal) → JoinRefused first second sheet r → (read_sheet first then λ s. read_sheet second then λ t. tests s t) ≡ refused r
  unfolding room_for_sheet
  tests_join r (JoinRefused.by_first q e) = then_refused _ e
  tests_join r (JoinRefused.by_second s q e f) = then_read _ e ∙ then_refused _ f
  tests_join r (JoinRefused.other_front s t e f n) = then_read _ e ∙ then_read _ f ∙ stop FrontsDiffer _ (otherwise (one_front s.architecture t.architecture) n)
  tests_join r (JoinRefused.too_large s t o n) =
      then_read _ o.is_first ∙ then_read _ o.is_second ∙ go FrontsDiffer _ ((one_front s.architecture t.architecture).1 o.same_front)
      ∙ stop JoinTooLarge _ (otherwise (fitting (join_automata s.automaton t.automaton)) n)
  tests_join r (JoinRefused.short_sheet s t o fits l) =
      then_read _ o.is_first ∙ then_read _ o.is_second ∙ go FrontsDiffer _ ((one_front s.architecture t.architecture).1 o.same_front)
      ∙ go JoinTooLarge _ ((fitting (join_automata s.automaton t.automaton)).1 fits) ∙ stop BufferTooShort _ (lt-ltb _ _ l)

-- ---- the answer, and the buffer
sheet_answer : (r : Refusal) (k : Reading (List ℕ)) (sheet : List ℕ) → ((wrote_sheet k sheet).answer ≡ Err r) ↔ (k ≡ refused r)
unfolding wrote_sheet
sheet_answer r (refused q) sheet = (λ e. let z : q ≡ r = cc in ap refused z, λ e. ap Err (same_refused q r e))
sheet_answer r (proper new) sheet = neither r new (λ e. let z : ◌≡◌ {A = ℕ} 0 1 = cc in omega arith)

pub join_exactly : (first second sheet : List ℕ) (r : Refusal) → ((join_of first second sheet).answer ≡ Err r) ↔ JoinRefused first second sheet r
unfolding join_of
join_exactly first second sheet r =
    let row = in_a_row first second sheet in
    let answer = sheet_answer r (join_bytes first second then λ new. room_for_sheet new sheet) sheet in
    (λ e. join_tests first second sheet r (sym row ∙ answer.0 e), λ h. answer.1 (row ∙ tests_join first second sheet r h))

pub join_kept : (first second sheet : List ℕ) (r : Refusal) → (join_of first second sheet).answer ≡ Err r → (join_of first second sheet).sheet ≡ sheet
unfolding join_of wrote_sheet
join_kept first second sheet r e = by (join_bytes first second then λ new. room_for_sheet new sheet) e
  where
    by : (k : Reading (List ℕ)) → (wrote_sheet k sheet).answer ≡ Err r → (wrote_sheet k sheet).sheet ≡ sheet
    by (refused q) e = refl
    by (proper new) e = let z : ◌≡◌ {A = ℕ} 0 1 = cc in absurd (omega arith)
