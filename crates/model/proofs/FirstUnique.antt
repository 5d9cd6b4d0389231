-- What has the properties of the first choice that keeps the sheet is what the definition finds.
use mathlib.Core.Path.{◌≡◌, refl, sym, ap, ◌∙◌, subst}
use mathlib.Core.Bool.{Bool, true, false, ◌&&◌, true≢false}
use mathlib.Core.List.{List, [], ◌∷◌}
use mathlib.Core.Option.{Option, none, some}
use Prim.Native.Nat.{ℕ, ◌<◌}
use native.Mathlib.Omega.{arith}
use native.Mathlib.Decide.{dec_lt}
use lib.ListN.{length}
use Rattle.theory.specs.Lists.{filter, put}
use Rattle.theory.proofs.Bools.{and_is}
use Rattle.model.specs.Mask.{if}
use Rattle.model.specs.Sheet.{Architecture, Sheet, ProperSheet}
use Rattle.model.specs.Choice.{entries, keeps_ties, IsChoice, Before, lower, later, fillings, choices}
use Rattle.model.specs.Computed.{keeps, first, first_choice}
use Rattle.model.proofs.FitsTest.{fits_length}
use Rattle.model.proofs.TiesTest.{keeps_ties_is}
use Rattle.model.proofs.FirstInOrder.{FirstOf, first_none, first_some, entries_small}

-- two lists of the same length are equal, or one is before the other
data Compared (c d : List ℕ) : Type 0 where
  same : c ≡ d → Compared c d
  before : Before c d → Compared c d
  after : Before d c → Compared c d

heads : {c d : List ℕ} (v : ℕ) → Compared c d → Compared (v ∷ c) (v ∷ d)
heads v (same q) = same (ap (λ (l : List ℕ). v ∷ l) q)
heads v (before b) = before (later b)
heads v (after b) = after (later b)

compared : (c d : List ℕ) → length c ≡ length d → Compared c d
compared [] [] l = same refl
compared [] (w ∷ d) l = absurd (omega arith)
compared (v ∷ c) [] l = absurd (omega arith)
compared (v ∷ c) (w ∷ d) l = by (dec_lt v w) (dec_lt w v) (compared c d (omega arith))
  where
    by : Dec (v < w) → Dec (w < v) → Compared c d → Compared (v ∷ c) (w ∷ d)
    by (yes h) k r = before (lower h)
    by (no h) (yes k) r = after (lower k)
    by (no h) (no k) r = let e : v ≡ w = omega arith in subst (λ (x : ℕ). Compared (v ∷ c) (x ∷ d)) e (heads v r)

-- the first that passes p of those that pass q is the first that passes both
first_filter : (p q : List ℕ → Bool) (cs : List (List ℕ)) → first p (filter q cs) ≡ first (λ c. q c && p c) cs
unfolding first filter put if
first_filter p q [] = refl
first_filter p q (c ∷ cs) = by (q c) (first_filter p q cs)
  where
    by : (t : Bool) → first p (filter q cs) ≡ first (λ d. q d && p d) cs → first p (put t c (filter q cs)) ≡ if (t && p c) (some c) (first (λ d. q d && p d) cs)
    by true e = ap (if (p c) (some c)) e
    by false e = e

-- where the first of two tests passes, the second fails if not both pass
second_fails : (t u : Bool) → t ≡ true → (t && u) ≡ false → u ≡ false
second_fails true u e q = q
second_fails false u e q = absurd (true≢false (sym e))

-- c is a choice that keeps the sheet, and none before it does
pub record FirstKept (s : Sheet) (c : List ℕ) : Type 0 where
  pub is_choice : IsChoice s.architecture c
  pub passing : keeps s c ≡ true
  pub earlier : (d : List ℕ) → IsChoice s.architecture d → Before d c → keeps s d ≡ false

module _ (s : Sheet) (good : ProperSheet s) where
  a : Architecture
  a = s.architecture

  -- the ties are kept, and the sheet
  both : List ℕ → Bool
  both c = keeps_ties a c && keeps s c

  first_both : first_choice s ≡ first both (fillings (entries a))
  unfolding first_choice choices both a
  first_both = first_filter (keeps s) (keeps_ties a) (fillings (entries a))

  -- a choice that does not pass both tests does not keep the sheet
  only_keeps : (c : List ℕ) → IsChoice a c → both c ≡ false → keeps s c ≡ false
  unfolding both
  only_keeps c choice e = second_fails (keeps_ties a c) (keeps s c) ((keeps_ties_is a c).1 choice.ties) e

  pub found_none : first_choice s ≡ none → (c : List ℕ) → IsChoice s.architecture c → keeps s c ≡ false
  unfolding a
  found_none e c choice = only_keeps c choice (first_none (entries a) both (entries_small a good.architecture) (sym first_both ∙ e) c choice.tables)

  pub found_some : (c : List ℕ) → first_choice s ≡ some c → FirstKept s c
  unfolding a both
  found_some c e =
      let f : FirstOf (entries a) both c = first_some (entries a) both c (entries_small a good.architecture) (sym first_both ∙ e) in
      let h = (and_is (keeps_ties a c) (keeps s c)).0 f.passing in
      record {
        is_choice = record { tables = f.fitting; ties = (keeps_ties_is a c).0 h.0 };
        passing = h.1;
        earlier = λ d choice b. only_keeps d choice (f.earlier d choice.tables b);
      }

  pub none_is : ((c : List ℕ) → IsChoice s.architecture c → keeps s c ≡ false) → first_choice s ≡ none
  none_is h = by (first_choice s) refl
    where
      by : (o : Option (List ℕ)) → first_choice s ≡ o → first_choice s ≡ none
      by none e = e
      by (some c) e = let f = found_some c e in absurd (true≢false (sym f.passing ∙ h c f.is_choice))

  pub first_is : (c : List ℕ) → FirstKept s c → first_choice s ≡ some c
  first_is c f = by (first_choice s) refl
    where
      by_order : (d : List ℕ) → first_choice s ≡ some d → FirstKept s d → Compared c d → first_choice s ≡ some c
      by_order d e g (same q) = e ∙ ap some (sym q)
      by_order d e g (before b) = absurd (true≢false (sym f.passing ∙ g.earlier c f.is_choice b))
      by_order d e g (after b) = absurd (true≢false (sym g.passing ∙ f.earlier d g.is_choice b))

      by : (o : Option (List ℕ)) → first_choice s ≡ o → first_choice s ≡ some c
      by none e = absurd (true≢false (sym f.passing ∙ found_none e c f.is_choice))
      by (some d) e = let g = found_some d e in by_order d e g (compared c d (fits_length f.is_choice.tables ∙ sym (fits_length g.is_choice.tables)))
