-- The list of fillings has every choice, in order: what is found first is the first choice that passes.
use mathlib.Core.Path.{◌≡◌, refl, sym, ap, ◌∙◌, subst}
use mathlib.Core.Bool.{Bool, true, false}
use mathlib.Core.Logic.{◌⊎◌, inl, inr, ⊎_elim}
use mathlib.Core.List.Memᴰ
use mathlib.Core.List.{List, [], ◌∷◌, map, Memᴰ}
use mathlib.Core.Option.{Option, none, some}
use Prim.Native.Nat.{ℕ, zero, suc, ◌≤◌, ◌<◌}
use native.Mathlib.Omega.{arith}
use lib.Bits.{bit_and, and_le_r}
use lib.Pow.{pow_mono}
use lib.ListN.{length}
use borrow.Author.Tests.{ltb-true, eqb-true}
use Rattle.theory.specs.Lists.{filter, put, from}
use Rattle.theory.proofs.ListLaws.{filter_sound, filter_complete, from_has, from_least}
use Rattle.model.specs.Mask.{if, within}
use Rattle.model.specs.Sheet.{Architecture, ProperProcess, ProperArchitecture}
use Rattle.model.specs.Choice.{Entry, may, values, entries, Fits, done, also, Before, lower, later, fillings}
use Rattle.model.specs.Computed.{first}
use Rattle.model.proofs.SettlingOrder.{or_else, with_head, try, settle, settle_first}
use Rattle.model.proofs.EntryLaws.{entries_have}

-- ---- lists that rise
pub data Rising : List ℕ → Type 0 where
  flat : Rising []
  up : {x : ℕ} {xs : List ℕ} → ((y : ℕ) → Memᴰ y xs → x < y) → Rising xs → Rising (x ∷ xs)

from_rising : (n i : ℕ) → Rising (from n i)
unfolding from
from_rising zero i = flat
from_rising (suc n) i = up (λ y m. from_least n (suc i) y m) (from_rising n (suc i))

filter_rising : (p : ℕ → Bool) {xs : List ℕ} → Rising xs → Rising (filter p xs)
unfolding filter put
filter_rising p flat = flat
filter_rising p (up {x = x} {xs} h r) = by (p x) (filter_rising p r)
  where
    by : (b : Bool) → Rising (filter p xs) → Rising (put b x (filter p xs))
    by true k = up (λ y m. h y (filter_sound p y xs m).0) k
    by false k = k

pub values_rising : (e : Entry) → Rising (values e)
unfolding values
values_rising e = filter_rising (may e) (from_rising 256 0)

-- the entry's values are bytes
abbrev pub Small : Entry → Type 0
Small e = (v : ℕ) → may e v ≡ true → v < 256

abbrev pub AllSmall : List Entry → Type 0
AllSmall es = (e : Entry) → Memᴰ e es → Small e

pub values_has : (e : Entry) (v : ℕ) → Small e → may e v ≡ true → Memᴰ v (values e)
unfolding values
values_has e v small m = filter_complete (may e) v (from 256 0) (from_has 256 0 v (omega arith) (omega (arith, small v m))) m

pub values_may : (e : Entry) (v : ℕ) → Memᴰ v (values e) → may e v ≡ true
unfolding values
values_may e v m = (filter_sound (may e) v (from 256 0) m).1

-- ---- one value after the other
try_none : (vs : List ℕ) (f : ℕ → Option (List ℕ)) → try vs f ≡ none → (v : ℕ) → Memᴰ v vs → f v ≡ none
unfolding try or_else with_head
try_none [] f e v m = absurd (Memᴰ.not-nil m)
try_none (u ∷ vs) f e v m = by (f u) refl e (λ q i. try_none vs f q v i) (Memᴰ.cases_cons m)
  where
    by : (o : Option (List ℕ)) → f u ≡ o → or_else (with_head u o) (try vs f) ≡ none → (try vs f ≡ none → Memᴰ v vs → f v ≡ none) → (v ≡ u) ⊎ Memᴰ v vs → f v ≡ none
    by none q e ih (inl i) = ap f i ∙ q
    by none q e ih (inr i) = ih e i
    by (some c) q e ih i = let z : ◌≡◌ {A = ℕ} 0 1 = cc in absurd (omega arith)

record Tried (vs : List ℕ) (f : ℕ → Option (List ℕ)) (r : List ℕ) : Type 0 where
  head : ℕ
  tail : List ℕ
  is : r ≡ head ∷ tail
  among : Memᴰ head vs
  rest : f head ≡ some tail
  lower_fail : (u : ℕ) → Memᴰ u vs → u < head → f u ≡ none

try_some : {vs : List ℕ} (f : ℕ → Option (List ℕ)) (r : List ℕ) → Rising vs → try vs f ≡ some r → Tried vs f r
unfolding try or_else with_head
try_some f r flat e = let z : ◌≡◌ {A = ℕ} 0 1 = cc in absurd (omega arith)
try_some f r (up {x = u} {xs = vs} h k) e = by (f u) refl e (λ q. try_some f r k q)
  where
    by : (o : Option (List ℕ)) → f u ≡ o → or_else (with_head u o) (try vs f) ≡ some r → (try vs f ≡ some r → Tried vs f r) → Tried (u ∷ vs) f r
    by (some c) q e ih =
        let z : r ≡ u ∷ c = cc in
        record {
          head = u;
          tail = c;
          is = z;
          among = Memᴰ.head refl;
          rest = q;
          lower_fail = λ w m l. ⊎_elim (λ (i : w ≡ u). absurd (omega arith)) (λ (i : Memᴰ w vs). absurd (omega (arith, h w i))) (Memᴰ.cases_cons m);
        }
    by none q e ih =
        let t : Tried vs f r = ih e in
        record {
          head = t.head;
          tail = t.tail;
          is = t.is;
          among = Memᴰ.tail t.among;
          rest = t.rest;
          lower_fail = λ w m l. ⊎_elim (λ (i : w ≡ u). ap f i ∙ q) (λ (i : Memᴰ w vs). t.lower_fail w i l) (Memᴰ.cases_cons m);
        }

-- ---- all entries
settle_none : (es : List Entry) (p : List ℕ → Bool) → AllSmall es → settle (map values es) p ≡ none → (d : List ℕ) → Fits es d → p d ≡ false
unfolding settle if
settle_none [] p small e d done = by (p []) refl e
  where
    by : (b : Bool) → p [] ≡ b → if {A = Option (List ℕ)} b (some []) none ≡ none → p [] ≡ false
    by true q e = let z : ◌≡◌ {A = ℕ} 0 1 = cc in absurd (omega arith)
    by false q e = q
settle_none (e ∷ es) p small q d (also {v = v} {c = c} m f) =
    settle_none es (λ c. p (v ∷ c)) (λ x i. small x (Memᴰ.tail i))
    (try_none (values e) (λ v. settle (map values es) (λ c. p (v ∷ c))) q v (values_has e v (small e (Memᴰ.head refl)) m)) c f

-- c fits and passes, and nothing before it does
pub record FirstOf (es : List Entry) (p : List ℕ → Bool) (c : List ℕ) : Type 0 where
  pub fitting : Fits es c
  pub passing : p c ≡ true
  pub earlier : (d : List ℕ) → Fits es d → Before d c → p d ≡ false

cons_first : (e : Entry) (es : List Entry) (p : List ℕ → Bool) (v : ℕ) (c : List ℕ) → AllSmall (e ∷ es) → may e v ≡ true
    → ((u : ℕ) → Memᴰ u (values e) → u < v → settle (map values es) (λ d. p (u ∷ d)) ≡ none) → FirstOf es (λ d. p (v ∷ d)) c → FirstOf (e ∷ es) p (v ∷ c)
cons_first e es p v c small m fail ih = record { fitting = also m ih.fitting; passing = ih.passing; earlier = before }
  where
    before : (d : List ℕ) → Fits (e ∷ es) d → Before d (v ∷ c) → p d ≡ false
    before d (also {v = u} {c = d'} n f) (lower l) =
        settle_none es (λ d. p (u ∷ d)) (λ x i. small x (Memᴰ.tail i)) (fail u (values_has e u (small e (Memᴰ.head refl)) n) l) d' f
    before d (also {c = d'} n f) (later b) = ih.earlier d' f b

not_before : {d c : List ℕ} → Before d c → length c ≡ 0 → ⊥
not_before (lower l) e = omega arith
not_before (later b) e = omega arith

settle_some : (es : List Entry) (p : List ℕ → Bool) (c : List ℕ) → AllSmall es → settle (map values es) p ≡ some c → FirstOf es p c
unfolding settle if
settle_some [] p c small e = by (p []) refl e
  where
    by : (b : Bool) → p [] ≡ b → if {A = Option (List ℕ)} b (some []) none ≡ some c → FirstOf [] p c
    by true q e = let z : [] ≡ c = cc in subst (FirstOf [] p) z record { fitting = done; passing = q; earlier = λ d f b. absurd (not_before b refl) }
    by false q e = let z : ◌≡◌ {A = ℕ} 0 1 = cc in absurd (omega arith)
settle_some (e ∷ es) p c small q =
    let t : Tried (values e) (λ v. settle (map values es) (λ c. p (v ∷ c))) c = try_some (λ v. settle (map values es) (λ c. p (v ∷ c))) c (values_rising e) q in
    subst (FirstOf (e ∷ es) p) (sym t.is)
    (cons_first e es p t.head t.tail small (values_may e t.head t.among) t.lower_fail
    (settle_some es (λ c. p (t.head ∷ c)) t.tail (λ x i. small x (Memᴰ.tail i)) t.rest))

pub first_none : (es : List Entry) (p : List ℕ → Bool) → AllSmall es → first p (fillings es) ≡ none → (d : List ℕ) → Fits es d → p d ≡ false
first_none es p small e = settle_none es p small (settle_first es p ∙ e)

pub first_some : (es : List Entry) (p : List ℕ → Bool) (c : List ℕ) → AllSmall es → first p (fillings es) ≡ some c → FirstOf es p c
first_some es p c small e = settle_some es p c small (settle_first es p ∙ e)

-- ---- the entries of a proper sheet are bytes
within_le : (v m : ℕ) → within v m ≡ true → v ≤ m
unfolding within
within_le v m e = omega (arith, eqb-true (bit_and v m) v e, and_le_r v m)

pub entries_small : (a : Architecture) → ProperArchitecture a → AllSmall (entries a)
unfolding may
entries_small a good =
    entries_have Small a
    (λ p i.
    let g : ProperProcess a.variables a.environment p = good.front.processes_proper p i in (
      λ v h. omega (arith, within_le v p.outputs h, g.outputs_known, pow_mono good.front.few_variables),
      λ v h. omega (arith, ltb-true v p.bound h, g.few_states),
    ))
