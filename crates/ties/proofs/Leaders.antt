-- The leaders of processes: tied processes have one leader, itself or a lower one, and what is an equivalence and holds of the ties holds between each process and its leader.
use mathlib.Core.Path.{◌≡◌, refl, sym, ap, ap₂, ◌∙◌, subst}
use mathlib.Core.Bool.{Bool, true, false}
use mathlib.Core.Logic.{◌⊎◌, inl, inr, ⊎_elim}
use mathlib.Core.List.Memᴰ
use mathlib.Core.List.{List, [], ◌∷◌, map, Memᴰ}
use Prim.Native.Nat.{ℕ, zero, suc, ◌+◌, ◌≤◌, ◌<◌, min, max}
use native.Mathlib.Omega.{arith}
use native.Mathlib.Decide.{dec_le}
use lib.Dec.{eqb}
use lib.ListN.{length, get_or, take, length-map}
use lib.Seq.{get_or-take}
use borrow.Author.Tests.{eqb-true, eq-eqb}
use Rattle.std.proofs.lemmas.List.{take-map}
use Rattle.theory.specs.Lists.{from}
use Rattle.theory.proofs.ListLaws.{map_there, from_long, from_at}
use Rattle.model.specs.Mask.{if}
use Rattle.model.specs.Sheet.{Tie}
use Rattle.ties.specs.Leaders.{instead, join, join_all, leaders}

-- ---- one number instead of another
instead_cases : (old new x : ℕ) → ((x ≡ old) × (instead old new x ≡ new)) ⊎ (instead old new x ≡ x)
unfolding instead if
instead_cases old new x = by (eqb x old) refl
  where
    by : (b : Bool) → eqb x old ≡ b → ((x ≡ old) × (if b new x ≡ new)) ⊎ (if b new x ≡ x)
    by true e = inl (eqb-true x old e, refl)
    by false e = inr refl

instead_old : (old new : ℕ) → instead old new old ≡ new
unfolding instead if
instead_old old new = ap (λ (b : Bool). if b new old) (eq-eqb old old refl)

instead_new : (old new : ℕ) → instead old new new ≡ new
instead_new old new = ⊎_elim (λ h. h.1) (λ h. h) (instead_cases old new new)

instead_le : (old new x : ℕ) → new ≤ old → instead old new x ≤ x
instead_le old new x l = ⊎_elim (λ h. le_old h.0 h.1) (λ h. le_same h) (instead_cases old new x)
  where
    le_old : x ≡ old → instead old new x ≡ new → instead old new x ≤ x
    le_old p q = omega arith

    le_same : instead old new x ≡ x → instead old new x ≤ x
    le_same q = omega arith

-- ---- one tie
-- the lower and the higher of two, one way round or the other
data Sorted (a b : ℕ) : Type 0 where
  rising : min a b ≡ a → max a b ≡ b → Sorted a b
  falling : min a b ≡ b → max a b ≡ a → Sorted a b

sorted : (a b : ℕ) → Sorted a b
sorted a b = by (dec_le a b)
  where
    by : Dec (a ≤ b) → Sorted a b
    by (yes l) = rising (omega arith) (omega arith)
    by (no l) = falling (omega arith) (omega arith)

-- each process has a leader, itself or a lower one, which leads itself
pub record Leads (n : ℕ) (ls : List ℕ) : Type 0 where
  pub long : length ls ≡ n
  pub low : (i : ℕ) → i < n → get_or ls i 0 ≤ i
  pub own : (i : ℕ) → i < n → get_or ls (get_or ls i 0) 0 ≡ get_or ls i 0

-- the tie's processes are there
abbrev pub There : ℕ → Tie → Type 0
There n t = (t.left < n) × (t.right < n)

module _ (n : ℕ) (ls : List ℕ) (t : Tie) (h : Leads n ls) (there : There n t) where
  lo : ℕ
  lo = min (get_or ls t.left 0) (get_or ls t.right 0)

  hi : ℕ
  hi = max (get_or ls t.left 0) (get_or ls t.right 0)

  join_at : (i : ℕ) → i < n → get_or (join ls t) i 0 ≡ instead hi lo (get_or ls i 0)
  unfolding join lo hi
  join_at i l = map_there (instead hi lo) ls i 0 (omega (arith, h.long))

  lo_le : lo ≤ hi
  unfolding lo hi
  lo_le = omega arith

  lo_there : lo < n
  unfolding lo
  lo_there = omega (arith, h.low t.left there.0, there.0)

  -- the lower leader leads itself
  lo_own : get_or ls lo 0 ≡ lo
  unfolding lo
  lo_own = by (sorted (get_or ls t.left 0) (get_or ls t.right 0))
    where
      by : Sorted (get_or ls t.left 0) (get_or ls t.right 0) → get_or ls lo 0 ≡ lo
      by (rising e _) = ap (λ (x : ℕ). get_or ls x 0) e ∙ h.own t.left there.0 ∙ sym e
      by (falling e _) = ap (λ (x : ℕ). get_or ls x 0) e ∙ h.own t.right there.1 ∙ sym e

  pub join_leads : Leads n (join ls t)
  unfolding join lo hi
  join_leads = record {
    long = length-map ls (instead hi lo) ∙ h.long;
    low = λ i l. omega (arith, join_at i l, instead_le hi lo (get_or ls i 0) lo_le, h.low i l);
    own = own_again;
  }
    where
      own_again : (i : ℕ) → i < n → get_or (join ls t) (get_or (join ls t) i 0) 0 ≡ get_or (join ls t) i 0
      own_again i l = by (instead_cases hi lo (get_or ls i 0))
        where
          led_there : get_or ls i 0 < n
          led_there = omega (arith, h.low i l)

          by : ((get_or ls i 0 ≡ hi) × (instead hi lo (get_or ls i 0) ≡ lo)) ⊎ (instead hi lo (get_or ls i 0) ≡ get_or ls i 0) → get_or (join ls t) (get_or (join ls t) i 0) 0 ≡ get_or (join ls t) i 0
          by (inl q) =
              let e : get_or (join ls t) i 0 ≡ lo = join_at i l ∙ q.1 in
              ap (λ (x : ℕ). get_or (join ls t) x 0) e ∙ join_at lo lo_there ∙ ap (instead hi lo) lo_own ∙ instead_new hi lo ∙ sym e
          by (inr q) =
              let e : get_or (join ls t) i 0 ≡ get_or ls i 0 = join_at i l ∙ q in
              ap (λ (x : ℕ). get_or (join ls t) x 0) e ∙ join_at (get_or ls i 0) led_there ∙ ap (instead hi lo) (h.own i l) ∙ sym (join_at i l)

  -- those that had one leader have one
  pub join_merges : (i j : ℕ) → i < n → j < n → get_or ls i 0 ≡ get_or ls j 0 → get_or (join ls t) i 0 ≡ get_or (join ls t) j 0
  join_merges i j li lj e = join_at i li ∙ ap (instead hi lo) e ∙ sym (join_at j lj)

  -- and so have the two that are tied
  pub join_tied : get_or (join ls t) t.left 0 ≡ get_or (join ls t) t.right 0
  unfolding lo hi
  join_tied = join_at t.left there.0 ∙ by (sorted a b) ∙ sym (join_at t.right there.1)
    where
      a : ℕ
      a = get_or ls t.left 0

      b : ℕ
      b = get_or ls t.right 0

      by : Sorted a b → instead (max a b) (min a b) a ≡ instead (max a b) (min a b) b
      by (rising p q) = ap₂ (λ (x y : ℕ). instead x y a) q p ∙ instead_new b a ∙ sym (instead_old b a) ∙ sym (ap₂ (λ (x y : ℕ). instead x y b) q p)
      by (falling p q) = ap₂ (λ (x y : ℕ). instead x y a) q p ∙ instead_old a b ∙ sym (instead_new a b) ∙ sym (ap₂ (λ (x y : ℕ). instead x y b) q p)

-- an equivalence
pub record Equivalence (R : ℕ → ℕ → Type 0) : Type 0 where
  pub same : (i : ℕ) → R i i
  pub turn : (i j : ℕ) → R i j → R j i
  pub chain : (i j k : ℕ) → R i j → R j k → R i k

-- each process and its leader are R
abbrev pub Led : (ℕ → ℕ → Type 0) → ℕ → List ℕ → Type 0
Led R n ls = (i : ℕ) → i < n → R i (get_or ls i 0)

join_led : (R : ℕ → ℕ → Type 0) → Equivalence R → (n : ℕ) (ls : List ℕ) (t : Tie) → Leads n ls → There n t → R t.left t.right → Led R n ls → Led R n (join ls t)
unfolding lo hi
join_led R eq n ls t h there tie led i l = by (instead_cases (max a b) (min a b) (get_or ls i 0))
  where
    a : ℕ
    a = get_or ls t.left 0

    b : ℕ
    b = get_or ls t.right 0

    at : get_or (join ls t) i 0 ≡ instead (max a b) (min a b) (get_or ls i 0)
    at = join_at n ls t h there i l

    ab : R a b
    ab = eq.chain a t.left b (eq.turn t.left a (led t.left there.0)) (eq.chain t.left t.right b tie (led t.right there.1))

    down : Sorted a b → R (max a b) (min a b)
    down (rising p q) = subst (λ (x : ℕ). R x (min a b)) (sym q) (subst (R b) (sym p) (eq.turn a b ab))
    down (falling p q) = subst (λ (x : ℕ). R x (min a b)) (sym q) (subst (R a) (sym p) ab)

    by : ((get_or ls i 0 ≡ max a b) × (instead (max a b) (min a b) (get_or ls i 0) ≡ min a b)) ⊎ (instead (max a b) (min a b) (get_or ls i 0) ≡ get_or ls i 0) → R i (get_or (join ls t) i 0)
    by (inl q) = subst (R i) (sym (at ∙ q.1)) (eq.chain i (max a b) (min a b) (subst (R i) q.0 (led i l)) (down (sorted a b)))
    by (inr q) = subst (R i) (sym (at ∙ q)) (led i l)

-- ---- all ties
abbrev pub AllThere : ℕ → List Tie → Type 0
AllThere n ts = (t : Tie) → Memᴰ t ts → There n t

all_leads : (n : ℕ) (ls : List ℕ) (ts : List Tie) → Leads n ls → AllThere n ts → Leads n (join_all ls ts)
unfolding join_all
all_leads n ls [] h there = h
all_leads n ls (t ∷ ts) h there = all_leads n (join ls t) ts (join_leads n ls t h (there t (Memᴰ.head refl))) (λ u m. there u (Memᴰ.tail m))

all_merge : (n : ℕ) (ls : List ℕ) (ts : List Tie) → Leads n ls → AllThere n ts → (i j : ℕ) → i < n → j < n → get_or ls i 0 ≡ get_or ls j 0 → get_or (join_all ls ts) i 0 ≡ get_or (join_all ls ts) j 0
unfolding join_all
all_merge n ls [] h there i j li lj e = e
all_merge n ls (t ∷ ts) h there i j li lj e =
    let here : There n t = there t (Memᴰ.head refl) in
    all_merge n (join ls t) ts (join_leads n ls t h here) (λ u m. there u (Memᴰ.tail m)) i j li lj (join_merges n ls t h here i j li lj e)

all_tied : (n : ℕ) (ls : List ℕ) (ts : List Tie) → Leads n ls → AllThere n ts → (u : Tie) → Memᴰ u ts → get_or (join_all ls ts) u.left 0 ≡ get_or (join_all ls ts) u.right 0
unfolding join_all
all_tied n ls [] h there u m = absurd (Memᴰ.not-nil m)
all_tied n ls (t ∷ ts) h there u (Memᴰ.head q) =
    let here : There n t = there t (Memᴰ.head refl) in
    subst (λ (x : Tie). get_or (join_all (join ls t) ts) x.left 0 ≡ get_or (join_all (join ls t) ts) x.right 0) (sym q)
    (all_merge n (join ls t) ts (join_leads n ls t h here) (λ x m. there x (Memᴰ.tail m)) t.left t.right here.0 here.1 (join_tied n ls t h here))
all_tied n ls (t ∷ ts) h there u (Memᴰ.tail m) =
    let here : There n t = there t (Memᴰ.head refl) in
    all_tied n (join ls t) ts (join_leads n ls t h here) (λ x i. there x (Memᴰ.tail i)) u m

all_led : (R : ℕ → ℕ → Type 0) → Equivalence R → (n : ℕ) (ls : List ℕ) (ts : List Tie) → Leads n ls → AllThere n ts
    → ((t : Tie) → Memᴰ t ts → R t.left t.right) → Led R n ls → Led R n (join_all ls ts)
unfolding join_all
all_led R eq n ls [] h there ties led = led
all_led R eq n ls (t ∷ ts) h there ties led =
    let here : There n t = there t (Memᴰ.head refl) in
    all_led R eq n (join ls t) ts (join_leads n ls t h here) (λ x i. there x (Memᴰ.tail i)) (λ x i. ties x (Memᴰ.tail i))
    (join_led R eq n ls t h here (ties t (Memᴰ.head refl)) led)

-- ---- the leaders
from_leads : (n : ℕ) → Leads n (from n 0)
from_leads n = record {
  long = from_long n 0;
  low = λ i l. omega (arith, from_at n 0 i l);
  own = λ i l. ap (λ (x : ℕ). get_or (from n 0) x 0) (from_at n 0 i l ∙ zero_plus i);
}
  where
    zero_plus : (i : ℕ) → 0 + i ≡ i
    zero_plus i = omega arith

module _ (n : ℕ) (ts : List Tie) (there : AllThere n ts) where
  pub leaders_lead : Leads n (leaders n ts)
  unfolding leaders
  leaders_lead = all_leads n (from n 0) ts (from_leads n) there

  -- tied processes have one leader
  pub leaders_tied : (t : Tie) → Memᴰ t ts → get_or (leaders n ts) t.left 0 ≡ get_or (leaders n ts) t.right 0
  unfolding leaders
  leaders_tied t m = all_tied n (from n 0) ts (from_leads n) there t m

  -- what is an equivalence and holds of the ties holds between each process and its leader
  pub leaders_led : (R : ℕ → ℕ → Type 0) → Equivalence R → ((t : Tie) → Memᴰ t ts → R t.left t.right) → Led R n (leaders n ts)
  unfolding leaders
  leaders_led R eq ties =
      all_led R eq n (from n 0) ts (from_leads n) there ties (λ i l. subst (R i) (sym (from_at n 0 i l ∙ zero_plus i)) (eq.same i))
    where
      zero_plus : (i : ℕ) → 0 + i ≡ i
      zero_plus i = omega arith

-- ---- an array of leaders with room for more processes
from_take : (n m i : ℕ) → n ≤ m → take n (from m i) ≡ from n i
unfolding from
from_take zero m i l = refl
from_take (suc n) zero i l = absurd (omega arith)
from_take (suc n) (suc m) i l = ap (λ (r : List ℕ). i ∷ r) (from_take n m (suc i) (omega arith))

join_take : (n : ℕ) (ls : List ℕ) (t : Tie) → There n t → take n (join ls t) ≡ join (take n ls) t
unfolding join
join_take n ls t there =
    take-map (instead (max (get_or ls t.left 0) (get_or ls t.right 0)) (min (get_or ls t.left 0) (get_or ls t.right 0))) n ls
    ∙ ap₂ (λ (a b : ℕ). map (instead (max a b) (min a b)) (take n ls)) (sym (get_or-take n ls t.left 0 there.0)) (sym (get_or-take n ls t.right 0 there.1))

all_take : (n : ℕ) (ls : List ℕ) (ts : List Tie) → AllThere n ts → take n (join_all ls ts) ≡ join_all (take n ls) ts
unfolding join_all
all_take n ls [] there = refl
all_take n ls (t ∷ ts) there =
    all_take n (join ls t) ts (λ u m. there u (Memᴰ.tail m)) ∙ ap (λ (x : List ℕ). join_all x ts) (join_take n ls t (there t (Memᴰ.head refl)))

-- the first n leaders of m processes, where only the first n are tied, are those of n
pub leaders_take : (n m : ℕ) (ts : List Tie) → n ≤ m → AllThere n ts → take n (leaders m ts) ≡ leaders n ts
unfolding leaders
leaders_take n m ts l there = all_take n (from m 0) ts there ∙ ap (λ (x : List ℕ). join_all x ts) (from_take n m 0 l)
