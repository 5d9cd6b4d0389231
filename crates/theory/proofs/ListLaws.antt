-- Lists without repeats, the pigeonhole principle, and the laws of the functions on lists.
use mathlib.Core.Path.{◌≡◌, refl, sym, ap, ap₂, ◌∙◌, subst}
use mathlib.Core.Bool.{Bool, true, false, ◌&&◌, ◌||◌, or-true, true≢false}
use mathlib.Core.Logic.{◌⊎◌, inl, inr, ⊎_elim, ◌↔◌}
use mathlib.Core.List.{List, [], ◌∷◌, ◌++◌, map, append-nil, append_assoc}
use mathlib.Core.List.{Memᴰ}
use Prim.Native.Nat.{ℕ, zero, suc, ◌+◌, ◌≤◌, ◌<◌, max}
use native.Mathlib.Numerals.{add-one}
use native.Mathlib.Omega.{arith}
use native.Mathlib.Decide.{ℕ_discrete, dec_le}
use lib.Dec.{eqb}
use lib.ListN.{length, get_or, take, drop, length-append, drop_of_length-le, get_or-append}
use lib.Seq.{drop-cons, get_or_at, get_or-take, length-take-le}
use borrow.Author.Tests.{eqb-true, eq-eqb}
use Rattle.theory.proofs.Bools.{and_is}
use Rattle.theory.specs.Lists.{Distinct, none, one_more, Pairwise, empty, before, InTurn, done, and_then, from, below, one, put, filter, count, member, tab, greatest, all, same}

abbrev Subset : List ℕ → List ℕ → Type 0
Subset xs ys = (x : ℕ) → Memᴰ x xs → Memᴰ x ys

-- ys without the place where x stands
remove : {x : ℕ} {ys : List ℕ} → Memᴰ x ys → List ℕ
remove {ys = []} m = elim m [ ]
remove {ys = y ∷ ys} (mathlib.Core.List.Memᴰ.head e) = ys
remove {ys = y ∷ ys} (mathlib.Core.List.Memᴰ.tail m) = y ∷ remove m

remove_length : {x : ℕ} {ys : List ℕ} (m : Memᴰ x ys) → length ys ≡ suc (length (remove m))
unfolding remove
remove_length (mathlib.Core.List.Memᴰ.head e) = refl
remove_length (mathlib.Core.List.Memᴰ.tail m) = ap suc (remove_length m)

remove_keeps : {x z : ℕ} {ys : List ℕ} (m : Memᴰ x ys) → (z ≡ x → ⊥) → Memᴰ z ys → Memᴰ z (remove m)
unfolding remove
remove_keeps (mathlib.Core.List.Memᴰ.head e) d (mathlib.Core.List.Memᴰ.head q) = absurd (d (q ∙ sym e))
remove_keeps (mathlib.Core.List.Memᴰ.head e) d (mathlib.Core.List.Memᴰ.tail i) = i
remove_keeps (mathlib.Core.List.Memᴰ.tail m) d (mathlib.Core.List.Memᴰ.head q) = mathlib.Core.List.Memᴰ.head q
remove_keeps (mathlib.Core.List.Memᴰ.tail m) d (mathlib.Core.List.Memᴰ.tail i) = mathlib.Core.List.Memᴰ.tail (remove_keeps m d i)

-- the pigeonhole principle
pigeonhole : {xs : List ℕ} (ys : List ℕ) → Distinct xs → Subset xs ys → length xs ≤ length ys
pigeonhole ys none s = omega arith
pigeonhole ys (one_more {x = x} {xs = xs} new d) s =
    let m : Memᴰ x ys = s x (mathlib.Core.List.Memᴰ.head refl) in
    let h : length xs ≤ length (remove m) = pigeonhole (remove m) d (λ z i. remove_keeps m (λ e. new (subst (λ (y : ℕ). Memᴰ y xs) e i)) (s z (mathlib.Core.List.Memᴰ.tail i))) in
    omega (arith, remove_length m)

pub member? : (x : ℕ) (xs : List ℕ) → Dec (Memᴰ x xs)
member? x [] = no mathlib.Core.List.Memᴰ.not-nil
member? x (y ∷ ys) = by (ℕ_discrete x y) (member? x ys)
  where
    by : Dec (x ≡ y) → Dec (Memᴰ x ys) → Dec (Memᴰ x (y ∷ ys))
    by (yes e) r = yes (mathlib.Core.List.Memᴰ.head e)
    by (no d) (yes m) = yes (mathlib.Core.List.Memᴰ.tail m)
    by (no d) (no o) = no (λ i. ⊎_elim d o (mathlib.Core.List.Memᴰ.cases_cons i))

pub distinct_tail : {x : ℕ} {xs : List ℕ} → Distinct (x ∷ xs) → Distinct xs
distinct_tail (one_more new d) = d

below_length : (n : ℕ) → length (below n) ≡ n
unfolding below
below_length zero = refl
below_length (suc n) = ap suc (below_length n)

pub below_has : (n x : ℕ) → x < n → Memᴰ x (below n)
unfolding below
below_has zero x l = absurd (omega arith)
below_has (suc n) x l = by (ℕ_discrete x n) (λ h. below_has n x h)
  where
    by : Dec (x ≡ n) → (x < n → Memᴰ x (below n)) → Memᴰ x (n ∷ below n)
    by (yes e) ih = mathlib.Core.List.Memᴰ.head e
    by (no d) ih = mathlib.Core.List.Memᴰ.tail (ih (omega arith))

-- distinct numbers below n are at most n
pub distinct_short : {xs : List ℕ} (n : ℕ) → Distinct xs → ((x : ℕ) → Memᴰ x xs → x < n) → length xs ≤ n
distinct_short n d h = omega (arith, below_length n, pigeonhole (below n) d (λ x m. below_has n x (h x m)))

put_length : {A : Type 0} (b : Bool) (x : A) (xs : List A) → length (put b x xs) ≡ one b + length xs
unfolding put one
put_length true x xs = omega arith
put_length false x xs = omega arith

pub filter_length : {A : Type 0} (p : A → Bool) (x : A) (xs : List A) → length (filter p (x ∷ xs)) ≡ one (p x) + length (filter p xs)
unfolding filter
filter_length p x xs = put_length (p x) x (filter p xs)

pub filter_count : (p : ℕ → Bool) (n : ℕ) → length (filter p (below n)) ≡ count p n
unfolding filter below count
filter_count p zero = refl
filter_count p (suc n) = put_length (p n) n (filter p (below n)) ∙ ap (λ (k : ℕ). one (p n) + k) (filter_count p n)

pub one_le : (b : Bool) → one b ≤ 1
unfolding one
one_le true = omega arith
one_le false = omega arith

pub count_le : (p : ℕ → Bool) (n : ℕ) → count p n ≤ n
unfolding count
count_le p zero = omega arith
count_le p (suc n) = omega (arith, one_le (p n), count_le p n)

pub one_true : (b : Bool) → one b ≡ 1 → b ≡ true
unfolding one
one_true true e = refl
one_true false e = absurd (omega arith)

pub one_false : (b : Bool) → ¬ (one b ≡ 1) → b ≡ false
unfolding one
one_false true ne = absurd (ne refl)
one_false false ne = refl

one_mono : (a b : Bool) → (a ≡ true → b ≡ true) → one a ≤ one b
unfolding one
one_mono true b h = rw (h refl) (omega arith)
one_mono false b h = omega arith

-- where p implies q, no more numbers pass p than q
pub count_mono : (p q : ℕ → Bool) (n : ℕ) → ((v : ℕ) → p v ≡ true → q v ≡ true) → count p n ≤ count q n
unfolding count
count_mono p q zero h = omega arith
count_mono p q (suc n) h = omega (arith, one_mono (p n) (q n) (h n), count_mono p q n h)

-- and fewer, if some number passes q alone
pub count_fewer : (p q : ℕ → Bool) (n v : ℕ) → ((v : ℕ) → p v ≡ true → q v ≡ true) → v < n → p v ≡ false → q v ≡ true → count p n < count q n
unfolding count one
count_fewer p q zero v h l e i = absurd (omega arith)
count_fewer p q (suc n) v h l e i = by (ℕ_discrete v n) (λ m. count_fewer p q n v h m e i)
  where
    by : Dec (v ≡ n) → (v < n → count p n < count q n) → one (p n) + count p n < one (q n) + count q n
    by (yes a) ih = rw (← a) (omega (arith, ap one e, ap one i, count_mono p q v h))
    by (no a) ih = omega (arith, one_mono (p n) (q n) (h n), ih (omega arith))

pub filter_sound : {A : Type 0} (p : A → Bool) (x : A) (xs : List A) → Memᴰ x (filter p xs) → Memᴰ x xs × (p x ≡ true)
unfolding filter
filter_sound p x [] m = absurd (mathlib.Core.List.Memᴰ.not-nil m)
filter_sound p x (y ∷ ys) m = by (p y) refl m (λ i. filter_sound p x ys i)
  where
    by : (b : Bool) → p y ≡ b → Memᴰ x (put b y (filter p ys)) → (Memᴰ x (filter p ys) → Memᴰ x ys × (p x ≡ true)) → Memᴰ x (y ∷ ys) × (p x ≡ true)
    by false e i ih = (mathlib.Core.List.Memᴰ.tail (ih i).0, (ih i).1)
    by true e (mathlib.Core.List.Memᴰ.head q) ih = (mathlib.Core.List.Memᴰ.head q, ap p q ∙ e)
    by true e (mathlib.Core.List.Memᴰ.tail i) ih = (mathlib.Core.List.Memᴰ.tail (ih i).0, (ih i).1)

pub filter_complete : {A : Type 0} (p : A → Bool) (x : A) (xs : List A) → Memᴰ x xs → p x ≡ true → Memᴰ x (filter p xs)
unfolding filter put
filter_complete p x [] m e = elim m [ ]
filter_complete p x (y ∷ ys) (mathlib.Core.List.Memᴰ.head q) e = rw (sym (ap p q) ∙ e) (mathlib.Core.List.Memᴰ.head q)
filter_complete p x (y ∷ ys) (mathlib.Core.List.Memᴰ.tail m) e = by (p y) (filter_complete p x ys m e)
  where
    by : (b : Bool) → Memᴰ x (filter p ys) → Memᴰ x (put b y (filter p ys))
    by true i = mathlib.Core.List.Memᴰ.tail i
    by false i = i

-- where all pass, all are kept
pub filter_all : {A : Type 0} (p : A → Bool) (xs : List A) → ((x : A) → p x ≡ true) → filter p xs ≡ xs
unfolding filter put
filter_all p [] h = refl
filter_all {A} p (x ∷ xs) h = rw (h x) (ap (λ (r : List A). x ∷ r) (filter_all p xs h))

-- what holds between each and all that follow holds between those that are kept
pub filter_pairwise : {A : Type 0} {R : A → A → Type 0} (p : A → Bool) {xs : List A} → Pairwise R xs → Pairwise R (filter p xs)
unfolding filter put
filter_pairwise p empty = empty
filter_pairwise {R = R} p (before {x = x} {xs = xs} h r) = by (p x) (filter_pairwise p r)
  where
    by : (b : Bool) → Pairwise R (filter p xs) → Pairwise R (put b x (filter p xs))
    by true k = before (λ y m. h y (filter_sound p y xs m).0) k
    by false k = k

filter_distinct : (p : ℕ → Bool) {xs : List ℕ} → Distinct xs → Distinct (filter p xs)
unfolding filter put
filter_distinct p none = none
filter_distinct p (one_more {x = x} {xs = xs} new d) = by (p x) (filter_distinct p d)
  where
    by : (b : Bool) → Distinct (filter p xs) → Distinct (put b x (filter p xs))
    by true r = one_more (λ i. new (filter_sound p x xs i).0) r
    by false r = r

-- of a list without repeats, no more elements pass a test than there are in a list of all that do
pub few_pass : (p : ℕ → Bool) {xs : List ℕ} (ys : List ℕ) → Distinct xs → ((x : ℕ) → Memᴰ x xs → p x ≡ true → Memᴰ x ys) → length (filter p xs) ≤ length ys
few_pass p {xs} ys d h = pigeonhole ys (filter_distinct p d) (λ x i. let s : Memᴰ x xs × (p x ≡ true) = filter_sound p x xs i in h x s.0 s.1)

pub below_sound : (n x : ℕ) → Memᴰ x (below n) → x < n
unfolding below
below_sound zero x m = absurd (mathlib.Core.List.Memᴰ.not-nil m)
below_sound (suc n) x (mathlib.Core.List.Memᴰ.head e) = omega arith
below_sound (suc n) x (mathlib.Core.List.Memᴰ.tail m) = omega (arith, below_sound n x m)

pub member_sound : (x : ℕ) (xs : List ℕ) → member x xs ≡ true → Memᴰ x xs
unfolding member
member_sound x [] e = absurd (true≢false (sym e))
member_sound x (y ∷ ys) e = by (eqb x y) refl e (λ i. member_sound x ys i)
  where
    by : (b : Bool) → eqb x y ≡ b → (b || member x ys) ≡ true → (member x ys ≡ true → Memᴰ x ys) → Memᴰ x (y ∷ ys)
    by true q i ih = mathlib.Core.List.Memᴰ.head (eqb-true x y q)
    by false q i ih = mathlib.Core.List.Memᴰ.tail (ih i)

pub member_complete : (x : ℕ) (xs : List ℕ) → Memᴰ x xs → member x xs ≡ true
unfolding member
member_complete x [] m = elim m [ ]
member_complete x (y ∷ ys) (mathlib.Core.List.Memᴰ.head e) = rw (eq-eqb x y e)
member_complete x (y ∷ ys) (mathlib.Core.List.Memᴰ.tail m) = rw (member_complete x ys m) (or-true (eqb x y))

pub tab_from : (h : ℕ → ℕ) (n i v d : ℕ) → v < n → get_or (tab h n i) v d ≡ h (i + v)
unfolding tab
tab_from h zero i v d l = absurd (omega arith)
tab_from h (suc n) i zero d l = ap h (omega arith)
tab_from h (suc n) i (suc v) d l = tab_from h n (suc i) v d (omega arith) ∙ ap h (omega arith)

pub tab_at : (h : ℕ → ℕ) (n v d : ℕ) → v < n → get_or (tab h n 0) v d ≡ h v
tab_at h n v d l = tab_from h n 0 v d l ∙ ap h (omega arith)

-- what has a number stands in the list
pub list_has : {A : Type 0} (xs : List A) (k : ℕ) (d : A) → k < length xs → Memᴰ (get_or xs k d) xs
list_has [] k d h = absurd (omega arith)
list_has (x ∷ xs) zero d h = mathlib.Core.List.Memᴰ.head refl
list_has (x ∷ xs) (suc k) d h = mathlib.Core.List.Memᴰ.tail (list_has xs k d (omega arith))

-- an element of what a function makes of a list
pub map_there : {A : Type 0} (h : ℕ → A) (xs : List ℕ) (i : ℕ) (d : A) → i < length xs → get_or (map h xs) i d ≡ h (get_or xs i 0)
map_there h [] i d l = absurd (omega arith)
map_there h (x ∷ xs) zero d l = refl
map_there h (x ∷ xs) (suc i) d l = map_there h xs i d (omega arith)

-- an element of a list does not depend on the default
pub any_default : {A : Type 0} (l : List A) (i : ℕ) (a b : A) → i < length l → get_or l i a ≡ get_or l i b
any_default [] i a b h = absurd (omega arith)
any_default (x ∷ l) zero a b h = refl
any_default (x ∷ l) (suc i) a b h = any_default l i a b (omega arith)

pub max_cases : (a b c : ℕ) → max a b ≡ c → (a ≡ c) ⊎ (b ≡ c)
max_cases a b c e = by (dec_le a b)
  where
    by : Dec (a ≤ b) → (a ≡ c) ⊎ (b ≡ c)
    by (yes l) = inr (omega arith)
    by (no l) = inl (omega arith)

pub greatest_attained : (h : ℕ → ℕ) (xs : List ℕ) (k : ℕ) → greatest h xs ≡ suc k → (x : ℕ) × Memᴰ x xs × (h x ≡ suc k)
unfolding greatest
greatest_attained h [] k e = absurd (omega arith)
greatest_attained h (x ∷ xs) k e = by (max_cases (h x) (greatest h xs) (suc k) e) (λ i. greatest_attained h xs k i)
  where
    by : (h x ≡ suc k) ⊎ (greatest h xs ≡ suc k) → (greatest h xs ≡ suc k → (y : ℕ) × Memᴰ y xs × (h y ≡ suc k)) → (y : ℕ) × Memᴰ y (x ∷ xs) × (h y ≡ suc k)
    by (inl q) ih = (x, mathlib.Core.List.Memᴰ.head refl, q)
    by (inr q) ih = ((ih q).0, mathlib.Core.List.Memᴰ.tail (ih q).1, (ih q).2)

pub greatest_above : (h : ℕ → ℕ) (x : ℕ) (xs : List ℕ) → Memᴰ x xs → h x ≤ greatest h xs
unfolding greatest
greatest_above h x [] m = elim m [ ]
greatest_above h x (y ∷ ys) (mathlib.Core.List.Memᴰ.head e) = omega (arith, ap h e)
greatest_above h x (y ∷ ys) (mathlib.Core.List.Memᴰ.tail m) = omega (arith, greatest_above h x ys m)

pub all_is : {A : Type 0} (p : A → Bool) (xs : List A) → (all p xs ≡ true) ↔ ((x : A) → Memᴰ x xs → p x ≡ true)
unfolding all
all_is p [] = (λ e x m. absurd (mathlib.Core.List.Memᴰ.not-nil m), λ h. refl)
all_is {A} p (y ∷ ys) = by (all_is p ys)
  where
    by : (all p ys ≡ true) ↔ ((x : A) → Memᴰ x ys → p x ≡ true) → ((p y && all p ys) ≡ true) ↔ ((x : A) → Memᴰ x (y ∷ ys) → p x ≡ true)
    by ih = (
      λ e x m. ⊎_elim (λ (q : x ≡ y). ap p q ∙ ((and_is (p y) (all p ys)).0 e).0) (λ i. ih.0 ((and_is (p y) (all p ys)).0 e).1 x i) (mathlib.Core.List.Memᴰ.cases_cons m),
      λ h. (and_is (p y) (all p ys)).1 (h y (mathlib.Core.List.Memᴰ.head refl), ih.1 (λ x m. h x (mathlib.Core.List.Memᴰ.tail m))),
    )

-- ---- equal lists
same_itself : (ys : List ℕ) → same ys ys ≡ true
unfolding same
same_itself [] = refl
same_itself (y ∷ ys) = (and_is (eqb y y) (same ys ys)).1 (eq-eqb y y refl, same_itself ys)

same_sound : (xs ys : List ℕ) → same xs ys ≡ true → xs ≡ ys
unfolding same
same_sound [] [] e = refl
same_sound [] (y ∷ ys) e = absurd (true≢false (sym e))
same_sound (x ∷ xs) [] e = absurd (true≢false (sym e))
same_sound (x ∷ xs) (y ∷ ys) e =
    let h = (and_is (eqb x y) (same xs ys)).0 e in
    ap₂ (λ (v : ℕ) (vs : List ℕ). v ∷ vs) (eqb-true x y h.0) (same_sound xs ys h.1)

pub same_is : (xs ys : List ℕ) → (same xs ys ≡ true) ↔ (xs ≡ ys)
same_is xs ys = (same_sound xs ys, λ e. rw e (same_itself ys))

-- ---- the numbers from i on
pub from_has : (n i x : ℕ) → i ≤ x → x < i + n → Memᴰ x (from n i)
unfolding from
from_has zero i x l h = absurd (omega arith)
from_has (suc n) i x l h = by (ℕ_discrete x i) (λ a b. from_has n (suc i) x a b)
  where
    by : Dec (x ≡ i) → (suc i ≤ x → x < suc i + n → Memᴰ x (from n (suc i))) → Memᴰ x (i ∷ from n (suc i))
    by (yes e) ih = mathlib.Core.List.Memᴰ.head e
    by (no d) ih = mathlib.Core.List.Memᴰ.tail (ih (omega arith) (omega arith))

-- as many as asked for
pub from_long : (n i : ℕ) → length (from n i) ≡ n
unfolding from
from_long zero i = refl
from_long (suc n) i = ap suc (from_long n (suc i))

-- each by its number
pub from_at : (n i j : ℕ) → j < n → get_or (from n i) j 0 ≡ i + j
unfolding from
from_at zero i j l = absurd (omega arith)
from_at (suc n) i zero l = omega arith
from_at (suc n) i (suc j) l = omega (arith, from_at n (suc i) j (omega arith))

-- the values at i, i + 1, ..
pub map_from_at : {A : Type 0} (h : ℕ → A) (n i j : ℕ) (d : A) → j < n → get_or (map h (from n i)) j d ≡ h (i + j)
map_from_at h n i j d l = map_there h (from n i) j d (omega (arith, from_long n i)) ∙ ap h (from_at n i j l)

pub from_least : (n i y : ℕ) → Memᴰ y (from n i) → i ≤ y
unfolding from
from_least zero i y m = absurd (mathlib.Core.List.Memᴰ.not-nil m)
from_least (suc n) i y (mathlib.Core.List.Memᴰ.head e) = omega arith
from_least (suc n) i y (mathlib.Core.List.Memᴰ.tail m) = omega (arith, from_least n (suc i) y m)

-- ---- what holds between the elements of two lists, and between those of one and of the other
pub pairwise_append : {A : Type 0} {R : A → A → Type 0} {xs ys : List A} → Pairwise R xs → Pairwise R ys → ((x y : A) → Memᴰ x xs → Memᴰ y ys → R x y) → Pairwise R (xs ++ ys)
pairwise_append empty o h = o
pairwise_append (before {x = x} {xs = xs} k p) o h =
    before (λ y m. ⊎_elim (λ i. k y i) (λ i. h x y (mathlib.Core.List.Memᴰ.head refl) i) (mathlib.Core.List.Memᴰ.append_cases xs m)) (pairwise_append p o (λ u v i j. h u v (mathlib.Core.List.Memᴰ.tail i) j))

-- ---- what holds of each element in turn: one more behind them, those in front, and the one behind these
pub turn_more : {A : Type 0} {P : List A → A → Type 0} {first xs : List A} {x : A} → InTurn P first xs → P (first ++ xs) x → InTurn P first (xs ++ (x ∷ []))
turn_more {P = P} {x = x} (done {first = first}) p = and_then (subst (λ l. P l x) (append-nil first) p) done
turn_more {P = P} {x = x} (and_then {first = first} {x = y} {xs = xs} q t) p = and_then q (turn_more t (subst (λ l. P l x) (sym (append_assoc first (y ∷ []) xs)) p))

pub turn_front : {A : Type 0} {P : List A → A → Type 0} {first : List A} (xs ys : List A) → InTurn P first (xs ++ ys) → InTurn P first xs
turn_front [] ys t = done
turn_front (x ∷ xs) ys (and_then p t) = and_then p (turn_front xs ys t)

pub turn_last : {A : Type 0} {P : List A → A → Type 0} {first : List A} (xs ys : List A) {x : A} → InTurn P first (xs ++ (x ∷ ys)) → P (first ++ xs) x
turn_last {P = P} {first} [] ys {x} (and_then p t) = subst (λ l. P l x) (sym (append-nil first)) p
turn_last {P = P} {first} (y ∷ xs) ys {x} (and_then p t) = subst (λ l. P l x) (append_assoc first (y ∷ []) xs) (turn_last xs ys t)

-- ---- the first n elements, from j on and from j + 1 on
pub taken_next : (xs : List ℕ) (n j : ℕ) → j < n → n ≤ length xs → drop j (take n xs) ≡ get_or xs j 0 ∷ drop (j + 1) (take n xs)
taken_next xs n j h l =
    rw (add-one j) (drop-cons (take n xs) j 0 (omega (arith, length-take-le n xs l)) ∙ ap (λ (x : ℕ). x ∷ drop (suc j) (take n xs)) (get_or-take n xs j 0 h))

-- ---- a list that grows at its end: the list of n has n elements, and element j of it is f j
pub record Grows {A : Type 0} (f : ℕ → A) (l : ℕ → List A) : Type 0 where
  pub none : l 0 ≡ []
  pub more : (n : ℕ) → l (suc n) ≡ l n ++ (f n ∷ [])

module _ {A : Type 0} {f : ℕ → A} {l : ℕ → List A} (g : Grows f l) where
  pub grown_length : (n : ℕ) → length (l n) ≡ n
  grown_length zero = ap length g.none
  grown_length (suc n) = ap length (g.more n) ∙ simp length-append (omega (arith, grown_length n))

  -- element j
  pub grown_at : (n j : ℕ) (d : A) → j < n → get_or (l n) j d ≡ f j
  grown_at zero j d h = absurd (omega arith)
  grown_at (suc n) j d h = ap (λ (xs : List A). get_or xs j d) (g.more n) ∙ by (ℕ_discrete j n) (λ k. grown_at n j d k)
    where
      by : Dec (j ≡ n) → (j < n → get_or (l n) j d ≡ f j) → get_or (l n ++ (f n ∷ [])) j d ≡ f j
      by (yes e) ih = get_or_at (l n) (f n) [] d j (grown_length n ∙ sym e) ∙ ap f (sym e)
      by (no k) ih = get_or-append (l n) (f n ∷ []) d j (omega (arith, grown_length n)) ∙ ih (omega arith)

  pub grown_has : (n j : ℕ) → j < n → Memᴰ (f j) (l n)
  grown_has zero j h = absurd (omega arith)
  grown_has (suc n) j h = rw (g.more n) (by (ℕ_discrete j n) (λ k. grown_has n j k))
    where
      by : Dec (j ≡ n) → (j < n → Memᴰ (f j) (l n)) → Memᴰ (f j) (l n ++ (f n ∷ []))
      by (yes e) ih = mathlib.Core.List.Memᴰ.append_right (l n) (mathlib.Core.List.Memᴰ.head (ap f e))
      by (no k) ih = mathlib.Core.List.Memᴰ.append_left _ (ih (omega arith))

  -- from j on, and from j + 1 on
  pub grown_next : (n j : ℕ) → j < n → drop j (l n) ≡ f j ∷ drop (j + 1) (l n)
  grown_next n j h =
      rw (add-one j) (drop-cons (l n) j (f j) (omega (arith, grown_length n)) ∙ ap (λ (x : A). x ∷ drop (suc j) (l n)) (grown_at n j (f j) h))

  pub grown_end : (n : ℕ) → drop n (l n) ≡ []
  grown_end n = drop_of_length-le (l n) {i = n} (omega (arith, grown_length n))

  -- the first n elements decide
  pub grown_same : {h : ℕ → A} {m : ℕ → List A} → Grows h m → (n : ℕ) → ((k : ℕ) → k < n → f k ≡ h k) → l n ≡ m n
  grown_same o zero e = g.none ∙ sym o.none
  grown_same o (suc n) e = g.more n ∙ ap₂ (λ (xs : List A) (x : A). xs ++ (x ∷ [])) (grown_same o n (λ k k<n. e k (omega arith))) (e n (omega arith)) ∙ sym (o.more n)
