-- Settling a whole group keeps the ties, and so does opening it: what the search needs of ties.
use mathlib.Core.Path.{◌≡◌, refl, sym, ap, ◌∙◌, subst}
use mathlib.Core.Bool.{true}
use mathlib.Core.List.{List, [], ◌∷◌}
use Prim.Native.Nat.{ℕ, zero, suc, ◌+◌, ◌*◌, ◌/◌, ◌%◌, ◌≤◌, ◌<◌}
use native.Mathlib.Omega.{arith}
use native.Mathlib.Decide.{ℕ_discrete}
use lib.ListN.{length, get_or, replicate, get_or-replicate}
use Rattle.theory.proofs.ListLaws.{list_has}
use Rattle.model.specs.Mask.{packed, pack}
use Rattle.model.specs.Sheet.{Architecture, ProperTies, ProperArchitecture}
use Rattle.model.specs.Choice.{Entry, output, next, may, entries, Fits, done, also, packed_value, entry_at, packed_at, IsTables, IsChoice}
use Rattle.model.proofs.FitsTest.{fits_length}
use Rattle.model.proofs.EntryLaws.{fits_at, entries_have, MayZero, output_zero, next_zero, zeros_fit}
use Rattle.model.proofs.FirstInOrder.{Small, entries_small}
use Rattle.ties.specs.Leaders.{entry_leaders}
use Rattle.ties.specs.Unpack.{Matches, unpacked_value, group_value}
use Rattle.ties.specs.Groups.{set_group, Follows}
use Rattle.ties.proofs.Unpacked.{follower_may, follower_same, follower_is, value_back}
use Rattle.ties.proofs.Entries.{ties_are, entry_leaders_long, leader_low, leader_own, leader_match}
use Rattle.ties.proofs.SetGroup.{settled_long, settled_there, settled_elsewhere}

-- ---- entries by place
-- a list with a value for each entry that the entry may have
pub fits_places : (es : List Entry) (c : List ℕ) (d : Entry) → length c ≡ length es → ((i : ℕ) → i < length es → may (get_or es i d) (get_or c i 0) ≡ true) → Fits es c
fits_places [] [] d l f = done
fits_places [] (v ∷ c) d l f = absurd (omega arith)
fits_places (e ∷ es) [] d l f = absurd (omega arith)
fits_places (e ∷ es) (v ∷ c) d l f = also (f 0 (omega arith)) (fits_places es c d (omega arith) (λ i h. f (suc i) (omega arith)))

-- ---- zeros
packed_zero : (k m : ℕ) → packed k m 0 ≡ 0
unfolding packed
packed_zero zero m = refl
packed_zero (suc k) m = ap (λ (x : ℕ). (m % 2) * 0 + (1 + m % 2) * x) (packed_zero k (m / 2)) ∙ omega arith

-- a zero is a zero when packed
pub value_zero : (e : Entry) → packed_value e 0 ≡ 0
unfolding packed_value pack
value_zero (output m) = packed_zero 8 m
value_zero (next b) = refl

module _ (a : Architecture) (good : ProperArchitecture a) where
  ties : ProperTies a.processes a.ties
  ties = good.front.ties_proper

  abbrev ls : List ℕ
  ls = entry_leaders a

  pub small : (k : ℕ) → k < length (entries a) → Small (entry_at a k)
  small k l = entries_small a good _ (list_has (entries a) k (next 0) l)

  may_zero : (k : ℕ) → k < length (entries a) → may (entry_at a k) 0 ≡ true
  may_zero k l =
      entries_have MayZero a (λ p m. (output_zero p.outputs, next_zero p.bound (good.front.processes_proper p m).some_state)) _ (list_has (entries a) k (next 0) l)

  -- ---- new values at a whole group
  module _ (f : ℕ → ℕ) (l : ℕ) (c : List ℕ) where
    there : length (entries a) ≤ length c → (k : ℕ) → k < length (entries a) → get_or ls k 0 ≡ l → get_or (set_group f ls l c) k 0 ≡ f k
    there long k h e = settled_there f ls l c k (omega (arith, entry_leaders_long a ties)) (omega arith) e

    elsewhere : (k : ℕ) → ¬ (get_or ls k 0 ≡ l) → get_or (set_group f ls l c) k 0 ≡ get_or c k 0
    elsewhere k d = settled_elsewhere f ls l c k (λ i. d i.1)

    -- what holds at each entry that gets a new value, and held at the others, holds at all
    settled_tables : ((k : ℕ) → k < length (entries a) → get_or ls k 0 ≡ l → may (entry_at a k) (f k) ≡ true) → IsTables a c → IsTables a (set_group f ls l c)
    settled_tables new t =
        fits_places (entries a) (set_group f ls l c) (next 0) (settled_long f ls l c ∙ fits_length t) (λ i h. by i h (ℕ_discrete (get_or ls i 0) l))
      where
        by : (i : ℕ) → i < length (entries a) → Dec (get_or ls i 0 ≡ l) → may (entry_at a i) (get_or (set_group f ls l c) i 0) ≡ true
        by i h (yes e) = rw (there (omega (arith, fits_length t)) i h e) (new i h e)
        by i h (no d) = rw (elsewhere i d) (fits_at t (next 0) i h)

    -- an entry and its leader stay alike
    settled_alike : (P : ℕ → ℕ → ℕ) (w : ℕ) → length (entries a) ≤ length c
        → ((k : ℕ) → k < length (entries a) → get_or ls k 0 ≡ l → P k (f k) ≡ w)
        → ((k : ℕ) → k < length (entries a) → P k (get_or c k 0) ≡ P (get_or ls k 0) (get_or c (get_or ls k 0) 0))
        → (k : ℕ) → k < length (entries a) → P k (get_or (set_group f ls l c) k 0) ≡ P (get_or ls k 0) (get_or (set_group f ls l c) (get_or ls k 0) 0)
    settled_alike P w long new alike k h = by (ℕ_discrete n l)
      where
        n : ℕ
        n = get_or ls k 0

        inside : n < length (entries a)
        inside = omega (arith, leader_low a ties k h)

        by : Dec (n ≡ l) → P k (get_or (set_group f ls l c) k 0) ≡ P n (get_or (set_group f ls l c) n 0)
        by (yes e) = ap (P k) (there long k h e) ∙ new k h e ∙ sym (ap (P n) (there long n inside (leader_own a ties k h ∙ e)) ∙ new n inside (leader_own a ties k h ∙ e))
        by (no d) = ap (P k) (elsewhere k d) ∙ alike k h ∙ sym (ap (P n) (elsewhere n (λ e. d (sym (leader_own a ties k h) ∙ e))))

    -- a choice stays one, where each entry may have its new value and all of them have one packed value
    settled_choice : (w : ℕ) → ((k : ℕ) → k < length (entries a) → get_or ls k 0 ≡ l → may (entry_at a k) (f k) ≡ true)
        → ((k : ℕ) → k < length (entries a) → get_or ls k 0 ≡ l → packed_value (entry_at a k) (f k) ≡ w) → IsChoice a c → IsChoice a (set_group f ls l c)
    unfolding packed_at
    settled_choice w can new t = record {
      tables = settled_tables can t.tables;
      ties = (ties_are a ties (set_group f ls l c)).1
          (settled_alike (λ k v. packed_value (entry_at a k) v) w (omega (arith, fits_length t.tables)) new ((ties_are a ties c).0 t.ties));
    }

  -- settling or opening a whole group: an entry is open exactly when its leader is
  pub settled_follows : (w l : ℕ) (unset : List ℕ) → length (entries a) ≤ length unset → Follows (entry_leaders a) unset → Follows (entry_leaders a) (set_group (λ i. w) (entry_leaders a) l unset)
  settled_follows w l unset long follows =
      rw (entry_leaders_long a ties) (settled_alike (λ i. w) l unset (λ k v. v) w long (λ k h e. refl) (rw (entry_leaders_long a ties) at follows))

  -- ---- settling a group
  module _ (l v : ℕ) (can : may (entry_at a l) v ≡ true) where
    group_match : (k : ℕ) → k < length (entries a) → get_or ls k 0 ≡ l → Matches (entry_at a l) (entry_at a k)
    group_match k h e = subst (λ (x : ℕ). Matches (entry_at a x) (entry_at a k)) e (leader_match a ties k h)

    -- the leader has v itself
    pub group_own : l < length (entries a) → group_value a l v l ≡ v
    unfolding group_value
    group_own inside = value_back (entry_at a l) v (small l inside) can

    -- settling the whole group keeps the ties
    pub group_tied : (c : List ℕ) → IsChoice a c → IsChoice a (set_group (group_value a l v) (entry_leaders a) l c)
    unfolding group_value
    group_tied c t =
        settled_choice (group_value a l v) l c (packed_value (entry_at a l) v) (λ k h e. follower_may v (group_match k h e) can) (λ k h e. follower_same v (group_match k h e) (small k h)) t

  -- opening a group, with zeros for its values, keeps the ties
  pub opened_tied : (l : ℕ) (c : List ℕ) → IsChoice a c → IsChoice a (set_group (λ k. 0) (entry_leaders a) l c)
  opened_tied l c t = settled_choice (λ k. 0) l c 0 (λ k h e. may_zero k h) (λ k h e. value_zero (entry_at a k)) t

  -- the tables of zeros keep every tie
  pub zeros_tied : IsChoice a (replicate (length (entries a)) 0)
  unfolding packed_at
  zeros_tied = record {
    tables = zeros_fit a good;
    ties = (ties_are a ties zeros).1 (λ k h. zero_at k h ∙ sym (zero_at (get_or ls k 0) (omega (arith, leader_low a ties k h))));
  }
    where
      zeros : List ℕ
      zeros = replicate (length (entries a)) 0

      zero_at : (k : ℕ) → k < length (entries a) → packed_at a zeros k ≡ 0
      zero_at k h = ap (packed_value (entry_at a k)) (get_or-replicate (length (entries a)) k 0 0 h) ∙ value_zero (entry_at a k)

  -- from a zero follow zeros
  pub group_zero : (l k : ℕ) → k < length (entries a) → group_value a l 0 k ≡ 0
  unfolding group_value
  group_zero l k h =
      ap (unpacked_value (entry_at a k)) (value_zero (entry_at a l) ∙ sym (value_zero (entry_at a k))) ∙ value_back (entry_at a k) 0 (small k h) (may_zero k h)

  -- ---- what a choice has at a group
  -- at each entry the value that follows from its leader's
  pub group_is : (c : List ℕ) → IsChoice a c → (k l : ℕ) → k < length (entries a) → get_or (entry_leaders a) k 0 ≡ l → get_or c k 0 ≡ group_value a l (get_or c l 0) k
  unfolding group_value packed_at
  group_is c t k l h e =
      follower_is (entry_at a l) (entry_at a k) (get_or c l 0) (get_or c k 0) (small k h) (fits_at t.tables (next 0) k h)
      ((ties_are a ties c).0 t.ties k h ∙ ap (packed_at a c) e)

  -- choices that agree before i agree at each entry whose leader is before i
  pub begin_agrees : (c d : List ℕ) → IsChoice a c → IsChoice a d → (i : ℕ) → ((j : ℕ) → j < i → get_or c j 0 ≡ get_or d j 0)
      → (k : ℕ) → k < length (entries a) → get_or (entry_leaders a) k 0 < i → get_or c k 0 ≡ get_or d k 0
  begin_agrees c d tc td i same k h f =
      let l : ℕ = get_or ls k 0 in
      group_is c tc k l h refl ∙ ap (λ (x : ℕ). group_value a l x k) (same l f) ∙ sym (group_is d td k l h refl)

  -- and so what agrees before a follower agrees at it
  pub follower_agrees : (c d : List ℕ) → IsChoice a c → IsChoice a d → (k : ℕ) → k < length (entries a) → get_or (entry_leaders a) k 0 < k
      → ((j : ℕ) → j < k → get_or c j 0 ≡ get_or d j 0) → get_or c k 0 ≡ get_or d k 0
  follower_agrees c d tc td k h f same = begin_agrees c d tc td k same k h f

  -- ---- choices that complete a partial one
  -- c has the value of each entry that is settled
  abbrev Agrees : (values unset c : List ℕ) → Type 0
  Agrees values unset c = (k : ℕ) → k < length (entries a) → get_or unset k 0 ≡ 0 → get_or c k 0 ≡ get_or values k 0

  -- a choice, with its own value at l, completes the partial one whose group of l is settled
  pub completes_group : (values unset c : List ℕ) (l : ℕ) → length (entries a) ≤ length values → IsChoice a c → Agrees values unset c
      → Agrees (set_group (group_value a l (get_or c l 0)) (entry_leaders a) l values) (set_group (λ i. 0) (entry_leaders a) l unset) c
  completes_group values unset c l long t agrees k h o = by (ℕ_discrete (get_or ls k 0) l)
    where
      f : ℕ → ℕ
      f = group_value a l (get_or c l 0)

      by : Dec (get_or ls k 0 ≡ l) → get_or c k 0 ≡ get_or (set_group f ls l values) k 0
      by (yes e) = group_is c t k l h e ∙ sym (there f l values long k h e)
      by (no d) = agrees k h (sym (elsewhere (λ i. 0) l unset k d) ∙ o) ∙ sym (elsewhere f l values k d)

  -- and what completes the one whose group is settled completes the one in which it was open
  pub group_completes : (f : ℕ → ℕ) (values unset c : List ℕ) (l : ℕ) → Follows (entry_leaders a) unset → ¬ (get_or unset l 0 ≡ 0)
      → Agrees (set_group f (entry_leaders a) l values) (set_group (λ i. 0) (entry_leaders a) l unset) c → Agrees values unset c
  group_completes f values unset c l follows d agrees k h o = by (ℕ_discrete (get_or ls k 0) l)
    where
      by : Dec (get_or ls k 0 ≡ l) → get_or c k 0 ≡ get_or values k 0
      by (yes e) = absurd (d (sym (follows k (omega (arith, entry_leaders_long a ties)) ∙ ap (λ (x : ℕ). get_or unset x 0) e) ∙ o))
      by (no q) = agrees k h (elsewhere (λ i. 0) l unset k q ∙ o) ∙ elsewhere f l values k q
