-- There are as many choices as ways to fill the entries that lead themselves. Along the entries: one that leads itself may have each of its values, and any
-- other has the one that its leader gives it, which stands before it.
use mathlib.Core.Path.{◌≡◌, refl, sym, ap, ap₂, ◌∙◌, subst}
use mathlib.Core.Bool.{Bool, true, false}
use mathlib.Core.Logic.{◌⊎◌, inl, inr, ⊎_elim}
use mathlib.Core.List.{List, [], ◌∷◌, ◌++◌, append-nil}
use Prim.Native.Nat.{ℕ, zero, suc, ◌+◌, ◌≤◌, ◌<◌}
use native.Mathlib.Omega.{arith}
use native.Mathlib.Decide.{ℕ_discrete, dec_lt}
use lib.Dec.{eqb}
use lib.ListN.{length, get_or, drop, length-append, drop_of_length-le, get_or-append}
use lib.Seq.{append_snoc, drop-cons, get_or_at}
use borrow.Author.Tests.{eq-eqb, ne_eqb}
use Rattle.theory.specs.Lists.{put, filter}
use Rattle.model.specs.Sheet.{Architecture, ProperTies, ProperArchitecture}
use Rattle.model.specs.Choice.{Entry, next, may, values, entries, packed_value, entry_at, packed_at, keeps_ties, fillings, choices}
use Rattle.model.proofs.FirstInOrder.{values_rising, values_has, values_may}
use Rattle.model.proofs.TiesTest.{keeps_ties_is}
use Rattle.ties.specs.Leaders.{entry_leaders}
use Rattle.ties.specs.Unpack.{unpacked_value}
use Rattle.ties.proofs.Entries.{entry_leaders_long, leader_low, leader_match, ties_are}
use Rattle.ties.proofs.Groups.{small}
use Rattle.ties.proofs.Unpacked.{follower_may, follower_same, follower_is}
use Rattle.listing.specs.Listing.{leading}
use Rattle.listing.proofs.EachCounted.{filter_none, each_length, each_same, each_one}

module _ (a : Architecture) (good : ProperArchitecture a) where
  abbrev ties : ProperTies a.processes a.ties
  ties = good.front.ties_proper

  abbrev leader : ℕ → ℕ
  leader k = get_or (entry_leaders a) k 0

  -- ---- the entries that are settled
  packed_front : (c d : List ℕ) (j : ℕ) → j < length c → packed_at a (c ++ d) j ≡ packed_at a c j
  unfolding packed_at
  packed_front c d j h = ap (packed_value (entry_at a j)) (get_or-append c d 0 j h)

  packed_next : (c d : List ℕ) (v k : ℕ) → length c ≡ k → packed_at a (c ++ v ∷ d) k ≡ packed_value (entry_at a k) v
  unfolding packed_at
  packed_next c d v k e = ap (packed_value (entry_at a k)) (get_or_at c v d 0 k e)

  -- c settles the first k entries, each as its leader
  record Settles (c : List ℕ) (k : ℕ) : Type 0 where
    long : length c ≡ k
    allowed : (j : ℕ) → j < k → may (entry_at a j) (get_or c j 0) ≡ true
    led : (j : ℕ) → j < k → packed_at a c j ≡ packed_at a c (leader j)

  low : (k : ℕ) → k < length (entries a) → leader k ≤ k
  low k h = leader_low a ties k h

  below? : (j k : ℕ) → j < suc k → (j < k) ⊎ (j ≡ k)
  below? j k h = by (dec_lt j k)
    where
      by : Dec (j < k) → (j < k) ⊎ (j ≡ k)
      by (yes l) = inl l
      by (no l) = inr (omega arith)

  -- one entry more
  settles_more : (c : List ℕ) (k v : ℕ) → Settles c k → k < length (entries a) → may (entry_at a k) v ≡ true
      → packed_value (entry_at a k) v ≡ packed_at a (c ++ (v ∷ [])) (leader k) → Settles (c ++ (v ∷ [])) (suc k)
  settles_more c k v s h fits same = record {
    long = omega (arith, length-append c (v ∷ []), s.long);
    allowed = λ j l. ⊎_elim
        (λ (b : j < k). ap (may (entry_at a j)) (get_or-append c (v ∷ []) 0 j (omega (arith, s.long))) ∙ s.allowed j b)
        (λ (b : j ≡ k). ap₂ (λ (e : Entry) (x : ℕ). may e x) (ap (entry_at a) b) (ap (λ (i : ℕ). get_or (c ++ (v ∷ [])) i 0) b ∙ get_or_at c v [] 0 k s.long) ∙ fits)
        (below? j k l);
    led = λ j l. ⊎_elim
        (λ (b : j < k). packed_front c (v ∷ []) j (omega (arith, s.long)) ∙ s.led j b ∙ sym (packed_front c (v ∷ []) (leader j) (omega (arith, s.long, low j (omega arith)))))
        (λ (b : j ≡ k). rw b (packed_next c [] v k s.long ∙ same))
        (below? j k l);
  }

  -- all entries
  settles_all : (c : List ℕ) → Settles c (length (entries a)) → keeps_ties a c ≡ true
  settles_all c s = (keeps_ties_is a c).1 ((ties_are a ties c).1 s.led)

  settles_none : Settles [] 0
  settles_none = record { long = refl; allowed = λ j l. absurd (omega arith); led = λ j l. absurd (omega arith) }

  -- ---- the entries from k on that lead themselves
  abbrev leading_from : ℕ → List Entry
  leading_from k = leading (drop k (entry_leaders a)) k (drop k (entries a))

  leading_open : (k : ℕ) → k < length (entries a) → leading_from k ≡ put (eqb (leader k) k) (entry_at a k) (leading_from (suc k))
  unfolding leading
  leading_open k h = rw (drop-cons (entries a) k (next 0) h, drop-cons (entry_leaders a) k 0 (omega (arith, entry_leaders_long a ties)))

  -- ---- entry k, behind c
  module _ (c : List ℕ) (k : ℕ) (s : Settles c k) (h : k < length (entries a)) (p : List ℕ → Bool) (test : (d : List ℕ) → p d ≡ keeps_ties a (c ++ d)) where
    abbrev e : Entry
    e = entry_at a k

    -- the test behind one value more
    test_more : (v : ℕ) (d : List ℕ) → p (v ∷ d) ≡ keeps_ties a ((c ++ (v ∷ [])) ++ d)
    test_more v d = test (v ∷ d) ∙ ap (keeps_ties a) (sym (append_snoc c v d))

    -- where it leads itself, any value settles it
    own_settles : leader k ≡ k → (v : ℕ) → may e v ≡ true → Settles (c ++ (v ∷ [])) (suc k)
    own_settles q v m = settles_more c k v s h m (sym (ap (packed_at a (c ++ (v ∷ []))) q ∙ packed_next c [] v k s.long))

    -- where its leader is before it, one value does
    module _ (before : leader k < k) where
      abbrev follows : ℕ
      follows = unpacked_value e (packed_at a c (leader k))

      follows_may : may e follows ≡ true
      unfolding packed_at
      follows_may = follower_may (get_or c (leader k) 0) (leader_match a ties k h) (s.allowed (leader k) before)

      follows_settles : Settles (c ++ (follows ∷ [])) (suc k)
      unfolding packed_at
      follows_settles =
          settles_more c k follows s h follows_may
          (follower_same (get_or c (leader k) 0) (leader_match a ties k h) (small a good k h)
          ∙ sym (packed_front c (follows ∷ []) (leader k) (omega (arith, s.long))))

      -- with any other the ties break
      others_break : (v : ℕ) → may e v ≡ true → ¬ (v ≡ follows) → (d : List ℕ) → p (v ∷ d) ≡ false
      unfolding packed_at
      others_break v m other d = by (p (v ∷ d)) refl
        where
          kept : keeps_ties a (c ++ v ∷ d) ≡ true → v ≡ follows
          kept q =
              let led = (ties_are a ties (c ++ v ∷ d)).0 ((keeps_ties_is a (c ++ v ∷ d)).0 q) k h in
              follower_is (entry_at a (leader k)) e (get_or c (leader k) 0) v (small a good k h) m
              (sym (packed_next c d v k s.long) ∙ led ∙ packed_front c (v ∷ d) (leader k) (omega (arith, s.long)))

          by : (b : Bool) → p (v ∷ d) ≡ b → b ≡ false
          by true q = absurd (other (kept (sym (test (v ∷ d)) ∙ q)))
          by false q = refl

    -- as many as without it behind each of its values, or behind that one
    module _ (more : (v : ℕ) → Settles (c ++ (v ∷ [])) (suc k) → length (filter (λ d. p (v ∷ d)) (fillings (drop (suc k) (entries a)))) ≡ length (fillings (leading_from (suc k)))) where
      abbrev rest : List (List ℕ)
      rest = fillings (drop (suc k) (entries a))

      step : length (filter p (fillings (drop k (entries a)))) ≡ length (fillings (leading_from k))
      unfolding fillings put
      step = by (ℕ_discrete (leader k) k)
        where
          by : Dec (leader k ≡ k) → length (filter p (fillings (drop k (entries a)))) ≡ length (fillings (leading_from k))
          by (yes own) =
              rw (leading_open k h, eq-eqb (leader k) k own, drop-cons (entries a) k (next 0) h)
              (each_same p rest (length (fillings (leading_from (suc k)))) (values e) (λ v m. more v (own_settles own v (values_may e v m)))
              ∙ sym (each_length (values e) (fillings (leading_from (suc k)))))
          by (no other) =
              let before : leader k < k = omega (arith, low k h) in
              rw (leading_open k h, ne_eqb (leader k) k other, drop-cons (entries a) k (next 0) h)
              (each_one p rest (follows before) (values_rising e) (values_has e (follows before) (small a good k h) (follows_may before))
              (λ v m o. filter_none (λ d. p (v ∷ d)) rest (others_break before v (values_may e v m) o))
              ∙ more (follows before) (follows_settles before))

  -- ---- all entries
  counted : (n k : ℕ) → n + k ≡ length (entries a) → (c : List ℕ) → Settles c k → (p : List ℕ → Bool) → ((d : List ℕ) → p d ≡ keeps_ties a (c ++ d))
      → length (filter p (fillings (drop k (entries a)))) ≡ length (fillings (leading_from k))
  unfolding fillings filter leading put
  counted zero k q c s p test =
      let all : k ≡ length (entries a) = omega arith in
      let passes : p [] ≡ true = test [] ∙ ap (keeps_ties a) (append-nil c) ∙ settles_all c (subst (Settles c) all s) in
      let long = entry_leaders_long a ties in
      rw (drop_of_length-le (entries a) {i = k} (omega arith), drop_of_length-le (entry_leaders a) {i = k} (omega (arith, long)), passes)
  counted (suc n) k q c s p test =
      let h : k < length (entries a) = omega arith in
      step c k s h p test (λ v t. counted n (suc k) (omega arith) (c ++ (v ∷ [])) t (λ d. p (v ∷ d)) (test_more c k s h p test v))

  pub choices_once : length (choices a) ≡ length (fillings (leading (entry_leaders a) 0 (entries a)))
  unfolding choices
  choices_once = counted (length (entries a)) 0 (omega arith) [] settles_none (keeps_ties a) (λ d. refl)
