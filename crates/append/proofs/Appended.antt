-- Laws of what was appended: nothing, one element, one list behind another, and the whole list.
use mathlib.Core.Path.{◌≡◌, refl, sym, ap, ap₂, ◌∙◌}
use mathlib.Core.List.{List, [], ◌∷◌, ◌++◌, append_assoc, append-nil}
use Prim.Native.Nat.{ℕ, ◌+◌, ◌-◌, ◌<◌, ◌≤◌}
use native.Mathlib.Numerals.{add-one}
use native.Mathlib.Omega.{arith}
use lib.ListN.{length, get_or, take, drop, set, replicate, length-append, length-take, length-drop, take-append-drop, replicate-append-replicate}
use lib.Seq.{take-suc, take-suc-set, drop-set-lt, drop-drop}
use borrow.Rule.Slice.PartMut.{put_mid}
use Rattle.std.proofs.lemmas.Slice.{take-put_mid, drop-put_mid}
use Rattle.append.specs.Appends.{Appends}

-- nothing
pub append_none : {A : Type 0} (l : List A) (at : ℕ) → Appends l at [] at l
append_none l at = record { is = sym (append-nil (take at l)); ends = omega arith; behind = refl }

-- one element
pub append_one : {A : Type 0} (l : List A) (at : ℕ) (v : A) → at < length l → Appends l at (v ∷ []) (at + 1) (set l at v)
append_one l at v h = record {
  is = rw (add-one at) (take-suc-set l at v h);
  ends = refl;
  behind = drop-set-lt (at + 1) l at v (omega arith);
}

-- where there is room for two lists, there is for the first
pub room_front : (at n : ℕ) (xs ys : List ℕ) → at + length (xs ++ ys) ≤ n → at + length xs ≤ n
room_front at n xs ys h = omega (arith, length-append xs ys)

module _ {l m xs : List ℕ} {at end : ℕ} (p : Appends l at xs end m) where
  -- one list behind another
  pub append_more : {n ys : List ℕ} {after : ℕ} → Appends m end ys after n → Appends l at (xs ++ ys) after n
  append_more {ys = ys} q = record {
    is = q.is ∙ rw p.is (append_assoc (take at l) xs ys);
    ends = omega (arith, p.ends, q.ends, length-append xs ys);
    behind = q.behind ∙ rw q.ends (sym (drop-drop (length ys) end m) ∙ ap (drop (length ys)) p.behind ∙ drop-drop (length ys) end l);
  }

  -- one element behind a list
  pub append_next : (v : ℕ) → end < length m → Appends l at (xs ++ (v ∷ [])) (end + 1) (set m end v)
  append_next v h = append_more (append_one m end v h)

  -- the length stays
  pub append_length : end ≤ length l → length m ≡ length l
  append_length h =
      let parts : length (take end m ++ drop end m) ≡ length ((take at l ++ xs) ++ drop end l) = ap₂ (λ (a b : List ℕ). length (a ++ b)) p.is p.behind in
      ap length (sym (take-append-drop end m)) ∙ parts ∙ simp (length-append, length-take, length-drop) (omega (arith, p.ends))

  -- where there is room for both, there is for the second behind the first
  pub append_room : (ys : List ℕ) → at + length (xs ++ ys) ≤ length l → end + length ys ≤ length m
  append_room ys h =
      let both = length-append xs ys in
      omega (arith, p.ends, both, append_length (omega (arith, p.ends, both)))

  -- the whole list
  append_whole : m ≡ take at l ++ xs ++ drop end l
  append_whole = sym (take-append-drop end m) ∙ ap₂ (λ (a b : List ℕ). a ++ b) p.is p.behind

-- the whole list, where a loop that came to n wrote the front
pub append_front : {l m : List ℕ} {end : ℕ} (front : ℕ → List ℕ) (k n : ℕ) → k ≡ n → Appends l 0 (front k) end m → m ≡ front n ++ drop (length (front n)) l
append_front {end = end} front k n e p = let long : end ≡ length (front k) = omega (arith, p.ends) in append_whole p ∙ rw (long, e)

-- the same element again
pub append_again : {l m : List ℕ} {at end : ℕ} (k v : ℕ) → Appends l at (replicate k v) end m → end < length m → Appends l at (replicate (k + 1) v) (end + 1) (set m end v)
append_again k v p h = rw (← replicate-append-replicate k 1 v) (append_next p v h)

-- a part of the list, written over
pub append_part : {A : Type 0} (l xs : List A) (at n end : ℕ) → end ≡ at + length xs → n ≡ end - at → end ≤ length l → Appends l at xs end (put_mid at n l xs)
append_part l xs at n end e k room = record {
  is = take-put_mid at n l xs end e (omega arith);
  ends = e;
  behind = drop-put_mid at n l xs end (omega arith) (omega arith) (omega arith);
}

-- the next of those that are copied
pub append_copy : {l m : List ℕ} {at end : ℕ} (from : List ℕ) (k : ℕ) → k < length from → Appends l at (take k from) end m → end < length m
    → Appends l at (take (k + 1) from) (end + 1) (set m end (get_or from k 0))
append_copy from k inside p h = rw (add-one k, take-suc from k 0 inside) (append_next p (get_or from k 0) h)
