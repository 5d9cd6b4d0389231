-- The words for the bits of two masks, written one behind another: which is due next, and what is left behind it.
use mathlib.Core.Path.{◌≡◌, refl}
use mathlib.Core.Bool.{Bool, true, false}
use mathlib.Core.List.{List, [], ◌∷◌}
use Prim.Native.Nat.{ℕ, suc, ◌+◌, ◌-◌, ◌/◌, ◌%◌, ◌<◌, ◌≤◌}
use native.Mathlib.Numerals.{add-one}
use native.Mathlib.Omega.{arith}
use lib.Dec.{eqb}
use lib.ListN.{length, length-append}
use borrow.Author.Tests.{ne_eqb}
use Rattle.model.specs.Mask.{if}
use Rattle.append.specs.Appends.{Appends}
use Rattle.append.proofs.Appending.{Appending, Opens, appending_next}
use Rattle.template.specs.Template.{decimal_in, decimal, literal, literals, behind, spaced, next, bit_text}

-- the text of the words that are left; `first` where none was written
abbrev pub left : Bool → List ℕ → List (List ℕ) → List ℕ
left first none ws = if first (spaced none ws) (behind ws)

module _ (none : List ℕ) where
  -- the next word, and those after it
  word_opens : (first : Bool) (w : List ℕ) (ws : List (List ℕ)) → Opens (left first none (w ∷ ws)) (next first w) (left false none ws)
  unfolding spaced behind next if
  word_opens true w ws = record { is = refl }
  word_opens false w ws = record { is = refl }

  -- the word of a bit that is on or off, and no word where it is neither
  bit_opens : (on off first : Bool) (w v : List ℕ) (ws : List (List ℕ))
      → Opens (left first none (if on (w ∷ ws) (if off (v ∷ ws) ws))) (if on (next first w) (if off (next first v) [])) (left (if on false (if off false first)) none ws)
  unfolding if
  bit_opens true off first w v ws = word_opens first w ws
  bit_opens false true first w v ws = word_opens first v ws
  bit_opens false false first w v ws = record { is = refl }

-- a word is not empty
literal_long : (sign : List ℕ) (on : Bool) (i : ℕ) → 1 ≤ length (literal sign on i)
unfolding literal decimal decimal_in
literal_long sign on i = simp length-append (omega arith)

next_long : (first : Bool) (w : List ℕ) → length w ≤ length (next first w)
unfolding next
next_long first w = simp length-append (omega arith)

-- so the first word is the one that is written at the start
first_is : (on off : Bool) (w v : List ℕ) (start at end : ℕ) → 1 ≤ length w → 1 ≤ length v → start ≤ at
    → end ≡ at + length (if on (next (eqb at start) w) (if off (next (eqb at start) v) [])) → eqb end start ≡ if on false (if off false (eqb at start))
unfolding if
first_is true off w v start at end lw lv h e = ne_eqb end start (λ q. omega (arith, next_long (eqb at start) w))
first_is false true w v start at end lw lv h e = ne_eqb end start (λ q. omega (arith, next_long (eqb at start) v))
first_is false false w v start at end lw lv h e = let same : end ≡ at = omega arith in rw same

module _ (none sign : List ℕ) (start bits at on off i : ℕ) where
  -- the text of the words from number i on
  abbrev pub words_from : List ℕ
  words_from = left (eqb at start) none (literals sign (bits - i) on off i)

  -- the word of number i, and those after it
  pub words_open : i < bits
      → Opens words_from (bit_text (eqb at start) sign on off i)
      (left (if (eqb (on % 2) 1) false (if (eqb (off % 2) 1) false (eqb at start))) none (literals sign (bits - (i + 1)) (on / 2) (off / 2) (i + 1)))
  unfolding literals bit_text
  words_open h =
      let e : bits - i ≡ suc (bits - (i + 1)) = omega arith in
      rw (e, add-one i) (bit_opens none (eqb (on % 2) 1) (eqb (off % 2) 1) (eqb at start) _ _ _)

-- a turn
pub words_next : {l m n all : List ℕ} {end : ℕ} (none sign : List ℕ) (start bits at on off i : ℕ) → i < bits → Appending l start all at m (words_from none sign start bits at on off i)
    → Appends m at (bit_text (eqb at start) sign on off i) end n → Appending l start all end n (words_from none sign start bits end (on / 2) (off / 2) (i + 1))
unfolding bit_text
words_next {end = end} none sign start bits at on off i h p q =
    rw (first_is (eqb (on % 2) 1) (eqb (off % 2) 1) _ _ start at end (literal_long sign true i) (literal_long sign false i) (omega (arith, p.so_far.ends)) q.ends)
    (appending_next p (words_open none sign start bits at on off i h) q)

-- no word is left
pub words_end : (none sign : List ℕ) (start bits at on off i : ℕ) → bits ≤ i → words_from none sign start bits at on off i ≡ if (eqb at start) none []
unfolding literals spaced behind
words_end none sign start bits at on off i h = let e : bits - i ≡ 0 = omega arith in rw e
