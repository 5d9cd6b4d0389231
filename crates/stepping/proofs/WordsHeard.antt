-- Words: the value of a word so far has no more digits than the word, and a direction is read as it is printed.
use mathlib.Core.Path.{◌≡◌, refl, ap, ◌∙◌}
use mathlib.Core.Bool.{Bool, true, false}
use Prim.Native.Nat.{ℕ, zero, suc, ◌+◌, ◌-◌, ◌*◌, ◌/◌, ◌%◌, ◌^◌, ◌<◌, ◌≤◌}
use native.Mathlib.Nat.{mod-lt}
use native.Mathlib.Omega.{arith}
use lib.Dec.{ltb}
use borrow.Author.Tests.{ltb-true, ltb-false, lt-ltb, le-ltb, ne_eqb}
use Rattle.model.specs.Mask.{if}
use Rattle.template.specs.Template.{digit, hex}
use Rattle.stepping.specs.declared.Word.{Word}
use Rattle.stepping.specs.Words.{digit_of, no_word, longer, extended, word_from}

-- a word with room for a digit more
pub one_digit : (d v : ℕ) → d ≤ 1 → v < 16 ^ d → v < 16
one_digit zero v l h = omega arith
one_digit (suc zero) v l h = h
one_digit (suc (suc d)) v l h = absurd (omega arith)

-- ---- as it is printed
-- the digits 0 to 9, and A to F
low_heard : (y : ℕ) → y < 10 → digit_of (48 + y) ≡ y
unfolding digit_of if
low_heard y l = rw (le-ltb (48 + y) 48 (omega arith), lt-ltb (48 + y) 58 (omega arith)) (omega arith)

high_heard : (y : ℕ) → y < 6 → digit_of (65 + y) ≡ y + 10
unfolding digit_of if
high_heard y l = rw (le-ltb (65 + y) 48 (omega arith), le-ltb (65 + y) 58 (omega arith), le-ltb (65 + y) 65 (omega arith), lt-ltb (65 + y) 71 (omega arith)) (omega arith)

digit_heard : (x : ℕ) → x < 16 → digit_of (digit x) ≡ x
unfolding digit if
digit_heard x l = by (ltb x 10) refl
  where
    by : (b : Bool) → ltb x 10 ≡ b → digit_of (if b (48 + x) (65 + (x - 10))) ≡ x
    by true e = low_heard x (ltb-true x 10 e)
    by false e = let h : 10 ≤ x = ltb-false x 10 e in high_heard (x - 10) (omega arith) ∙ omega arith

-- a digit more, in a word of so many
digit_added : (w : Word) (x : ℕ) → x < 16 → w.digits ≤ 1 → extended w (digit x) ≡ record { digits = w.digits + 1; value = 16 * w.value + x }
unfolding extended longer if
digit_added w x l few = rw (digit_heard x l, ne_eqb x 16 (λ e. absurd (omega arith)), le-ltb 1 w.digits few)

-- the text of a direction is a word of two digits with its value
pub hex_heard : (d : ℕ) → d < 256 → word_from no_word (hex d) ≡ record { digits = 2; value = d }
unfolding word_from hex
hex_heard d l =
    let high : d / 16 % 16 < 16 = mod-lt (d / 16) (omega arith) in
    let low : d % 16 < 16 = mod-lt d (omega arith) in
    ap (λ (w : Word). extended w (digit (d % 16))) (digit_added no_word (d / 16 % 16) high (omega arith))
    ∙ digit_added (record { digits = 1; value = 16 * 0 + d / 16 % 16 }) (d % 16) low (omega arith)
    ∙ ap (λ (v : ℕ). record { digits = 2; value = v }) (omega arith)
