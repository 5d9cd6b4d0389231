-- How long a template is at most with its holes filled, and that a buffer to whose front a whole text was written holds it.
use mathlib.Core.Path.{◌≡◌}
use mathlib.Core.Bool.{Bool, true, false}
use mathlib.Core.List.{List, [], ◌∷◌}
use Prim.Native.Char.{code}
use Prim.Native.Nat.{ℕ, zero, suc, ◌+◌, ◌*◌, ◌/◌, ◌%◌, ◌^◌, ◌<◌, ◌≤◌}
use native.Mathlib.Nat.{suc-mul, one-le-pow}
use native.Mathlib.Omega.{arith}
use lib.Dec.{eqb}
use lib.ListN.{length, get_or, take, drop, length-append, length-take}
use Rattle.model.specs.Ascii.{ascii}
use Rattle.model.specs.Mask.{if}
use Rattle.append.specs.Appends.{Appends}
use Rattle.template.specs.Template.{decimal, hex, literal, literals, behind, spaced, variables, states, condition, part, taken, filled}
use Rattle.template.specs.Holds.{Holds}
use Rattle.template.proofs.DecimalLaws.{decimal_short}

-- ---- words for the bits of masks
-- a word of a number below 10 ^ suc d
literal_short : (sign : List ℕ) (on : Bool) (d i : ℕ) → i < 10 ^ suc d → length (literal sign on i) ≤ 2 + length sign + d
unfolding literal if
literal_short sign true d i h = omega (arith, length-append sign (decimal i), decimal_short d i h)
literal_short sign false d i h = omega (arith, length-append sign (decimal i), decimal_short d i h)

-- the word of a bit that is on or off, and no word where it is neither
bit_short : (on off : Bool) (w v : List ℕ) (ws : List (List ℕ)) (n : ℕ) → length w ≤ n → length v ≤ n
    → length (behind (if on (w ∷ ws) (if off (v ∷ ws) ws))) ≤ 1 + n + length (behind ws)
unfolding behind if
bit_short true off w v ws n lw lv = omega (arith, length-append w (behind ws))
bit_short false true w v ws n lw lv = omega (arith, length-append v (behind ws))
bit_short false false w v ws n lw lv = omega arith

-- words, each behind a space
behind_short : (sign : List ℕ) (k d on off i : ℕ) → i + k ≤ 10 ^ suc d → length (behind (literals sign k on off i)) ≤ k * (3 + length sign + d)
unfolding literals behind
behind_short sign zero d on off i h = omega arith
behind_short sign (suc k) d on off i h =
    let rest = literals sign k (on / 2) (off / 2) (suc i) in
    let word = literal_short sign true d i (omega arith) in
    let negated = literal_short sign false d i (omega arith) in
    omega (
      arith,
      bit_short (eqb (on % 2) 1) (eqb (off % 2) 1) (literal sign true i) (literal sign false i) rest (2 + length sign + d) word negated,
      behind_short sign k d (on / 2) (off / 2) (suc i) (omega arith),
      suc-mul k (3 + length sign + d),
    )

spaced_short : (none : List ℕ) (ws : List (List ℕ)) → length (spaced none ws) ≤ length none + length (behind ws)
unfolding spaced behind
spaced_short none [] = omega arith
spaced_short none (w ∷ ws) = omega (arith, length-append w (behind ws))

variables_short : (m : ℕ) → length (variables m) ≤ 39
unfolding variables
variables_short m = omega (arith, spaced_short (ascii "nothing") (literals (ascii "v") 8 m 0 0), behind_short (ascii "v") 8 0 m 0 0 (omega arith))

states_short : (m : ℕ) → length (states m) ≤ 71
unfolding states
states_short m = omega (arith, spaced_short (ascii "nothing") (literals [] 16 m 0 0), behind_short [] 16 1 m 0 0 (omega arith))

condition_short : (on off : ℕ) → length (condition on off) ≤ 36
unfolding condition
condition_short on off = omega (arith, spaced_short (ascii "true") (literals (ascii "v") 8 on off 0), behind_short (ascii "v") 8 0 on off 0 (omega arith))

-- ---- templates, where no number has more than suc d digits
-- how long the text for byte b is at most
unfoldable most : ℕ → ℕ → ℕ
unfolding if
most d b =
    if (eqb b (code "#")) (suc d)
    (if (eqb b (code "%")) 2
    (if (eqb b (code "@")) 39
    (if (eqb b (code "$")) 71
    (if (eqb b (code "?")) 36
    1))))

part_short : (d b n m : ℕ) → n < 10 ^ suc d → length (part b n m) ≤ most d b
unfolding part most if hex
part_short d b n m h =
    pick (eqb b (code "#")) (decimal n) _ (suc d) _ (decimal_short d n h)
    (pick (eqb b (code "%")) (hex n) _ 2 _ (omega arith)
    (pick (eqb b (code "@")) (variables n) _ 39 _ (variables_short n)
    (pick (eqb b (code "$")) (states n) _ 71 _ (states_short n)
    (pick (eqb b (code "?")) (condition n m) (b ∷ []) 36 1 (condition_short n m) (omega arith)))))
  where
    pick : (t : Bool) (xs ys : List ℕ) (x y : ℕ) → length xs ≤ x → length ys ≤ y → length (if t xs ys) ≤ if t x y
    pick true xs ys x y lx ly = lx
    pick false xs ys x y lx ly = ly

-- how long a template is at most
unfoldable pub longest : ℕ → List ℕ → ℕ
unfolding most
longest d [] = 0
longest d (b ∷ bs) = most d b + longest d bs

-- no number has more digits
abbrev pub Few : ℕ → List ℕ → Type 0
Few d [] = Unit {0}
Few d (n ∷ ns) = (n < 10 ^ suc d) × Few d ns

few_first : (d : ℕ) (ns : List ℕ) → Few d ns → get_or ns 0 0 < 10 ^ suc d
few_first d [] h = one-le-pow (suc d) 10 (omega arith)
few_first d (n ∷ ns) h = h.0

few_drop : (d k : ℕ) (ns : List ℕ) → Few d ns → Few d (drop k ns)
few_drop d zero ns h = h
few_drop d (suc k) [] h = h
few_drop d (suc k) (n ∷ ns) h = few_drop d k ns h.1

pub filled_short : (d : ℕ) (template numbers : List ℕ) → Few d numbers → length (filled template numbers) ≤ longest d template
unfolding filled longest
filled_short d [] numbers h = omega arith
filled_short d (b ∷ bs) numbers h =
    omega (
      arith,
      length-append (part b (get_or numbers 0 0) (get_or numbers 1 0)) (filled bs (drop (taken b) numbers)),
      part_short d b (get_or numbers 0 0) (get_or numbers 1 0) (few_first d numbers h),
      filled_short d bs (drop (taken b) numbers) (few_drop d (taken b) numbers h),
    )

-- ---- a whole text at the front of a buffer
pub whole_text : {l m text : List ℕ} {end : ℕ} → Appends l 0 text end m → length m ≡ length l → length text ≤ length l → Holds m end text
whole_text p same short = record { fits = omega (arith, p.ends); is = p.is }

-- so many bytes of it are the text
pub text_length : {bytes text : List ℕ} {n : ℕ} → Holds bytes n text → n ≡ length (take n bytes)
text_length {bytes} {n = n} h = omega (arith, h.fits, length-take n bytes)
