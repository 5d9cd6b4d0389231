-- Texts as bytes, and templates: texts with holes that numbers fill. These are definitions.
use Rattle.std.specs.Prelude.{Bool, true, false, List, [], ◌∷◌, ◌++◌, ℕ, zero, suc, ◌+◌, ◌-◌, ◌/◌, ◌%◌, eqb, ltb, get_or, drop}
use Prim.Native.Char.{code}
use Rattle.model.specs.Ascii.{ascii}
use Rattle.model.specs.Mask.{if}

-- ---- numbers
-- the digit of d: 0 to 9, then A to F
unfoldable pub digit : ℕ → ℕ
digit d = if (ltb d 10) (code "0" + d) (code "A" + (d - 10))

-- the decimal digits of n, where k are enough
unfoldable pub decimal_in : ℕ → ℕ → List ℕ
decimal_in zero n = []
decimal_in (suc k) n = let front = decimal_in k (n / 10) in if (ltb n 10) [] front ++ (digit (n % 10) ∷ [])

-- a number in decimal: suc n digits are enough
unfoldable pub decimal : ℕ → List ℕ
decimal n = decimal_in (suc n) n

-- a mask of eight bits in two upper-case hexadecimal digits
unfoldable pub hex : ℕ → List ℕ
hex m = digit (m / 16 % 16) ∷ digit (m % 16) ∷ []

-- ---- words for the bits of masks
-- number i behind a sign, and both behind a `!` where it is off
unfoldable pub literal : List ℕ → Bool → ℕ → List ℕ
literal sign on i = if on [] (ascii "!") ++ sign ++ decimal i

-- the words for the k lowest bits of two masks, on and off, lowest first, numbered from i on
unfoldable pub literals : List ℕ → ℕ → ℕ → ℕ → ℕ → List (List ℕ)
literals sign zero on off i = []
literals sign (suc k) on off i =
    let rest = literals sign k (on / 2) (off / 2) (suc i) in
    if (eqb (on % 2) 1) (literal sign true i ∷ rest) (if (eqb (off % 2) 1) (literal sign false i ∷ rest) rest)

-- words, each behind a space
unfoldable pub behind : List (List ℕ) → List ℕ
behind [] = []
behind (w ∷ ws) = ascii " " ++ w ++ behind ws

-- words with a space between each two, or `none` where there is no word
unfoldable pub spaced : List ℕ → List (List ℕ) → List ℕ
spaced none [] = none
spaced none (w ∷ ws) = w ++ behind ws

-- the variables of a mask, of which there are at most 8
unfoldable pub variables : ℕ → List ℕ
variables m = spaced (ascii "nothing") (literals (ascii "v") 8 m 0 0)

-- the automaton states of a mask, of which there are at most 16
unfoldable pub states : ℕ → List ℕ
states m = spaced (ascii "nothing") (literals [] 16 m 0 0)

-- variables that are on, and variables that are off
unfoldable pub condition : ℕ → ℕ → List ℕ
condition on off = spaced (ascii "true") (literals (ascii "v") 8 on off 0)

-- ---- one word at a time
-- a word behind a space, unless it is the first
unfoldable pub next : Bool → List ℕ → List ℕ
next first word = if first [] (ascii " ") ++ word

-- the word for number i, by the lowest bits of two masks
unfoldable pub bit_text : Bool → List ℕ → ℕ → ℕ → ℕ → List ℕ
bit_text first sign on off i =
    if (eqb (on % 2) 1) (next first (literal sign true i)) (if (eqb (off % 2) 1) (next first (literal sign false i)) [])

-- ---- templates
-- the text for byte b of a template, where n and m are the next numbers: five bytes are holes, any other stands for itself
unfoldable pub part : ℕ → ℕ → ℕ → List ℕ
part b n m =
    if (eqb b (code "#")) (decimal n)
    (if (eqb b (code "%")) (hex n)
    (if (eqb b (code "@")) (variables n)
    (if (eqb b (code "$")) (states n)
    (if (eqb b (code "?")) (condition n m)
    (b ∷ [])))))

-- how many numbers it takes
unfoldable pub taken : ℕ → ℕ
taken b =
    if (eqb b (code "#")) 1
    (if (eqb b (code "%")) 1
    (if (eqb b (code "@")) 1
    (if (eqb b (code "$")) 1
    (if (eqb b (code "?")) 2
    0))))

-- a template with its holes filled, the first hole by the first number
unfoldable pub filled : List ℕ → List ℕ → List ℕ
filled [] ns = []
filled (b ∷ bs) ns = part b (get_or ns 0 0) (get_or ns 1 0) ++ filled bs (drop (taken b) ns)
