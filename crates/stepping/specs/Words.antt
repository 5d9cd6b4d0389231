-- What the desk program reads, byte by byte: words of hexadecimal digits, parted by blanks. A word of one or two digits is a direction. These are definitions.
use Rattle.std.specs.Prelude.{Bool, ◌||◌, List, [], ◌∷◌, ℕ, ◌+◌, ◌-◌, ◌*◌, eqb, ltb}
use Prim.Native.Char.{code}
use Rattle.model.specs.Mask.{if}
use Rattle.stepping.specs.declared.Word.{Word}

-- space, tab, line feed and carriage return
unfoldable pub is_blank : ℕ → Bool
is_blank b = eqb b 32 || (eqb b 9 || (eqb b 10 || eqb b 13))

-- the value of a hexadecimal digit of either case; 16 for any other byte
unfoldable pub digit_of : ℕ → ℕ
unfolding if
digit_of b =
    if (ltb b (code "0")) 16
    (if (ltb b (code ":")) (b - code "0")
    (if (ltb b (code "A")) 16
    (if (ltb b (code "G")) (b - code "A" + 10)
    (if (ltb b (code "a")) 16
    (if (ltb b (code "g")) (b - code "a" + 10)
    16)))))

-- no byte of a word yet
abbrev pub no_word : Word
no_word = record { digits = 0; value = 0 }

-- a word that is no direction, whatever follows
abbrev pub no_direction : Word
no_direction = record { digits = 3; value = 0 }

-- one digit more: there is room for two
unfoldable pub longer : Word → ℕ → Word
unfolding if
longer w d = if (ltb 1 w.digits) no_direction (record { digits = w.digits + 1; value = 16 * w.value + d })

-- one byte more, which is no blank
unfoldable pub extended : Word → ℕ → Word
unfolding if longer digit_of
extended w b = if (eqb (digit_of b) 16) no_direction (longer w (digit_of b))

-- the word of these bytes, none of which is a blank
unfoldable pub word_from : Word → List ℕ → Word
unfolding extended
word_from w [] = w
word_from w (b ∷ bs) = word_from (extended w b) bs
