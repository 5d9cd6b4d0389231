-- Laws of words and bytes: how many there are, which they are, and that words read back what bytes wrote.
use mathlib.Core.Path.{◌≡◌, refl, ap, ap₂, ◌∙◌}
use mathlib.Core.List.{List, [], ◌∷◌, ◌++◌}
use Prim.Native.Nat.{ℕ, zero, suc, ◌+◌, ◌*◌, ◌/◌, ◌%◌, ◌<◌}
use native.Mathlib.Numerals.{add-one}
use native.Mathlib.Omega.{arith}
use lib.ListN.{length, get_or, take}
use lib.Seq.{take-suc}
use Rattle.words.specs.Words.{words_of, bytes_of}

-- two bytes make a word
pub words_count : (bytes : List ℕ) → length (words_of bytes) ≡ length bytes / 2
unfolding words_of
words_count [] = refl
words_count (low ∷ []) = refl
words_count (low ∷ high ∷ bytes) = omega (arith, words_count bytes)

-- word k is made of bytes 2 k and 2 k + 1
pub word_at : (bytes : List ℕ) (k : ℕ) → k < length bytes / 2 → get_or (words_of bytes) k 0 ≡ get_or bytes (2 * k) 0 + 256 * get_or bytes (2 * k + 1) 0
unfolding words_of
word_at [] k h = absurd (omega arith)
word_at (low ∷ []) k h = absurd (omega arith)
word_at (low ∷ high ∷ bytes) zero h = refl
word_at (low ∷ high ∷ bytes) (suc k) h =
    let e : 2 * suc k ≡ suc (suc (2 * k)) = omega arith in
    let f : 2 * suc k + 1 ≡ suc (suc (2 * k + 1)) = omega arith in
    word_at bytes k (omega arith) ∙ rw (f, e)

-- a word has two bytes
pub bytes_count : (words : List ℕ) → length (bytes_of words) ≡ 2 * length words
unfolding bytes_of
bytes_count [] = refl
bytes_count (word ∷ words) = omega (arith, bytes_count words)

-- words behind words
bytes_append : (xs ys : List ℕ) → bytes_of (xs ++ ys) ≡ bytes_of xs ++ bytes_of ys
unfolding bytes_of
bytes_append [] ys = refl
bytes_append (x ∷ xs) ys = ap (λ (l : List ℕ). (x % 256) ∷ (x / 256) ∷ l) (bytes_append xs ys)

-- one word more
pub bytes_next : (words : List ℕ) (k : ℕ) → k < length words → bytes_of (take (k + 1) words) ≡ bytes_of (take k words) ++ bytes_of (get_or words k 0 ∷ [])
bytes_next words k h = rw (add-one k, take-suc words k 0 h) (bytes_append (take k words) (get_or words k 0 ∷ []))

-- words read back what bytes wrote
pub words_read_back : (words : List ℕ) → words_of (bytes_of words) ≡ words
unfolding words_of bytes_of
words_read_back [] = refl
words_read_back (word ∷ words) = let e : word % 256 + 256 * (word / 256) ≡ word = omega arith in ap₂ (λ (x : ℕ) (xs : List ℕ). x ∷ xs) e (words_read_back words)

-- the front of the words is made of the front of the bytes
pub words_front : (n : ℕ) (bytes : List ℕ) → words_of (take (2 * n) bytes) ≡ take n (words_of bytes)
unfolding words_of
words_front zero bytes = refl
words_front (suc n) bytes = let e : 2 * suc n ≡ suc (suc (2 * n)) = omega arith in rw e (by bytes (words_front n))
  where
    by : (bytes : List ℕ) → ((rest : List ℕ) → words_of (take (2 * n) rest) ≡ take n (words_of rest)) → words_of (take (suc (suc (2 * n))) bytes) ≡ take (suc n) (words_of bytes)
    by [] r = refl
    by (low ∷ []) r = refl
    by (low ∷ high ∷ rest) r = ap (λ (l : List ℕ). (low + 256 * high) ∷ l) (r rest)
