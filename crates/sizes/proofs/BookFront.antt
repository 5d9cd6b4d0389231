-- Reading a book looks at no byte behind the first 339, one more than the longest book has: a longer one is refused with 10 either way.
use mathlib.Core.Path.{◌≡◌, refl, sym, ap, ◌∙◌}
use mathlib.Core.Bool.{Bool, true, false, not}
use mathlib.Core.List.{List}
use Prim.Native.Nat.{ℕ, ◌≤◌, ◌<◌}
use native.Mathlib.Omega.{arith}
use native.Mathlib.Decide.{dec_le}
use lib.ListN.{length, take, length-take}
use lib.Seq.{take_all}
use Rattle.model.specs.declared.Refusal.TheVariants.{BadBook}
use Rattle.model.specs.Sheet.{Architecture, ProperArchitecture}
use Rattle.model.specs.Reading.{refused}
use Rattle.model.specs.Book.{form, book_length, well_formed, entries_in, book_fault, read_book}
use Rattle.model.proofs.Refusing.{stop}
use Rattle.model.proofs.BookInverse.{filled_length, read_filled}
use Rattle.model.proofs.Sizes.{book_is_short}

-- a book that is longer than its sheet allows is refused with 10
too_long : (a : Architecture) (b : List ℕ) → book_length a < length b → read_book a b ≡ refused BadBook
unfolding read_book book_fault book_length
too_long a b h = stop BadBook _ (ap not (by (well_formed (form a) b) refl))
  where
    by : (t : Bool) → well_formed (form a) b ≡ t → well_formed (form a) b ≡ false
    by false e = e
    by true e = absurd (omega (arith, ap length (read_filled (form a) b e), filled_length (form a) (entries_in (form a) b)))

-- one byte more than the longest book is enough to see that a book is too long
pub book_front : (a : Architecture) (b : List ℕ) → ProperArchitecture a → read_book a (take 339 b) ≡ read_book a b
book_front a b good = by (dec_le (length b) 339)
  where
    by : Dec (length b ≤ 339) → read_book a (take 339 b) ≡ read_book a b
    by (yes h) = ap (read_book a) (take_all 339 b h)
    by (no h) = too_long a (take 339 b) (omega (arith, length-take 339 b, book_is_short a good)) ∙ sym (too_long a b (omega (arith, book_is_short a good)))
