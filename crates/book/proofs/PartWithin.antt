-- A part lies within the book.
use mathlib.Core.Path.{◌≡◌, refl, ap, subst}
use mathlib.Core.Bool.{false}
use mathlib.Core.List.{List, ◌++◌}
use Prim.Native.Nat.{ℕ, ◌<◌, ◌≤◌}
use native.Mathlib.Omega.{arith}
use lib.ListN.{length, length-append}
use borrow.Author.Tests.{leb-false, not-false}
use Rattle.model.specs.declared.Refusal.TheVariants.{NoSuchProcess, BadBook}
use Rattle.model.specs.Sheet.{Architecture, ProperArchitecture}
use Rattle.model.specs.Reading.{Reading, refused, proper, read_sheet}
use Rattle.model.specs.Book.{form, records, book_length, book_fault, read_book, part_end}
use Rattle.model.specs.Calls.{AfterPart, no_process, part_for, part_architecture, cut, part_of}
use Rattle.model.proofs.ProperSheet.{passes, goes_on, sheet_proper}
use Rattle.model.proofs.Sizes.{book_is_short}
use Rattle.model.proofs.PartIsRecords.{HasPart, part_right}
use Rattle.book.proofs.OneSlotMore.{right_length}

-- from its start to its end, and no further than the book goes, which is at most 338 bytes
pub record Within (p : AfterPart) (book : List ℕ) : Type 0 where
  pub rising : p.start ≤ p.end
  pub inside : p.end ≤ length book
  pub short : p.end ≤ 338

read_long : (a : Architecture) (book c : List ℕ) → read_book a book ≡ proper c → length book ≡ length (form a)
unfolding read_book book_fault
read_long a book c e = right_length (form a) book (not-false _ (passes BadBook (book_fault a book) _ e).0)

part_long : (a : Architecture) (book : List ℕ) (i : ℕ) → ProperArchitecture a → length book ≡ length (form a) → HasPart (form a) a.processes i i → Within (cut (proper a) i) book
unfolding cut book_length
part_long a book i g l h =
    let own = records i h.process h.process.bound 0 in
    let ends : part_end a.processes i ≤ length (form a) = omega (arith, ap length h.whole, length-append (h.before ++ own) h.after, length-append h.before own, h.ends) in
    record { rising = omega (arith, h.starts, h.ends); inside = omega (arith, l, ends); short = omega (arith, ends, book_is_short a g) }

within : (sheet book : List ℕ) (i : ℕ) (k : Reading Architecture) → part_architecture sheet book i ≡ k → Within (cut k i) book
unfolding part_architecture part_for cut no_process
within sheet book i (refused r) e = record { rising = omega arith; inside = omega arith; short = omega arith }
within sheet book i (proper a) e =
    let h₁ = goes_on (read_sheet sheet) _ e in
    let own = h₁.0.architecture in
    let h₂ = passes NoSuchProcess (no_process own i) _ h₁.2 in
    let h₃ = goes_on (read_book own book) _ h₂.1 in
    let same : own ≡ a = cc in
    subst (λ (x : Architecture). Within (cut (proper x) i) book) same
    (part_long own book i (sheet_proper sheet h₁.0 h₁.1).architecture (read_long own book h₃.0 h₃.1) (part_right own i (few own h₂.0)))
  where
    few : (x : Architecture) → no_process x i ≡ false → i < length x.processes
    few x f = leb-false _ _ f

pub part_within : (sheet book : List ℕ) (i : ℕ) → Within (part_of sheet book i) book
unfolding part_of
part_within sheet book i = within sheet book i (part_architecture sheet book i) refl
