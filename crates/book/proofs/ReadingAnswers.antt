-- What reading answers: the test of tables is that of the entries at their front, and an answer tells what was read.
use mathlib.Core.Path.{◌≡◌, refl, sym, ap, ◌∙◌}
use mathlib.Core.Bool.{Bool, true, false}
use mathlib.Core.List.{List, ◌++◌}
use Prim.Native.Nat.{ℕ, ◌≤◌}
use native.Mathlib.Omega.{arith}
use lib.ListN.{length, drop, replicate}
use lib.Seq.{take-append-le}
use Rattle.model.specs.declared.Refusal.{Refusal}
use Rattle.model.specs.declared.Refusal.TheVariants.{BadEntry}
use Rattle.model.specs.Mask.{if}
use Rattle.model.specs.Sheet.{Architecture}
use Rattle.model.specs.Reading.{Reading, refused, proper, refuse◌when◌else◌}
use Rattle.model.specs.Choice.{entries}
use Rattle.model.specs.Book.{entry_fault}
use Rattle.model.specs.Calls.{AfterRead, front, tables_of, gave}
use Rattle.model.proofs.BookRead.{fault_chosen}
use Rattle.std.specs.Prelude.{Ok, Err}
use Rattle.book.specs.Answers.{after_read, fitting_by}

-- what follows the entries is ignored
fault_prefix : (a : Architecture) (c r : List ℕ) → length (entries a) ≤ length c → entry_fault a (c ++ r) ≡ entry_fault a c
fault_prefix a c r h = fault_chosen a (c ++ r) ∙ ap (entry_fault a) (take-append-le (length (entries a)) c r h) ∙ sym (fault_chosen a c)

-- the test of tables is that of the entries at their front
pub fitting_is : (s : Architecture) (c : List ℕ) → length (entries s) ≤ length c → after_read (fitting_by s (tables_of c)) ≡ gave (refuse BadEntry when entry_fault s c else proper c)
unfolding fitting_by tables_of front if gave refuse◌when◌else◌
fitting_is s c h = rw (fault_prefix s c (drop (length c) (replicate 272 0)) h) (by (entry_fault s c))
  where
    by : (t : Bool) → after_read (if t (Err BadEntry) (Ok (tables_of c))) ≡ gave (refuse BadEntry when t else proper c)
    by true = refl
    by false = refl

-- ---- what reading answered
pub read_refused : (k : Reading (List ℕ)) (r : Refusal) → after_read (Err r) ≡ gave k → k ≡ refused r
unfolding gave
read_refused (refused q) r e = let h = ap (λ (x : AfterRead). x.answer) e in let z : r ≡ q = cc in rw z
read_refused (proper c) r e = let h = ap (λ (x : AfterRead). x.answer) e in let z : ◌≡◌ {A = ℕ} 0 1 = cc in absurd (omega arith)

pub read_done : (k : Reading (List ℕ)) (tables : List ℕ) → after_read (Ok tables) ≡ gave k → (c : List ℕ) × (k ≡ proper c) × (tables ≡ tables_of c)
unfolding gave
read_done (refused q) tables e = let h = ap (λ (x : AfterRead). x.answer) e in let z : ◌≡◌ {A = ℕ} 0 1 = cc in absurd (omega arith)
read_done (proper c) tables e = (c, refl, ap (λ (x : AfterRead). x.tables) e)
