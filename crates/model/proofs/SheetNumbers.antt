-- A sheet is refused by its own numbers only: each test on the way names one of these.
use mathlib.Core.Path.{◌≡◌, refl, subst}
use mathlib.Core.Bool.{Bool, true, false, ◌||◌, not}
use mathlib.Core.List.{List, [], ◌∷◌, Memᴰ}
use Prim.Native.Nat.{ℕ, zero, suc, ◌+◌, ◌*◌}
use native.Mathlib.Omega.{arith}
use lib.Dec.{eqb, ltb}
use lib.ListN.{length}
use Rattle.theory.specs.Lists.{member}
use Rattle.theory.proofs.ListLaws.{member_sound}
use Rattle.model.specs.declared.Refusal.{Refusal}
use Rattle.model.specs.declared.Refusal.TheVariants.{SheetTooShort, WrongMark, BadArchitecture, BadProcess, NoOwnerOrTooMany, BadAutomaton, BadEdge, BadTie, BadPrompt}
use Rattle.model.specs.Numbers.{number, sheet_numbers}
use Rattle.model.specs.Mask.{if}
use Rattle.model.specs.Sheet.{Architecture, with_process, with_tie}
use Rattle.model.specs.Reading.{Reading, refused, proper, byte, short, marked, process_marked, tie_marked, edge_marked, EN, AU, refuse◌when◌else◌, ◌then◌}
use Rattle.model.specs.Reading.{AR, ar_fault, pr_fault, prompt_fault, tie_fault, all_fault, au_fault, ed_fault, architecture_at, process_at, process_size, tie_at, edge_at, read_end}
use Rattle.model.specs.Reading.{read_edge, read_edges, read_automaton, read_process, read_processes, read_tie, read_ties, read_front, read_sheet}

-- ---- the sheet's own numbers
-- it is one of them
abbrev Own : Refusal → Type 0
Own r = member (number r) sheet_numbers ≡ true

-- who is refused is so by one of them
abbrev Early : {A : Type 0} → Reading A → Type 0
Early k = (r : Refusal) → k ≡ refused r → Own r

early_proper : {A : Type 0} (a : A) → Early (proper a)
early_proper a r e = let z : ◌≡◌ {A = ℕ} 0 1 = cc in absurd (omega arith)

early_refuse : {A : Type 0} (r : Refusal) (t : Bool) (k : Reading A) → Own r → Early k → Early (refuse◌when◌else◌ r t k)
unfolding refuse◌when◌else◌
early_refuse r true k h l q e = let z : r ≡ q = cc in subst Own z h
early_refuse r false k h l q e = l q e

early_then : {A B : Type 0} (m : Reading A) (f : A → Reading B) → Early m → ((a : A) → Early (f a)) → Early (◌then◌ m f)
unfolding ◌then◌
early_then (refused q) f h l r e = let z : q ≡ r = cc in subst Own z (h q refl)
early_then (proper a) f h l r e = l a r e

early_if : {A : Type 0} (t : Bool) (x y : Reading A) → Early x → Early y → Early (if t x y)
unfolding if
early_if true x y h l = h
early_if false x y h l = l

early_end : (b : List ℕ) (i : ℕ) → Early (read_end b i)
unfolding read_end member
early_end b i =
    early_refuse SheetTooShort (short b i 2) _ refl
    (early_refuse WrongMark (not (marked b i EN)) _ refl
    (early_refuse WrongMark (ltb (i + 2) (length b)) _ refl (early_proper [])))

early_edges : (variables states k : ℕ) (b : List ℕ) (i : ℕ) → Early (read_edges variables states k b i)
unfolding read_edges read_edge member
early_edges variables states zero b i = early_end b i
early_edges variables states (suc k) b i =
    early_if (edge_marked b i) (read_edge variables states b i (read_edges variables states k b (i + 6))) (read_end b i)
    (early_refuse SheetTooShort (short b i 6) _ refl
    (early_refuse BadEdge (ed_fault variables states (edge_at b i)) _ refl
    (early_then (read_edges variables states k b (i + 6)) _ (early_edges variables states k b (i + 6)) (λ es. early_proper (edge_at b i ∷ es)))))
    (early_end b i)

early_automaton : (a : Architecture) (b : List ℕ) (i : ℕ) → Early (read_automaton a b i)
unfolding read_automaton member
early_automaton a b i =
    early_refuse SheetTooShort (short b i 2) _ refl
    (early_refuse WrongMark (not (marked b i AU) || eqb (length a.processes) 0) _ refl
    (early_refuse SheetTooShort (short b i 6) _ refl
    (early_refuse NoOwnerOrTooMany (all_fault a) _ refl
    (early_refuse BadAutomaton (au_fault (byte b (i + 2)) (byte b (i + 3)) (byte b (i + 4) + 256 * byte b (i + 5))) _ refl
    (early_then (read_edges a.variables (byte b (i + 2)) 64 b (i + 6)) _ (early_edges a.variables (byte b (i + 2)) 64 b (i + 6)) (λ es. early_proper _))))))

early_processes : (k : ℕ) (a : Architecture) (b : List ℕ) (i : ℕ) → Early (read_processes k a b i)
unfolding read_processes read_process member
early_processes zero a b i = early_proper _
early_processes (suc k) a b i =
    let next : ℕ = i + process_size b i in
    early_if (process_marked b i) (read_process a b i (read_processes k (with_process a (process_at b i)) b next)) _
    (early_refuse SheetTooShort (short b i (process_size b i)) _ refl
    (early_refuse BadProcess (pr_fault a (process_at b i)) _ refl
    (early_refuse BadPrompt (prompt_fault a.processes (process_at b i)) _ refl (early_processes k (with_process a (process_at b i)) b next))))
    (early_proper _)

early_ties : (k : ℕ) (a : Architecture) (b : List ℕ) (i : ℕ) → Early (read_ties k a b i)
unfolding read_ties read_tie member
early_ties zero a b i = early_proper _
early_ties (suc k) a b i =
    early_if (tie_marked a b i) (read_tie a b i (read_ties k (with_tie a (tie_at b i)) b (i + 4))) _
    (early_refuse SheetTooShort (short b i 4) _ refl
    (early_refuse BadTie (tie_fault a.processes (tie_at b i)) _ refl (early_ties k (with_tie a (tie_at b i)) b (i + 4))))
    (early_proper _)

early_front : (b : List ℕ) → Early (read_front b)
unfolding read_front member
early_front b =
    early_refuse SheetTooShort (short b 0 2) _ refl
    (early_refuse WrongMark (not (marked b 0 AR)) _ refl
    (early_refuse SheetTooShort (short b 0 5) _ refl
    (early_refuse BadArchitecture (ar_fault (architecture_at b)) _ refl
    (early_then (read_processes 4 (architecture_at b) b 5) _ (early_processes 4 (architecture_at b) b 5) (λ f. early_ties 3 f.architecture b f.end)))))

early_sheet : (b : List ℕ) → Early (read_sheet b)
unfolding read_sheet
early_sheet b =
    early_then (read_front b) _ (early_front b) (λ f. early_then (read_automaton f.architecture b f.end) _ (early_automaton f.architecture b f.end) (λ u. early_proper _))

pub early : (b : List ℕ) (r : Refusal) → read_sheet b ≡ refused r → Memᴰ (number r) sheet_numbers
early b r e = member_sound (number r) sheet_numbers (early_sheet b r e)
