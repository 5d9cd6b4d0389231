-- Reading a sheet looks at no byte behind one more than the longest proper sheet has: who reads that many gets the answer for the whole file.
use mathlib.Core.Path.{◌≡◌, refl, sym, ap, ap₂, ◌∙◌}
use mathlib.Core.Bool.{Bool, ◌&&◌, ◌||◌, not}
use mathlib.Core.Logic.{⊎_elim}
use mathlib.Core.List.{List, [], ◌∷◌}
use Prim.Native.Nat.{ℕ, zero, suc, ◌+◌, ◌*◌, ◌≤◌, ◌<◌}
use native.Mathlib.Omega.{arith}
use lib.Dec.{eqb, ltb}
use lib.ListN.{length, take, length-take}
use lib.Seq.{get_or-take}
use borrow.Author.Tests.{ltb-true, ltb-false, lt-ltb, le-ltb}
use Rattle.theory.proofs.Bools.{bool_cases}
use Rattle.model.specs.declared.Refusal.{Refusal}
use Rattle.model.specs.declared.Refusal.TheVariants.{SheetTooShort, WrongMark, BadArchitecture, BadProcess, NoOwnerOrTooMany, BadAutomaton, BadEdge, BadTie, BadPrompt}
use Rattle.model.specs.Mask.{if}
use Rattle.model.specs.Sheet.{Process, Tie, Architecture, Sheet, with_process, with_tie}
use Rattle.model.specs.Reading.{Reading, refused, proper, byte, short, marked, process_marked, tie_marked, edge_marked, EN, EX, ED, AU, SY, PM, PR, refuse◌when◌else◌}
use Rattle.model.specs.Reading.{AR, ar_fault, pr_fault, prompt_fault, tie_fault, all_fault, au_fault, ed_fault, architecture_at, prompts_at, process_at, process_size, tie_at, edge_at, Front}
use Rattle.model.specs.Reading.{read_end, read_edge, read_edges, read_automaton, read_process, read_processes, read_tie, read_ties, read_front, read_sheet, ◌then◌}
use Rattle.model.specs.SheetFile.{longest_sheet}
use Rattle.model.specs.Join.{join_bytes}
use Rattle.model.specs.Calls.{reply, check_of, find_sheet, find_of}
use Rattle.model.proofs.ProperSheet.{sizes, front_read, processes_end}

-- ---- equal tests with equal rests are read alike
infixr 20 alike◌when◌else◌
alike◌when◌else◌ : {A : Type 0} (r : Refusal) {t u : Bool} {x y : Reading A} → t ≡ u → x ≡ y → refuse◌when◌else◌ r t x ≡ refuse◌when◌else◌ r u y
alike◌when◌else◌ r p q = cc

then_same : {A B : Type 0} {m n : Reading A} {f g : A → Reading B} → m ≡ n → f ≡ g → ◌then◌ m f ≡ ◌then◌ n g
then_same p q = cc

-- the rest where the test fails comes first
infixr 20 unless◌read◌else◌
unless◌read◌else◌ : {A : Type 0} {t u : Bool} {x y z w : A} → t ≡ u → x ≡ y → z ≡ w → if t z x ≡ if u w y
unless◌read◌else◌ p q r = cc

-- two tests that pass and fail together
test_same : (x m y n : ℕ) → (x < m → y < n) → (m ≤ x → n ≤ y) → ltb x m ≡ ltb y n
test_same x m y n f g = ⊎_elim (λ e. e ∙ sym (lt-ltb y n (f (ltb-true x m e)))) (λ e. e ∙ sym (le-ltb y n (g (ltb-false x m e)))) (bool_cases (ltb x m))

-- ---- what reading asks of a sheet, below this
abbrev enough : ℕ
enough = suc longest_sheet

record Same (a b : List ℕ) : Type 0 where
  bytes : (i : ℕ) → i < enough → byte a i ≡ byte b i
  ends : (i : ℕ) → i ≤ enough → ltb (length a) i ≡ ltb (length b) i
  follows : (i : ℕ) → i < enough → ltb i (length a) ≡ ltb i (length b)

taken_same : (b : List ℕ) → Same (take enough b) b
taken_same b = record {
  bytes = λ i l. get_or-take enough b i 0 l;
  ends = λ i l. test_same (length (take enough b)) i (length b) i (λ h. omega (arith, length-take enough b)) (λ h. omega (arith, length-take enough b));
  follows = λ i l. test_same i (length (take enough b)) i (length b) (λ h. omega (arith, length-take enough b)) (λ h. omega (arith, length-take enough b));
}

module _ (a b : List ℕ) (same : Same a b) where
  short_same : (i n : ℕ) → i + n ≤ enough → short a i n ≡ short b i n
  unfolding short
  short_same i n l = same.ends (i + n) l

  marked_same : (i : ℕ) (m : List ℕ) → i + 2 ≤ enough → marked a i m ≡ marked b i m
  unfolding marked
  marked_same i m l = λ j. not (short_same i 2 l j) && eqb (same.bytes i (omega arith) j) (byte m 0) && eqb (same.bytes (i + 1) (omega arith) j) (byte m 1)

  edge_marked_same : (i : ℕ) → i + 2 ≤ enough → edge_marked a i ≡ edge_marked b i
  unfolding edge_marked
  edge_marked_same i l = λ j. marked_same i ED l j || marked_same i EX l j

  -- the bytes behind the mark of a record at i
  record Fields (i : ℕ) : Type 0 where
    second : byte a (i + 2) ≡ byte b (i + 2)
    third : byte a (i + 3) ≡ byte b (i + 3)
    fourth : byte a (i + 4) ≡ byte b (i + 4)
    fifth : byte a (i + 5) ≡ byte b (i + 5)

  fields : (i : ℕ) → i + 6 ≤ enough → Fields i
  fields i l = record { second = same.bytes (i + 2) (omega arith); third = same.bytes (i + 3) (omega arith); fourth = same.bytes (i + 4) (omega arith); fifth = same.bytes (i + 5) (omega arith) }

  -- EN, with no byte after it
  end_same : (i : ℕ) → i + 3 ≤ enough → read_end a i ≡ read_end b i
  unfolding read_end
  end_same i l =
      alike SheetTooShort when short_same i 2 (omega arith) else
      alike WrongMark when ap not (marked_same i EN (omega arith)) else
      alike WrongMark when same.follows (i + 2) (omega arith) else
      refl

  -- at most k more edges of 6 bytes, then EN
  edges_same : (variables states k i : ℕ) → i + 6 * k + 3 ≤ enough → read_edges variables states k a i ≡ read_edges variables states k b i
  unfolding read_edges read_edge
  edges_same variables states zero i l = end_same i (omega arith)
  edges_same variables states (suc k) i l =
      let f : Fields i = fields i (omega arith) in
      let own : edge_at a i ≡ edge_at b i = λ j. record { from = f.second j; to = f.third j; on = f.fourth j; off = f.fifth j; unless = marked_same i EX (omega arith) j } in
      unless edge_marked_same i (omega arith) read end_same i (omega arith) else
      alike SheetTooShort when short_same i 6 (omega arith) else
      alike BadEdge when ap (ed_fault variables states) own else
      then_same (edges_same variables states k (i + 6) (omega arith)) (λ j es. proper (own j ∷ es))

  -- AU, then at most 64 edges
  automaton_same : (u : Architecture) (i : ℕ) → i ≤ 41 → read_automaton u a i ≡ read_automaton u b i
  unfolding read_automaton
  automaton_same u i l =
      let f : Fields i = fields i (omega arith) in
      let rejecting : byte a (i + 4) + 256 * byte a (i + 5) ≡ byte b (i + 4) + 256 * byte b (i + 5) = λ j. f.fourth j + 256 * f.fifth j in
      alike SheetTooShort when short_same i 2 (omega arith) else
      alike WrongMark when ap (λ (t : Bool). not t || eqb (length u.processes) 0) (marked_same i AU (omega arith)) else
      alike SheetTooShort when short_same i 6 (omega arith) else
      alike NoOwnerOrTooMany when refl {a = all_fault u} else
      alike BadAutomaton when (λ j. au_fault (f.second j) (f.third j) (rejecting j)) else
      then_same (edges_same u.variables (byte a (i + 2)) 64 (i + 6) (omega arith) ∙ ap (λ (n : ℕ). read_edges u.variables n 64 b (i + 6)) f.second)
      (λ j es. proper record { states = f.second j; initial = f.third j; rejecting = rejecting j; edges = es })

  -- at most k more PR and PM, of 6 bytes at most
  processes_same : (k : ℕ) (u : Architecture) (i : ℕ) → i + 6 * k ≤ 29 → read_processes k u a i ≡ read_processes k u b i
  unfolding read_processes read_process process_marked process_size prompts_at
  processes_same zero u i l = refl
  processes_same (suc k) u i l =
      let f : Fields i = fields i (omega arith) in
      let kind : marked a i PM ≡ marked b i PM = marked_same i PM (omega arith) in
      let size : process_size a i ≡ process_size b i = λ j. if (kind j) 6 5 in
      let own : process_at a i ≡ process_at b i =
      λ j. record { inputs = f.second j; outputs = f.third j; bound = f.fourth j; prompts = if (kind j) (f.fifth j) 0; prompted = kind j } in
      unless ap₂ (λ (s t : Bool). s || t) (marked_same i PR (omega arith)) kind read refl else
      alike SheetTooShort when short_same i (process_size a i) (omega (arith, (sizes a i).1)) ∙ ap (short b i) size else
      alike BadProcess when ap (pr_fault u) own else
      alike BadPrompt when ap (prompt_fault u.processes) own else
      processes_same k (with_process u (process_at a i)) (i + process_size a i) (omega (arith, (sizes a i).1))
      ∙ ap₂ (λ (p : Process) (n : ℕ). read_processes k (with_process u p) b (i + n)) own size

  -- at most k more SY of 4 bytes
  ties_same : (k : ℕ) (u : Architecture) (i : ℕ) → i + 4 * k ≤ 41 → read_ties k u a i ≡ read_ties k u b i
  unfolding read_ties read_tie tie_marked
  ties_same zero u i l = refl
  ties_same (suc k) u i l =
      let f : Fields i = fields i (omega arith) in
      let own : tie_at a i ≡ tie_at b i = λ j. record { left = f.second j; right = f.third j } in
      unless ap (λ (t : Bool). t && not (eqb (length u.processes) 0)) (marked_same i SY (omega arith)) read refl else
      alike SheetTooShort when short_same i 4 (omega arith) else
      alike BadTie when ap (tie_fault u.processes) own else
      ties_same k (with_tie u (tie_at a i)) (i + 4) (omega arith) ∙ ap (λ (t : Tie). read_ties k (with_tie u t) b (i + 4)) own

  -- the processes end within 29 bytes, so that the ties behind them are read alike
  tied : List ℕ → Front → Reading Front
  tied x f = read_ties 3 f.architecture x f.end

  tied_same : (m : Reading Front) → ((f : Front) → m ≡ proper f → f.end ≤ 29) → ◌then◌ m (tied a) ≡ ◌then◌ m (tied b)
  unfolding ◌then◌ tied
  tied_same (refused r) l = refl
  tied_same (proper f) l = ties_same 3 f.architecture f.end (omega (arith, l f refl))

  -- the front
  front_same : read_front a ≡ read_front b
  unfolding read_front tied
  front_same =
      let f : Fields 0 = fields 0 (omega arith) in
      let own : architecture_at a ≡ architecture_at b = λ j. record { variables = f.second j; environment = f.third j; root = f.fourth j; processes = []; ties = [] } in
      alike SheetTooShort when short_same 0 2 (omega arith) else
      alike WrongMark when ap not (marked_same 0 AR (omega arith)) else
      alike SheetTooShort when short_same 0 5 (omega arith) else
      alike BadArchitecture when ap ar_fault own else
      ap (λ (m : Reading Front). ◌then◌ m (tied a)) (processes_same 4 (architecture_at a) 5 (omega arith) ∙ ap (λ (u : Architecture). read_processes 4 u b 5) own)
      ∙ tied_same (read_processes 4 (architecture_at b) b 5) (λ f e. (processes_end 4 (architecture_at b) b 5 f e).0)

  -- a front ends within 41 bytes, so that what is behind it is read alike
  behind : List ℕ → Front → Reading Sheet
  behind x f = read_automaton f.architecture x f.end then λ u. proper record { architecture = f.architecture; automaton = u }

  behind_same : (k : Reading Front) → read_front b ≡ k → ◌then◌ k (behind a) ≡ ◌then◌ k (behind b)
  unfolding ◌then◌ behind
  behind_same (refused r) e = refl
  behind_same (proper f) e = then_same (automaton_same f.architecture f.end (front_read b f e).1) refl

  sheet_same : read_sheet a ≡ read_sheet b
  unfolding read_sheet behind
  sheet_same = ap (λ (k : Reading Front). ◌then◌ k (behind a)) front_same ∙ behind_same (read_front b) refl

pub read_prefix : (b : List ℕ) → read_sheet (take enough b) ≡ read_sheet b
read_prefix b = sheet_same (take enough b) b (taken_same b)

pub prefix : (b : List ℕ) → check_of (take enough b) ≡ check_of b
unfolding check_of
prefix b = ap reply (read_prefix b)

pub find_prefix : (b book ann : List ℕ) → find_of (take enough b) book ann ≡ find_of b book ann
unfolding find_of find_sheet
find_prefix b book ann = rw (read_prefix b)

pub join_prefix : (first second : List ℕ) → join_bytes (take enough first) (take enough second) ≡ join_bytes first second
unfolding join_bytes
join_prefix first second = rw (read_prefix first, read_prefix second)
