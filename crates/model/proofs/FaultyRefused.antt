-- A row that begins with its records up to the first faulty one is refused by that record's number, whatever follows: what stands before is read through.
use mathlib.Core.Path.{◌≡◌, refl, sym, ap, ◌∙◌}
use mathlib.Core.Bool.{Bool, true, false, ◌&&◌, ◌||◌, not, or-true, and-false, true≢false}
use mathlib.Core.Logic.{◌⊎◌, inl, inr}
use mathlib.Core.List.{List, [], ◌∷◌, ◌++◌, append_assoc}
use Prim.Native.Nat.{ℕ, suc, ◌+◌, ◌-◌, ◌≤◌, ◌<◌}
use native.Mathlib.Omega.{arith}
use native.Mathlib.Decide.{dec_le}
use lib.Dec.{eqb}
use lib.ListN.{length}
use borrow.Author.Tests.{eqb-true, eq-eqb, ne_eqb, lt-ltb}
use Rattle.theory.proofs.Bools.{and_is}
use Rattle.model.specs.declared.Refusal.{Refusal}
use Rattle.model.specs.declared.Refusal.TheVariants.{SheetTooShort, WrongMark, BadArchitecture, BadProcess, NoOwnerOrTooMany, BadAutomaton, BadEdge, BadTie, BadPrompt}
use Rattle.model.specs.Sheet.{Process, Tie, Architecture, Edge, Automaton, Sheet, with_process, with_tie, with_edge, as_pr, ProperFront, ProperArchitecture, ProperAutomaton, ProperSheet}
use Rattle.model.specs.Reading.{refused, marked, tie_marked, edge_marked, AR, SY, AU, ED, EX, EN, ar_fault, pr_fault, prompt_fault, tie_fault, all_fault, au_fault, ed_fault}
use Rattle.model.specs.Reading.{read_end, read_automaton, read_front, read_sheet}
use Rattle.model.specs.SheetFile.{process_bytes, tie_bytes, edge_bytes, states_bytes, front_bytes, records_bytes, sheet_bytes, FollowsFront, FollowsEdges}
use Rattle.model.specs.SheetFile.{Faulty, wrong_first_mark, bad_architecture, wrong_mark_behind_front, bad_process, bad_prompt, bad_tie, no_owner_or_too_many, bad_automaton}
use Rattle.model.specs.SheetFile.{wrong_mark_behind_edges, bad_edge, byte_behind_end, BeginsFaulty}
use Rattle.model.proofs.Refusing.{stop, go, then_refused}
use Rattle.model.proofs.ProperSheet.{opening_proper, process_more, plain_fault, plain_more, tie_more, front_whole, no_edge_proper}
use Rattle.model.proofs.RecordMore.{edge_more}
use Rattle.model.proofs.FaultsExact.{or_off, plain_faultless, front_faultless}
use Rattle.model.proofs.RecordAt.{At, behind, length_at, long_enough, marked_at, process_marked_is, written, written_same}
use Rattle.model.proofs.FrontReads.{tests, process_next, opening_next, then_ties, front_through, NoProcess, tie_next, ties_front, front_done}
use Rattle.model.proofs.AutomatonReads.{states_next, edge_next}
use Rattle.model.proofs.SheetReads.{front_refused, automaton_refused, edges_refused, end_refused, end_no_edge}

-- ---- what is not proper has a fault
-- a test that, failed, would prove what is not
passed : {P : Type 0} (t : Bool) → (t ≡ false → P) → ¬ P → t ≡ true
passed true f n = refl
passed false f n = absurd (n (f refl))

-- ---- a mark of two bytes that is another one
other_mark : {y z v w : ℕ} → ¬ (y ∷ z ∷ [] ≡ v ∷ w ∷ []) → (eqb y v && eqb z w) ≡ false
other_mark {y} {z} {v} {w} n = by (eqb y v && eqb z w) refl
  where
    by : (t : Bool) → (eqb y v && eqb z w) ≡ t → (eqb y v && eqb z w) ≡ false
    by false e = e
    by true e =
        let h = (and_is (eqb y v) (eqb z w)).0 e in
        let first : y ≡ v = eqb-true y v h.0 in
        let second : z ≡ w = eqb-true z w h.1 in
        absurd (n (rw (first, second)))

-- ---- a wrong mark
first_mark_wrong : (m x b : List ℕ) → b ≡ m ++ x → length m ≡ 2 → ¬ (m ≡ AR) → read_front b ≡ refused WrongMark
unfolding read_front
first_mark_wrong [] x b e l n = absurd (omega arith)
first_mark_wrong (y ∷ []) x b e l n = absurd (omega arith)
first_mark_wrong (y ∷ z ∷ w ∷ ws) x b e l n = absurd (omega arith)
first_mark_wrong (y ∷ z ∷ []) x b e l n =
    let start : At b 0 (y ∷ z ∷ x) = behind [] (y ∷ z ∷ x) e in
    go SheetTooShort _ (long_enough start 2 (omega arith)) ∙ stop WrongMark _ (ap not (marked_at start AR ∙ other_mark n))

mark_wrong : (a : Architecture) (m x b : List ℕ) → b ≡ front_bytes a ++ (m ++ x) → ProperFront a → length m ≡ 2 → ¬ FollowsFront a m → read_sheet b ≡ refused WrongMark
unfolding read_automaton tie_marked
mark_wrong a [] x b e g l n = absurd (omega arith)
mark_wrong a (y ∷ []) x b e g l n = absurd (omega arith)
mark_wrong a (y ∷ z ∷ w ∷ ws) x b e g l n = absurd (omega arith)
mark_wrong a (y ∷ z ∷ []) x b e g l n =
    automaton_refused b a i (front_done a (y ∷ z ∷ x) b e g (room (dec_le 4 (length a.processes)) a.ties refl) (no_tie (dec_le 3 (length a.ties)) (dec_le 1 (length a.processes)))) WrongMark
    (go SheetTooShort _ (long_enough here 2 (omega arith)) ∙ stop WrongMark _ (mark (dec_le 1 (length a.processes))))
  where
    i : ℕ
    i = length (front_bytes a)

    here : At b i (y ∷ z ∷ x)
    here = behind (front_bytes a) (y ∷ z ∷ x) e

    -- no process may stand there
    room : Dec (4 ≤ length a.processes) → (ts : List Tie) → a.ties ≡ ts → NoProcess b a
    room (yes h) ts is = let few : length a.processes ≤ 4 = g.few_processes in inl (omega arith)
    room (no h) [] is =
        inr (inr (process_marked_is here ∙ or_off (other_mark (λ q. n (inl (inl q, omega arith, is)))) (other_mark (λ q. n (inl (inr q, omega arith, is))))))
    room (no h) (t ∷ ts) is = inr (inl (λ none. omega (arith, ap length is, ap length none)))

    -- no SY
    no_tie : Dec (3 ≤ length a.ties) → Dec (1 ≤ length a.processes) → (length a.ties ≡ 3) ⊎ (tie_marked a b i ≡ false)
    no_tie (yes h) some = let few : length a.ties ≤ 3 = g.few_ties in inl (omega arith)
    no_tie (no h) (yes some) = inr (ap (λ (t : Bool). t && not (eqb (length a.processes) 0)) (marked_at here SY ∙ other_mark (λ q. n (inr (inl (q, some, omega arith))))))
    no_tie (no h) (no none) = inr (ap (λ (t : Bool). marked b i SY && not t) (eq-eqb (length a.processes) 0 (omega arith)) ∙ and-false (marked b i SY))

    -- and no AU
    mark : Dec (1 ≤ length a.processes) → (not (marked b i AU) || eqb (length a.processes) 0) ≡ true
    mark (yes h) = ap (λ (t : Bool). not t || eqb (length a.processes) 0) (marked_at here AU ∙ other_mark (λ q. n (inr (inr (q, h)))))
    mark (no h) = ap (λ (t : Bool). not (marked b i AU) || t) (eq-eqb (length a.processes) 0 (omega arith)) ∙ or-true (not (marked b i AU))

mark_wrong_behind_edges : (s : Sheet) (m x b : List ℕ) → b ≡ records_bytes s ++ (m ++ x) → ProperSheet s → length m ≡ 2 → ¬ FollowsEdges s.automaton m → read_sheet b ≡ refused WrongMark
unfolding read_end edge_marked
mark_wrong_behind_edges s [] x b e g l n = absurd (omega arith)
mark_wrong_behind_edges s (y ∷ []) x b e g l n = absurd (omega arith)
mark_wrong_behind_edges s (y ∷ z ∷ w ∷ ws) x b e g l n = absurd (omega arith)
mark_wrong_behind_edges s (y ∷ z ∷ []) x b e g l n =
    end_refused s (y ∷ z ∷ x) b e g WrongMark (room (dec_le 64 (length s.automaton.edges)))
    (go SheetTooShort _ (long_enough here 2 (omega arith)) ∙ stop WrongMark _ (ap not (marked_at here EN ∙ other_mark (λ q. n (inr q)))))
  where
    here : At b (length (records_bytes s)) (y ∷ z ∷ x)
    here = behind (records_bytes s) (y ∷ z ∷ x) e

    -- no edge may stand there
    room : Dec (64 ≤ length s.automaton.edges) → (length s.automaton.edges ≡ 64) ⊎ (edge_marked b (length (records_bytes s)) ≡ false)
    room (yes h) = let few : length s.automaton.edges ≤ 64 = g.automaton.few_edges in inl (omega arith)
    room (no h) = inr (or_off (marked_at here ED ∙ other_mark (λ q. n (inl (inl q, omega arith)))) (marked_at here EX ∙ other_mark (λ q. n (inl (inr q, omega arith)))))

-- a byte behind EN
end_goes_on : (s : Sheet) (y : ℕ) (x b : List ℕ) → b ≡ records_bytes s ++ (EN ++ (y ∷ x)) → ProperSheet s → read_sheet b ≡ refused WrongMark
unfolding read_end
end_goes_on s y x b e g =
    let i : ℕ = length (records_bytes s) in
    let here : At b i (EN ++ (y ∷ x)) = behind (records_bytes s) (EN ++ (y ∷ x)) e in
    let mark : marked b i EN ≡ true = marked_at here EN in
    end_refused s (EN ++ (y ∷ x)) b e g WrongMark (inr (end_no_edge here))
    (go SheetTooShort _ (long_enough here 2 (omega arith)) ∙ go WrongMark _ (ap not mark) ∙ stop WrongMark _ (lt-ltb (i + 2) (length b) (omega (arith, length_at here))))

-- ---- a faulty record
architecture_bad : (a : Architecture) (x b : List ℕ) → b ≡ front_bytes a ++ x → a.processes ≡ [] → a.ties ≡ [] → ¬ ProperFront a → read_front b ≡ refused BadArchitecture
architecture_bad a x b e none untied n = opening_next a x b e ∙ stop BadArchitecture _ (passed (ar_fault a) (opening_proper a none untied) n)

-- a process behind a proper front is tested
process_reached : (a : Architecture) (p : Process) (x b : List ℕ) → b ≡ front_bytes a ++ (process_bytes p ++ x) → ProperFront a → length a.processes < 4 → a.ties ≡ []
    → {r : Refusal} → tests b a (3 - length a.processes) (length (front_bytes a) + length (process_bytes p)) (written p) ≡ refused r → read_front b ≡ refused r
unfolding then_ties
process_reached a p x b e g few untied f =
    let k : ℕ = 3 - length a.processes in
    front_through a (process_bytes p ++ x) b (suc k) e g untied (omega arith)
    ∙ then_refused _ (process_next b (length (front_bytes a)) a k p x (behind (front_bytes a) (process_bytes p ++ x) e) ∙ f)

process_bad : (a : Architecture) (p : Process) (x b : List ℕ) → b ≡ front_bytes a ++ (process_bytes p ++ x) → ProperFront a → length a.processes < 4 → a.ties ≡ []
    → ¬ ProperFront (with_process a (as_pr p)) → read_front b ≡ refused BadProcess
unfolding written
process_bad a p x b e g few untied n =
    let fault : pr_fault a (written p) ≡ pr_fault a p = sym (plain_fault a (written p)) ∙ plain_fault a p in
    process_reached a p x b e g few untied (stop BadProcess _ (fault ∙ passed (pr_fault a p) (plain_more a p g few) n))

prompt_bad : (a : Architecture) (p : Process) (x b : List ℕ) → b ≡ front_bytes a ++ (process_bytes p ++ x) → ProperFront a → length a.processes < 4 → a.ties ≡ []
    → p.prompted ≡ true → ProperFront (with_process a (as_pr p)) → ¬ ProperFront (with_process a p) → read_front b ≡ refused BadPrompt
prompt_bad a p x b e g few untied prompted plain n =
    let none : p.prompted ≡ false → p.prompts ≡ 0 = λ z. absurd (true≢false (sym prompted ∙ z)) in
    let good : pr_fault a p ≡ false = plain_faultless a p plain in
    process_reached a p x b e g few untied
    (ap (tests b a _ _) (written_same p none) ∙ go BadProcess _ good ∙ stop BadPrompt _ (passed (prompt_fault a.processes p) (λ f. process_more a p g few good f none) n))

tie_bad : (a : Architecture) (t : Tie) (x b : List ℕ) → b ≡ front_bytes a ++ (tie_bytes t ++ x) → ProperFront a → 1 ≤ length a.processes → length a.ties < 3
    → ¬ ProperFront (with_tie a t) → read_front b ≡ refused BadTie
unfolding tie_bytes
tie_bad a t x b e g some few n =
    let i : ℕ = length (front_bytes a) in
    let here : At b i (tie_bytes t ++ x) = behind (front_bytes a) (tie_bytes t ++ x) e in
    ties_front a (tie_bytes t ++ x) b e g (inr (inr (process_marked_is here))) (suc (2 - length a.ties)) (omega arith)
    ∙ tie_next b i a (2 - length a.ties) t x here some
    ∙ stop BadTie _ (passed (tie_fault a.processes t) (tie_more a t g few) n)

-- AU behind a proper front is reached
module _ (a : Architecture) (u : Automaton) (x b : List ℕ) (e : b ≡ front_bytes a ++ (states_bytes u ++ x)) (g : ProperFront a) where
  states_there : At b (length (front_bytes a)) (states_bytes u ++ x)
  states_there = behind (front_bytes a) (states_bytes u ++ x) e

  states_reached : (r : Refusal) → read_automaton a b (length (front_bytes a)) ≡ refused r → read_sheet b ≡ refused r
  unfolding states_bytes tie_marked
  states_reached r f =
      automaton_refused b a (length (front_bytes a)) (front_done a (states_bytes u ++ x) b e g (inr (inr (process_marked_is states_there))) (inr (rw (marked_at states_there SY)))) r f

  owner_missing : 1 ≤ length a.processes → ¬ ProperArchitecture a → read_sheet b ≡ refused NoOwnerOrTooMany
  owner_missing some n =
      let several : eqb (length a.processes) 0 ≡ false = ne_eqb (length a.processes) 0 (λ z. omega arith) in
      states_reached NoOwnerOrTooMany
      (states_next b (length (front_bytes a)) a u x states_there some ∙ stop NoOwnerOrTooMany _ (passed (all_fault a) (front_whole a g several) n))

  automaton_bad : ProperArchitecture a → u.edges ≡ [] → ¬ ProperAutomaton a.variables u → read_sheet b ≡ refused BadAutomaton
  automaton_bad h none n =
      states_reached BadAutomaton
      (states_next b (length (front_bytes a)) a u x states_there h.some_process
      ∙ go NoOwnerOrTooMany _ (front_faultless a h)
      ∙ stop BadAutomaton _ (passed (au_fault u.states u.initial u.rejecting) (no_edge_proper a.variables u none) n))

edge_bad : (s : Sheet) (q : Edge) (x b : List ℕ) → b ≡ records_bytes s ++ (edge_bytes q ++ x) → ProperSheet s → length s.automaton.edges < 64
    → ¬ ProperAutomaton s.architecture.variables (with_edge s.automaton q) → read_sheet b ≡ refused BadEdge
edge_bad s q x b e g few n =
    let k : ℕ = 63 - length s.automaton.edges in
    let variables : ℕ = s.architecture.variables in
    let states : ℕ = s.automaton.states in
    edges_refused s (edge_bytes q ++ x) b e g BadEdge (suc k) (omega arith)
    (edge_next b variables states (length (records_bytes s)) k q x (behind (records_bytes s) (edge_bytes q ++ x) e)
    ∙ stop BadEdge _ (passed (ed_fault variables states q) (edge_more variables s.automaton q g.automaton few) n))

-- ---- whatever follows
pub faulty_refused : (p rest : List ℕ) (r : Refusal) → Faulty p r → read_sheet (p ++ rest) ≡ refused r
unfolding sheet_bytes
faulty_refused p rest r (wrong_first_mark m l n) = front_refused (m ++ rest) WrongMark (first_mark_wrong m rest (m ++ rest) refl l n)
faulty_refused p rest r (bad_architecture a none untied n) =
    front_refused (front_bytes a ++ rest) BadArchitecture (architecture_bad a rest (front_bytes a ++ rest) refl none untied n)
faulty_refused p rest r (wrong_mark_behind_front a m g l n) = mark_wrong a m rest (front_bytes a ++ m ++ rest) (append_assoc (front_bytes a) m rest) g l n
faulty_refused p rest r (bad_process a q g few untied n) =
    front_refused (front_bytes a ++ process_bytes q ++ rest) BadProcess
    (process_bad a q rest (front_bytes a ++ process_bytes q ++ rest) (append_assoc (front_bytes a) (process_bytes q) rest) g few untied n)
faulty_refused p rest r (bad_tie a t g some few n) =
    front_refused (front_bytes a ++ tie_bytes t ++ rest) BadTie (tie_bad a t rest (front_bytes a ++ tie_bytes t ++ rest) (append_assoc (front_bytes a) (tie_bytes t) rest) g some few n)
faulty_refused p rest r (bad_prompt a q g few untied prompted plain n) =
    front_refused (front_bytes a ++ process_bytes q ++ rest) BadPrompt
    (prompt_bad a q rest (front_bytes a ++ process_bytes q ++ rest) (append_assoc (front_bytes a) (process_bytes q) rest) g few untied prompted plain n)
faulty_refused p rest r (no_owner_or_too_many a u g some n) =
    owner_missing a u rest (front_bytes a ++ states_bytes u ++ rest) (append_assoc (front_bytes a) (states_bytes u) rest) g some n
faulty_refused p rest r (bad_automaton a u g none n) =
    automaton_bad a u rest (front_bytes a ++ states_bytes u ++ rest) (append_assoc (front_bytes a) (states_bytes u) rest) g.front g none n
faulty_refused p rest r (wrong_mark_behind_edges s m g l n) =
    mark_wrong_behind_edges s m rest (records_bytes s ++ m ++ rest) (append_assoc (records_bytes s) m rest) g l n
faulty_refused p rest r (bad_edge s q g few n) = edge_bad s q rest (records_bytes s ++ edge_bytes q ++ rest) (append_assoc (records_bytes s) (edge_bytes q) rest) g few n
faulty_refused p rest r (byte_behind_end s y g) =
    end_goes_on s y rest (records_bytes s ++ EN ++ (y ∷ []) ++ rest)
    (append_assoc (records_bytes s ++ EN) (y ∷ []) rest ∙ append_assoc (records_bytes s) EN (y ∷ rest)) g

pub begins_faulty_refused : (b : List ℕ) (r : Refusal) → BeginsFaulty b r → read_sheet b ≡ refused r
begins_faulty_refused b r f = ap read_sheet f.whole ∙ faulty_refused f.faulty f.rest r f.fault
