-- A front that is read is a proper one, and so is a sheet; neither is long.
use mathlib.Core.Path.{◌≡◌, refl, sym, ap, ap₂, ◌∙◌, subst}
use mathlib.Core.Bool.{Bool, true, false, ◌||◌, not, true≢false}
use mathlib.Core.Logic.{◌⊎◌, inl, inr, ⊎_elim}
use mathlib.Core.List.Memᴰ
use mathlib.Core.List.{List, [], ◌∷◌, ◌++◌, Memᴰ}
use Prim.Native.Nat.{ℕ, zero, suc, ◌+◌, ◌*◌, ◌-◌, ◌^◌, ◌≤◌, ◌<◌}
use native.Mathlib.Omega.{arith}
use lib.Dec.{eqb, ltb}
use lib.ListN.{length, length-append, get_or-append}
use borrow.Author.Tests.{leb-false, ltb-false, eqb-false, eqb-true, eq-eqb, not-false}
use Rattle.model.specs.declared.Refusal.{Refusal}
use Rattle.model.specs.declared.Refusal.TheVariants.{SheetTooShort, WrongMark, BadArchitecture, BadProcess, NoOwnerOrTooMany, BadAutomaton, BadEdge, BadTie, BadPrompt}
use lib.Bits.{bit_and, and_comm, and_zero_l, and_le_r}
use Rattle.theory.specs.Lists.{empty, before, InTurn, done, and_then, all, from}
use Rattle.theory.proofs.ListLaws.{all_is, from_has, pairwise_append, turn_more}
use Rattle.model.specs.Mask.{if, within, share, beyond}
use Rattle.model.specs.Sheet.{Process, Tie, Architecture, Edge, Automaton, Sheet, with_process, with_tie, nobody, process_no, as_pr, outputs_of, owned, Apart}
use Rattle.model.specs.Sheet.{ProperProcess, ProperPrompts, SameShape, ProperTie, ProperTies, ProperFront, ProperArchitecture, ProperEdge, ProperEdges, ProperAutomaton, ProperSheet}
use Rattle.model.specs.Reading.{Reading, refused, proper, byte, short, marked, process_marked, tie_marked, edge_marked, EN, AU, PM, AR, refuse◌when◌else◌, ◌then◌}
use Rattle.model.specs.Reading.{ar_fault, taken, field_fault, pr_fault, prompt_fault, unlike, tie_fault, all_fault, au_fault, ed_fault, architecture_at, prompts_at, process_at, process_size, tie_at, edge_at, Front}
use Rattle.model.specs.Reading.{read_end, read_edge, read_edges, read_automaton, read_process, read_processes, read_tie, read_ties, read_front, read_sheet}
use Rattle.model.specs.SheetFile.{longest_sheet}

-- ---- the first fault in order
pub passes : {A : Type 0} (r : Refusal) (t : Bool) (k : Reading A) {a : A} → refuse◌when◌else◌ r t k ≡ proper a → (t ≡ false) × (k ≡ proper a)
unfolding refuse◌when◌else◌
passes r true k e = let z : ◌≡◌ {A = ℕ} 0 1 = cc in absurd (omega arith)
passes r false k e = (refl, e)

pub goes_on : {A B : Type 0} (m : Reading A) (f : A → Reading B) {b : B} → ◌then◌ m f ≡ proper b → (a : A) × (m ≡ proper a) × (f a ≡ proper b)
unfolding ◌then◌
goes_on (refused r) f e = let z : ◌≡◌ {A = ℕ} 0 1 = cc in absurd (omega arith)
goes_on (proper a) f e = (a, refl, e)

pub if_cases : {A : Type 0} (t : Bool) (x y : A) {z : A} → if t x y ≡ z → (x ≡ z) ⊎ (y ≡ z)
unfolding if
if_cases true x y e = inl e
if_cases false x y e = inr e

pub or-false : (a b : Bool) → (a || b) ≡ false → (a ≡ false) × (b ≡ false)
or-false true b e = absurd (true≢false e)
or-false false b e = (refl, e)

pub below_bit : (m n : ℕ) → beyond m n ≡ false → m < 2 ^ n
unfolding beyond
below_bit m n e = leb-false (2 ^ n) m e

pub same_proper : {A : Type 0} (x y : A) → proper x ≡ proper y → x ≡ y
same_proper x y e = cc

-- ---- the fields of a record without fault
pub edge_proper : (variables states : ℕ) (e : Edge) → ed_fault variables states e ≡ false → ProperEdge variables states e
unfolding ed_fault
edge_proper variables states e f =
    let h₁ = or-false _ _ f in
    let h₂ = or-false _ _ h₁.0 in
    let h₃ = or-false _ _ h₂.0 in
    let h₄ = or-false _ _ h₃.0 in
    record {
      from_known = leb-false _ _ h₄.0;
      to_known = leb-false _ _ h₄.1;
      on_known = below_bit _ _ h₃.1;
      off_known = below_bit _ _ h₂.1;
      on_off_apart = h₁.1;
    }

pub fields_proper : (variables environment : ℕ) (p : Process) → field_fault variables environment p ≡ false → ProperProcess variables environment p
unfolding field_fault
fields_proper variables environment p f =
    let h₁ = or-false _ _ f in
    let h₂ = or-false _ _ h₁.0 in
    let h₃ = or-false _ _ h₂.0 in
    let h₄ = or-false _ _ h₃.0 in
    let h₅ = or-false _ _ h₄.0 in
    let h₆ = or-false _ _ h₅.0 in
    record {
      inputs_known = below_bit _ _ h₆.0;
      outputs_known = below_bit _ _ h₆.1;
      outputs_free = h₅.1;
      few_inputs = ltb-false _ _ h₄.1;
      inputs_of_others = h₃.1;
      some_state = let n : ¬ (p.bound ≡ 0) = eqb-false _ _ h₂.1 in omega arith;
      few_states = ltb-false _ _ h₁.1;
    }

pub states_proper : (states initial rejecting : ℕ) → au_fault states initial rejecting ≡ false → (1 ≤ states) × (states ≤ 16) × (initial < states) × (rejecting < 2 ^ states)
unfolding au_fault
states_proper states initial rejecting f =
    let h₁ = or-false _ _ f in
    let h₂ = or-false _ _ h₁.0 in
    let h₃ = or-false (eqb states 0) (ltb 16 states) h₂.0 in
    let n : ¬ (states ≡ 0) = eqb-false _ _ h₃.0 in
    (omega arith, ltb-false _ _ h₃.1, leb-false _ _ h₂.1, below_bit _ _ h₁.1)

-- AU alone, without a fault
pub no_edge_proper : (variables : ℕ) (u : Automaton) → u.edges ≡ [] → au_fault u.states u.initial u.rejecting ≡ false → ProperAutomaton variables u
no_edge_proper variables u none f =
    let s = states_proper u.states u.initial u.rejecting f in
    record {
      some_states = s.0;
      few_states = s.1;
      initial_known = s.2;
      rejecting_known = s.3;
      few_edges = omega (arith, ap length none);
      edges_proper = rw none (λ x m. absurd (Memᴰ.not-nil m));
    }

-- AR, with no process and no tie behind it yet
pub opening_proper : (a : Architecture) → a.processes ≡ [] → a.ties ≡ [] → ar_fault a ≡ false → ProperFront a
unfolding ar_fault
opening_proper a none untied f =
    let h₁ = or-false _ _ f in
    let h₂ = or-false _ _ h₁.0 in
    let h₃ = or-false _ _ h₂.0 in
    record {
      few_variables = ltb-false _ _ h₃.0;
      few_environment = ltb-false _ _ h₃.1;
      environment_known = ltb-false _ _ h₂.1;
      root_known = below_bit _ _ h₁.1;
      few_processes = omega (arith, ap length none);
      processes_proper = rw none (λ p m. absurd (Memᴰ.not-nil m));
      outputs_apart = rw none empty;
      prompts_proper = rw none done;
      few_ties = omega (arith, ap length untied);
      ties_proper = rw untied (λ t m. absurd (Memᴰ.not-nil m));
    }

-- ---- one process more
pub apart_sym : (m n : ℕ) → Apart m n → Apart n m
unfolding share
apart_sym m n e = rw (and_comm n m) e

-- an output that is not taken is one of none before it
not_taken : (ps : List Process) (p : Process) → taken ps p ≡ false → (q : Process) → Memᴰ q ps → Apart q.outputs p.outputs
unfolding taken
not_taken [] p f q m = absurd (Memᴰ.not-nil m)
not_taken (x ∷ ps) p f q m =
    let h = or-false (share p.outputs x.outputs) (taken ps p) f in
    ⊎_elim (λ (e : q ≡ x). rw e (apart_sym p.outputs x.outputs h.0)) (λ i. not_taken ps p h.1 q i) (Memᴰ.cases_cons m)

-- a tie of processes is one still among more
tie_stays : (ps : List Process) (p : Process) (t : Tie) → ProperTie ps t → ProperTie (ps ++ (p ∷ [])) t
tie_stays ps p t g = record {
  left_known = omega (arith, length-append ps (p ∷ []), g.left_known);
  right_known = omega (arith, length-append ps (p ∷ []), g.right_known);
  two = g.two;
  shape = rw (get_or-append ps (p ∷ []) nobody t.left g.left_known, get_or-append ps (p ∷ []) nobody t.right g.right_known) g.shape;
}

-- prompt inputs without a fault
within_lower : (lower : List Process) (p : Process) → prompt_fault lower p ≡ false → (p.prompted ≡ false → p.prompts ≡ 0) → ProperPrompts lower p
unfolding prompt_fault
within_lower lower p f none =
    let h = or-false (not (within p.prompts p.inputs)) (not (within p.prompts (outputs_of lower))) f in
    record { prompts_read = not-false _ h.0; prompts_lower = not-false _ h.1; none_of_PR = none }

pub process_more : (a : Architecture) (p : Process) → ProperFront a → length a.processes < 4 → pr_fault a p ≡ false → prompt_fault a.processes p ≡ false
    → (p.prompted ≡ false → p.prompts ≡ 0) → ProperFront (with_process a p)
unfolding with_process pr_fault
process_more a p g few f f' none =
    let h = or-false (field_fault a.variables a.environment p) (taken a.processes p) f in
    record {
      few_variables = g.few_variables;
      few_environment = g.few_environment;
      environment_known = g.environment_known;
      root_known = g.root_known;
      few_processes = omega (arith, length-append a.processes (p ∷ []));
      processes_proper = λ q m. ⊎_elim (λ i. g.processes_proper q i)
          (λ i. subst (ProperProcess a.variables a.environment) (sym (Memᴰ.eq_of_singleton i)) (fields_proper _ _ p h.0)) (Memᴰ.append_cases a.processes m);
      outputs_apart =
          pairwise_append g.outputs_apart (before (λ q m. absurd (Memᴰ.not-nil m)) empty)
          (λ q r i j. subst (λ (x : Process). Apart q.outputs x.outputs) (sym (Memᴰ.eq_of_singleton j)) (not_taken a.processes p h.1 q i));
      prompts_proper = turn_more g.prompts_proper (within_lower a.processes p f' none);
      few_ties = g.few_ties;
      ties_proper = λ t m. tie_stays a.processes p t (g.ties_proper t m);
    }

-- prompt inputs are inputs
pub prompts_few : {lower ps : List Process} → InTurn ProperPrompts lower ps → (p : Process) → Memᴰ p ps → p.prompts ≤ p.inputs
unfolding within
prompts_few done p m = absurd (Memᴰ.not-nil m)
prompts_few (and_then {x = q} own rest) p m =
    let all : bit_and q.prompts q.inputs ≡ q.prompts = eqb-true _ _ own.prompts_read in
    ⊎_elim (λ (e : p ≡ q). subst (λ (r : Process). r.prompts ≤ r.inputs) (sym e) (omega (arith, and_le_r q.prompts q.inputs)))
    (λ i. prompts_few rest p i) (Memᴰ.cases_cons m)

none_within : (m : ℕ) → within 0 m ≡ true
unfolding within
none_within m = eq-eqb (bit_and 0 m) 0 (and_zero_l m)

-- no prompt input has a fault
pub no_prompt_fault : (lower : List Process) (p : Process) → p.prompts ≡ 0 → prompt_fault lower p ≡ false
unfolding prompt_fault
no_prompt_fault lower p none =
    let off : (m : ℕ) → not (within p.prompts m) ≡ false = λ m. ap (λ (n : ℕ). not (within n m)) none ∙ ap not (none_within m) in
    ap₂ (λ (s t : Bool). s || t) (off p.inputs) (off (outputs_of lower))

-- 4 does not look at them
plain_taken : (ps : List Process) (p : Process) → taken ps (as_pr p) ≡ taken ps p
unfolding taken
plain_taken [] p = refl
plain_taken (q ∷ ps) p = ap (λ (t : Bool). share p.outputs q.outputs || t) (plain_taken ps p)

pub plain_fault : (a : Architecture) (p : Process) → pr_fault a (as_pr p) ≡ pr_fault a p
unfolding pr_fault field_fault
plain_fault a p = ap (λ (t : Bool). field_fault a.variables a.environment p || t) (plain_taken a.processes p)

-- so a process whose other fields have no fault is proper as a PR
pub plain_more : (a : Architecture) (p : Process) → ProperFront a → length a.processes < 4 → pr_fault a p ≡ false → ProperFront (with_process a (as_pr p))
plain_more a p g few f = process_more a (as_pr p) g few (plain_fault a p ∙ f) (no_prompt_fault a.processes (as_pr p) refl) (λ e. refl)

-- the record at i has prompt inputs only if it is a PM
pub none_of_PR_at : (b : List ℕ) (i : ℕ) → (process_at b i).prompted ≡ false → (process_at b i).prompts ≡ 0
unfolding prompts_at if
none_of_PR_at b i e = rw e

-- ---- one tie more
equal_tests : (m n : ℕ) → not (eqb m n) ≡ false → m ≡ n
equal_tests m n e = eqb-true m n (not-false (eqb m n) e)

alike : (p q : Process) → unlike p q ≡ false → SameShape p q
unfolding unlike
alike p q f =
    let h₁ = or-false _ _ f in
    let h₂ = or-false _ _ h₁.0 in
    let h₃ = or-false _ _ h₂.0 in
    record { bounds = equal_tests _ _ h₃.0; inputs = equal_tests _ _ h₃.1; outputs = equal_tests _ _ h₂.1; prompts = equal_tests _ _ h₁.1 }

tie_proper : (ps : List Process) (t : Tie) → tie_fault ps t ≡ false → ProperTie ps t
unfolding tie_fault
tie_proper ps t f =
    let h₁ = or-false _ (unlike (process_no ps t.left) (process_no ps t.right)) f in
    let h₂ = or-false _ _ h₁.0 in
    let h₃ = or-false _ _ h₂.0 in
    record { left_known = leb-false _ _ h₃.0; right_known = leb-false _ _ h₃.1; two = eqb-false _ _ h₂.1; shape = alike _ _ h₁.1 }

-- the same front with these ties
abbrev pub retied : Architecture → List Tie → Architecture
retied a ts = record { variables = a.variables; environment = a.environment; root = a.root; processes = a.processes; ties = ts }

-- all but the ties of a proper front stays proper
pub retied_proper : (a : Architecture) (ts : List Tie) → ProperFront a → length ts ≤ 3 → ProperTies a.processes ts → ProperFront (retied a ts)
retied_proper a ts g few own = record {
  few_variables = g.few_variables;
  few_environment = g.few_environment;
  environment_known = g.environment_known;
  root_known = g.root_known;
  few_processes = g.few_processes;
  processes_proper = g.processes_proper;
  outputs_apart = g.outputs_apart;
  prompts_proper = g.prompts_proper;
  few_ties = few;
  ties_proper = own;
}

pub tie_more : (a : Architecture) (t : Tie) → ProperFront a → length a.ties < 3 → tie_fault a.processes t ≡ false → ProperFront (with_tie a t)
unfolding with_tie
tie_more a t g few f =
    retied_proper a (a.ties ++ (t ∷ [])) g (omega (arith, length-append a.ties (t ∷ []))) (λ u m.
    ⊎_elim (λ i. g.ties_proper u i) (λ i. subst (ProperTie a.processes) (sym (Memᴰ.eq_of_singleton i)) (tie_proper a.processes t f)) (Memᴰ.append_cases a.ties m))

-- ---- the front: at most k more processes, of 6 bytes at most
pub sizes : (b : List ℕ) (i : ℕ) → (5 ≤ process_size b i) × (process_size b i ≤ 6)
unfolding process_size if
sizes b i = by (marked b i PM)
  where
    by : (t : Bool) → (5 ≤ if t 6 5) × (if t 6 5 ≤ 6)
    by true = (omega arith, omega arith)
    by false = (omega arith, omega arith)

-- where it ends, and that the ties are as they were
pub processes_end : (k : ℕ) (a : Architecture) (b : List ℕ) (i : ℕ) (f : Front) → read_processes k a b i ≡ proper f → (f.end ≤ i + 6 * k) × (f.architecture.ties ≡ a.ties)
unfolding read_processes read_process with_process
processes_end zero a b i f e = let same = same_proper _ f e in (omega (arith, ap (λ (x : Front). x.end) same), ap (λ (x : Front). x.architecture.ties) (sym same))
processes_end (suc k) a b i f e =
    by (processes_end k (with_process a (process_at b i)) b (i + process_size b i) f)
    (if_cases (process_marked b i) (read_process a b i (read_processes k (with_process a (process_at b i)) b (i + process_size b i))) (proper record { architecture = a; end = i }) e)
  where
    by : (read_processes k (with_process a (process_at b i)) b (i + process_size b i) ≡ proper f → (f.end ≤ i + process_size b i + 6 * k) × (f.architecture.ties ≡ a.ties))
        → (read_process a b i (read_processes k (with_process a (process_at b i)) b (i + process_size b i)) ≡ proper f) ⊎ (proper record { architecture = a; end = i } ≡ proper f)
        → (f.end ≤ i + 6 * suc k) × (f.architecture.ties ≡ a.ties)
    by ih (inl q) =
        let h₁ = passes SheetTooShort (short b i (process_size b i)) _ q in
        let h₂ = passes BadProcess (pr_fault a (process_at b i)) _ h₁.1 in
        let rest = ih (passes BadPrompt (prompt_fault a.processes (process_at b i)) _ h₂.1).1 in
        (omega (arith, rest.0, (sizes b i).1), rest.1)
    by ih (inr q) = let same = same_proper _ f q in (omega (arith, ap (λ (x : Front). x.end) same), ap (λ (x : Front). x.architecture.ties) (sym same))

processes_read : (k : ℕ) (a : Architecture) (b : List ℕ) (i : ℕ) (f : Front) → ProperFront a → length a.processes + k ≤ 4 → read_processes k a b i ≡ proper f → ProperFront f.architecture
unfolding read_processes read_process with_process
processes_read zero a b i f g few e = subst (λ (x : Front). ProperFront x.architecture) (same_proper _ f e) g
processes_read (suc k) a b i f g few e =
    by (λ g e. processes_read k (with_process a (process_at b i)) b (i + process_size b i) f g (omega (arith, length-append a.processes (process_at b i ∷ []))) e)
    (if_cases (process_marked b i) (read_process a b i (read_processes k (with_process a (process_at b i)) b (i + process_size b i))) (proper record { architecture = a; end = i }) e)
  where
    by : (ProperFront (with_process a (process_at b i)) → read_processes k (with_process a (process_at b i)) b (i + process_size b i) ≡ proper f → ProperFront f.architecture)
        → (read_process a b i (read_processes k (with_process a (process_at b i)) b (i + process_size b i)) ≡ proper f) ⊎ (proper record { architecture = a; end = i } ≡ proper f)
        → ProperFront f.architecture
    by ih (inl q) =
        let h₁ = passes SheetTooShort (short b i (process_size b i)) _ q in
        let h₂ = passes BadProcess (pr_fault a (process_at b i)) _ h₁.1 in
        let h₃ = passes BadPrompt (prompt_fault a.processes (process_at b i)) _ h₂.1 in
        ih (process_more a (process_at b i) g (omega arith) h₂.0 h₃.0 (none_of_PR_at b i)) h₃.1
    by ih (inr q) = subst (λ (x : Front). ProperFront x.architecture) (same_proper _ f q) g

-- at most k more ties of 4 bytes
ties_read : (k : ℕ) (a : Architecture) (b : List ℕ) (i : ℕ) (f : Front) → ProperFront a → length a.ties + k ≤ 3
    → read_ties k a b i ≡ proper f → ProperFront f.architecture × (f.end ≤ i + 4 * k)
unfolding read_ties read_tie with_tie
ties_read zero a b i f g few e = let same = same_proper _ f e in (subst (λ (x : Front). ProperFront x.architecture) same g, omega (arith, ap (λ (x : Front). x.end) same))
ties_read (suc k) a b i f g few e =
    by (λ g e. ties_read k (with_tie a (tie_at b i)) b (i + 4) f g (omega (arith, length-append a.ties (tie_at b i ∷ []))) e)
    (if_cases (tie_marked a b i) (read_tie a b i (read_ties k (with_tie a (tie_at b i)) b (i + 4))) (proper record { architecture = a; end = i }) e)
  where
    by : (ProperFront (with_tie a (tie_at b i)) → read_ties k (with_tie a (tie_at b i)) b (i + 4) ≡ proper f → ProperFront f.architecture × (f.end ≤ i + 4 + 4 * k))
        → (read_tie a b i (read_ties k (with_tie a (tie_at b i)) b (i + 4)) ≡ proper f) ⊎ (proper record { architecture = a; end = i } ≡ proper f)
        → ProperFront f.architecture × (f.end ≤ i + 4 * suc k)
    by ih (inl q) =
        let h₁ = passes SheetTooShort (short b i 4) _ q in
        let h₂ = passes BadTie (tie_fault a.processes (tie_at b i)) _ h₁.1 in
        let rest = ih (tie_more a (tie_at b i) g (omega arith) h₂.0) h₂.1 in
        (rest.0, omega arith)
    by ih (inr q) = let same = same_proper _ f q in (subst (λ (x : Front). ProperFront x.architecture) same g, omega (arith, ap (λ (x : Front). x.end) same))

-- 5 bytes of AR, then at most 4 processes and 3 ties
pub front_read : (b : List ℕ) (f : Front) → read_front b ≡ proper f → ProperFront f.architecture × (f.end ≤ 41)
unfolding read_front
front_read b f e =
    let h₁ = passes SheetTooShort (short b 0 2) _ e in
    let h₂ = passes WrongMark (not (marked b 0 AR)) _ h₁.1 in
    let h₃ = passes SheetTooShort (short b 0 5) _ h₂.1 in
    let h₄ = passes BadArchitecture (ar_fault (architecture_at b)) _ h₃.1 in
    let h₅ = goes_on (read_processes 4 (architecture_at b) b 5) _ h₄.1 in
    let front = processes_read 4 (architecture_at b) b 5 h₅.0 (opening_proper (architecture_at b) refl refl h₄.0) (omega arith) h₅.1 in
    let end = processes_end 4 (architecture_at b) b 5 h₅.0 h₅.1 in
    let ties = ties_read 3 h₅.0.architecture b h₅.0.end f front (omega (arith, ap length end.1)) h₅.2 in
    (ties.0, omega (arith, end.0, ties.1))

-- ---- behind the front
-- EN is the last: no byte stands behind it
end_read : (b : List ℕ) (i : ℕ) (es : List Edge) → read_end b i ≡ proper es → (es ≡ []) × (length b ≤ i + 2)
unfolding read_end
end_read b i es e =
    let h₁ = passes SheetTooShort (short b i 2) _ e in
    let h₂ = passes WrongMark (not (marked b i EN)) _ h₁.1 in
    let h₃ = passes WrongMark (ltb (i + 2) (length b)) _ h₂.1 in
    (sym (same_proper [] es h₃.1), ltb-false _ _ h₃.0)

module _ (variables states : ℕ) where
  edges_more : {e : Edge} {es : List Edge} → ProperEdge variables states e → ProperEdges variables states es → ProperEdges variables states (e ∷ es)
  edges_more {e} {es} g h x m = ⊎_elim (λ (q : x ≡ e). rw q g) (λ i. h x i) (Memᴰ.cases_cons m)

  -- what EN alone says, where k edges of 6 bytes may stand
  no_edges : (k : ℕ) (b : List ℕ) (i : ℕ) (es : List Edge) → read_end b i ≡ proper es → ProperEdges variables states es × (length es ≤ k) × (length b ≤ i + 6 * k + 2)
  no_edges k b i es e =
      let h = end_read b i es e in
      (subst (ProperEdges variables states) (sym h.0) (λ x m. absurd (Memᴰ.not-nil m)), omega (arith, ap length h.0), omega arith)

  -- at most k edges of 6 bytes, then EN
  edges_read : (k : ℕ) (b : List ℕ) (i : ℕ) (es : List Edge) → read_edges variables states k b i ≡ proper es → ProperEdges variables states es × (length es ≤ k) × (length b ≤ i + 6 * k + 2)
  unfolding read_edges read_edge
  edges_read zero b i es e = no_edges zero b i es e
  edges_read (suc k) b i es e =
      by (λ es e. edges_read k b (i + 6) es e) (if_cases (edge_marked b i) (read_edge variables states b i (read_edges variables states k b (i + 6))) (read_end b i) e)
    where
      by : ((es : List Edge) → read_edges variables states k b (i + 6) ≡ proper es → ProperEdges variables states es × (length es ≤ k) × (length b ≤ i + 6 + 6 * k + 2))
          → (read_edge variables states b i (read_edges variables states k b (i + 6)) ≡ proper es) ⊎ (read_end b i ≡ proper es)
          → ProperEdges variables states es × (length es ≤ suc k) × (length b ≤ i + 6 * suc k + 2)
      by ih (inr q) = no_edges (suc k) b i es q
      by ih (inl q) =
          let h₁ = passes SheetTooShort (short b i 6) _ q in
          let h₂ = passes BadEdge (ed_fault variables states (edge_at b i)) _ h₁.1 in
          let h₃ = goes_on (read_edges variables states k b (i + 6)) (λ es. proper (edge_at b i ∷ es)) h₂.1 in
          let rest = ih h₃.0 h₃.1 in
          let same : edge_at b i ∷ h₃.0 ≡ es = same_proper (edge_at b i ∷ h₃.0) es h₃.2 in
          (subst (ProperEdges variables states) same (edges_more (edge_proper variables states (edge_at b i) h₂.0) rest.0), omega (arith, rest.1, ap length same), omega arith)

-- at AU the front is seen to be an architecture
pub front_whole : (a : Architecture) → ProperFront a → eqb (length a.processes) 0 ≡ false → all_fault a ≡ false → ProperArchitecture a
unfolding all_fault
front_whole a g some f =
    let own : Bool = all (owned a.processes) (from (a.variables - a.environment) a.environment) in
    let h = or-false (not own) _ f in
    let n : ¬ (length a.processes ≡ 0) = eqb-false _ _ some in
    record {
      front = g;
      some_process = omega arith;
      all_owned = λ i l u. (all_is (owned a.processes) (from (a.variables - a.environment) a.environment)).0 (not-false own h.0) i
          (from_has (a.variables - a.environment) a.environment i l (omega arith));
      few_composed = ltb-false _ _ h.1;
    }

-- 6 bytes of AU, at most 64 edges, then EN
automaton_read : (a : Architecture) (b : List ℕ) (i : ℕ) (u : Automaton) → ProperFront a → read_automaton a b i ≡ proper u
    → ProperArchitecture a × ProperAutomaton a.variables u × (length b ≤ i + 392)
unfolding read_automaton
automaton_read a b i u g e =
    let states : ℕ = byte b (i + 2) in
    let initial : ℕ = byte b (i + 3) in
    let rejecting : ℕ = byte b (i + 4) + 256 * byte b (i + 5) in
    let h₁ = passes SheetTooShort (short b i 2) _ e in
    let h₂ = passes WrongMark (not (marked b i AU) || eqb (length a.processes) 0) _ h₁.1 in
    let h₃ = passes SheetTooShort (short b i 6) _ h₂.1 in
    let h₄ = passes NoOwnerOrTooMany (all_fault a) _ h₃.1 in
    let h₅ = passes BadAutomaton (au_fault states initial rejecting) _ h₄.1 in
    let h₆ = goes_on (read_edges a.variables states 64 b (i + 6)) _ h₅.1 in
    let s = states_proper states initial rejecting h₅.0 in
    let edges = edges_read a.variables states 64 b (i + 6) h₆.0 h₆.1 in (
      front_whole a g (or-false (not (marked b i AU)) _ h₂.0).1 h₄.0,
      subst (ProperAutomaton a.variables) (same_proper _ u h₆.2)
          record { some_states = s.0; few_states = s.1; initial_known = s.2; rejecting_known = s.3; few_edges = edges.1; edges_proper = edges.0 },
      omega arith,
    )

-- ---- a sheet that is read is a proper one, and has at most 5 + 4 * 5 + 3 * 4 + 6 + 64 * 6 + 2 bytes
sheet_read : (b : List ℕ) (s : Sheet) → read_sheet b ≡ proper s → ProperSheet s × (length b ≤ longest_sheet)
unfolding read_sheet
sheet_read b s e =
    let h₁ = goes_on (read_front b) _ e in
    let h₂ = goes_on (read_automaton h₁.0.architecture b h₁.0.end) _ h₁.2 in
    let front = front_read b h₁.0 h₁.1 in
    let rest = automaton_read h₁.0.architecture b h₁.0.end h₂.0 front.0 h₂.1 in
    (subst ProperSheet (same_proper _ s h₂.2) record { architecture = rest.0; automaton = rest.1 }, omega arith)

pub sheet_proper : (b : List ℕ) (s : Sheet) → read_sheet b ≡ proper s → ProperSheet s
sheet_proper b s e = (sheet_read b s e).0

pub sheet_short : (b : List ℕ) (s : Sheet) → read_sheet b ≡ proper s → length b ≤ longest_sheet
sheet_short b s e = (sheet_read b s e).1
