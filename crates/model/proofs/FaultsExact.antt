-- No fault is found in what is proper: each test of a record fails where the record, behind those before it, makes a proper whole.
use mathlib.Core.Path.{◌≡◌, refl, sym, ap, ◌∙◌, subst}
use mathlib.Core.Bool.{Bool, true, false, ◌||◌, not}
use mathlib.Core.List.{List, [], ◌∷◌, ◌++◌, Memᴰ}
use Prim.Native.Nat.{ℕ, ◌-◌, ◌^◌, ◌≤◌, ◌<◌}
use native.Mathlib.Omega.{arith}
use lib.Dec.{eqb}
use borrow.Author.Tests.{le-ltb, lt-leb, le-leb, ne_eqb, eq-eqb}
use Rattle.theory.specs.Lists.{Pairwise, before, all, from}
use Rattle.theory.proofs.ListLaws.{all_is, from_least, turn_last}
use Rattle.model.specs.Mask.{beyond, count}
use Rattle.model.specs.Sheet.{Process, Tie, Architecture, Edge, Automaton, with_process, with_tie, with_edge, as_pr, owned, composed_states, Apart}
use Rattle.model.specs.Sheet.{ProperProcess, SameShape, ProperTie, ProperFront, ProperArchitecture, ProperEdge, ProperAutomaton}
use Rattle.model.specs.Reading.{ar_fault, taken, field_fault, pr_fault, prompt_fault, unlike, tie_fault, all_fault, au_fault, ed_fault}
use Rattle.model.proofs.ProperSheet.{apart_sym, plain_fault}
use Rattle.model.proofs.RunGraphSteps.{from_below}

-- two tests that fail
pub or_off : {a b : Bool} → a ≡ false → b ≡ false → (a || b) ≡ false
or_off p q = rw p q

-- a mask below the bit n has none at or above it
pub not_beyond : (m n : ℕ) → m < 2 ^ n → beyond m n ≡ false
unfolding beyond
not_beyond m n l = lt-leb (2 ^ n) m l

-- and any other has one
pub is_beyond : (m n : ℕ) → 2 ^ n ≤ m → beyond m n ≡ true
unfolding beyond
is_beyond m n l = le-leb (2 ^ n) m l

-- AR
pub opening_faultless : (a : Architecture) → ProperFront a → ar_fault a ≡ false
unfolding ar_fault
opening_faultless a g =
    or_off (or_off (or_off (le-ltb 8 a.variables g.few_variables) (le-ltb 4 a.environment g.few_environment))
    (le-ltb a.variables a.environment g.environment_known))
    (not_beyond a.root a.environment g.root_known)

-- ---- PR, and PM but for its prompt inputs
fields_faultless : (variables environment : ℕ) (p : Process) → ProperProcess variables environment p → field_fault variables environment p ≡ false
unfolding field_fault
fields_faultless variables environment p g =
    or_off (or_off (or_off (or_off (or_off (or_off (not_beyond p.inputs variables g.inputs_known) (not_beyond p.outputs variables g.outputs_known))
    g.outputs_free) (le-ltb 4 (count p.inputs) g.few_inputs)) g.inputs_of_others)
    (ne_eqb p.bound 0 (λ e. let l : 1 ≤ p.bound = g.some_state in omega arith))) (le-ltb 4 p.bound g.few_states)

-- outputs apart from those of each of these processes
not_taken : (ps : List Process) (p : Process) → ((q : Process) → Memᴰ q ps → Apart q.outputs p.outputs) → taken ps p ≡ false
unfolding taken
not_taken [] p h = refl
not_taken (q ∷ qs) p h = or_off (apart_sym q.outputs p.outputs (h q (mathlib.Core.List.Memᴰ.head refl))) (not_taken qs p (λ x m. h x (mathlib.Core.List.Memᴰ.tail m)))

-- what holds within a list holds between its front and its back
pairwise_across : {A : Type 0} {R : A → A → Type 0} (xs : List A) {ys : List A} → Pairwise R (xs ++ ys) → (x y : A) → Memᴰ x xs → Memᴰ y ys → R x y
pairwise_across [] p x y m n = absurd (mathlib.Core.List.Memᴰ.not-nil m)
pairwise_across {R = R} (z ∷ xs) (before h p) x y (mathlib.Core.List.Memᴰ.head e) n = subst (λ w. R w y) (sym e) (h y (mathlib.Core.List.Memᴰ.append_right xs n))
pairwise_across (z ∷ xs) (before h p) x y (mathlib.Core.List.Memᴰ.tail m) n = pairwise_across xs p x y m n

pub process_faultless : (a : Architecture) (p : Process) → ProperFront (with_process a p) → pr_fault a p ≡ false
unfolding with_process pr_fault
process_faultless a p g =
    let last : Memᴰ p (p ∷ []) = mathlib.Core.List.Memᴰ.head refl in
    or_off (fields_faultless a.variables a.environment p (g.processes_proper p (mathlib.Core.List.Memᴰ.append_right a.processes last)))
    (not_taken a.processes p (λ q m. pairwise_across a.processes g.outputs_apart q p m last))

-- as a PR
pub plain_faultless : (a : Architecture) (p : Process) → ProperFront (with_process a (as_pr p)) → pr_fault a p ≡ false
plain_faultless a p g = sym (plain_fault a p) ∙ process_faultless a (as_pr p) g

-- ---- PM
pub prompt_faultless : (a : Architecture) (p : Process) → ProperFront (with_process a p) → prompt_fault a.processes p ≡ false
unfolding with_process prompt_fault
prompt_faultless a p g = let own = turn_last a.processes [] g.prompts_proper in or_off (ap not own.prompts_read) (ap not own.prompts_lower)

-- ---- SY
not_different : {m n : ℕ} → m ≡ n → not (eqb m n) ≡ false
not_different {m} {n} e = ap not (eq-eqb m n e)

not_unlike : (p q : Process) → SameShape p q → unlike p q ≡ false
unfolding unlike
not_unlike p q g = or_off (or_off (or_off (not_different g.bounds) (not_different g.inputs)) (not_different g.outputs)) (not_different g.prompts)

tie_good : (ps : List Process) (t : Tie) → ProperTie ps t → tie_fault ps t ≡ false
unfolding tie_fault
tie_good ps t g =
    or_off (or_off (or_off (lt-leb _ t.left g.left_known) (lt-leb _ t.right g.right_known)) (ne_eqb t.left t.right g.two)) (not_unlike _ _ g.shape)

pub tie_faultless : (a : Architecture) (t : Tie) → ProperFront (with_tie a t) → tie_fault a.processes t ≡ false
unfolding with_tie
tie_faultless a t g = tie_good a.processes t (g.ties_proper t (mathlib.Core.List.Memᴰ.append_right a.ties (mathlib.Core.List.Memᴰ.head refl)))

-- ---- at AU
pub front_faultless : (a : Architecture) → ProperArchitecture a → all_fault a ≡ false
unfolding all_fault
front_faultless a g =
    let rest : List ℕ = from (a.variables - a.environment) a.environment in
    let known : a.environment ≤ a.variables = g.front.environment_known in
    let owners : all (owned a.processes) rest ≡ true = (all_is (owned a.processes) rest).1
    (λ i m. g.all_owned i (from_least (a.variables - a.environment) a.environment i m) (omega (arith, from_below (a.variables - a.environment) a.environment i m))) in
    or_off (ap not owners) (le-ltb 256 (composed_states a.environment a.processes) g.few_composed)

pub states_faultless : (variables : ℕ) (u : Automaton) → ProperAutomaton variables u → au_fault u.states u.initial u.rejecting ≡ false
unfolding au_fault
states_faultless variables u g =
    or_off (or_off (or_off (ne_eqb u.states 0 (λ e. let l : 1 ≤ u.states = g.some_states in omega arith)) (le-ltb 16 u.states g.few_states))
    (lt-leb u.states u.initial g.initial_known))
    (not_beyond u.rejecting u.states g.rejecting_known)

-- ---- ED and EX
pub fields_of_edge_faultless : (variables states : ℕ) (e : Edge) → ProperEdge variables states e → ed_fault variables states e ≡ false
unfolding ed_fault
fields_of_edge_faultless variables states e g =
    or_off (or_off (or_off (or_off (lt-leb states e.from g.from_known) (lt-leb states e.to g.to_known))
    (not_beyond e.on variables g.on_known)) (not_beyond e.off variables g.off_known)) g.on_off_apart

pub edge_faultless : (variables : ℕ) (u : Automaton) (e : Edge) → ProperAutomaton variables (with_edge u e) → ed_fault variables u.states e ≡ false
unfolding with_edge
edge_faultless variables u e g = fields_of_edge_faultless variables u.states e (g.edges_proper e (mathlib.Core.List.Memᴰ.append_right u.edges (mathlib.Core.List.Memᴰ.head refl)))
