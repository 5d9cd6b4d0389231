-- What is known of a front: with no process yet, with one process more, and with one tie more.
use mathlib.Core.Path.{◌≡◌, sym, ap, ap₂, subst, ◌∙◌}
use mathlib.Core.Bool.{Bool, true, false, not}
use mathlib.Core.List.{List, [], ◌∷◌, ◌++◌}
use Prim.Native.Nat.{ℕ, ◌*◌, ◌^◌, ◌<◌, ◌≤◌}
use native.Mathlib.Omega.{arith}
use lib.Dec.{eqb}
use lib.Bits.{bit_and, bit_or}
use lib.ListN.{length}
use borrow.Author.Tests.{eq-eqb, ne_eqb}
use Rattle.model.specs.Mask.{share}
use Rattle.model.specs.Sheet.{Process, Tie, with_process, with_tie, outputs_of, composed_states, ProperFront}
use Rattle.model.specs.Sheet as model
use Rattle.model.specs.Reading.{ar_fault, field_fault, pr_fault, prompt_fault, tie_fault, process_at}
use Rattle.model.proofs.ProperSheet.{opening_proper, process_more, none_of_PR_at, tie_more}
use Rattle.model.proofs.PromptInputs.{outputs_more}
use Rattle.architecture.specs.Struct.{architecture_of, processes_in, Arrays}
use Rattle.architecture.proofs.ProcessesOfArrays.{count_is, ties_count}
use Rattle.sheet.specs.declared.FrontRead.{FrontRead}
use Rattle.sheet.specs.Struct.{FrontKnown}
use Rattle.sheet.proofs.ReadingOn.{mask_decides}
use Rattle.sheet.proofs.ComposedStates.{composed_more, composed_few}

-- ---- no process yet
pub known_opened : (b : List ℕ) (f : FrontRead) (a : model.Architecture) → a.processes ≡ [] → a.ties ≡ [] → ar_fault a ≡ false → architecture_of f.architecture ≡ a → Arrays f.architecture
    → f.end ≤ length b → f.owned ≡ 0 → f.total ≡ 2 ^ a.environment → FrontKnown b f
unfolding architecture_of outputs_of composed_states
known_opened b f a none untied sound is arrays inside owned total =
    let no_such_process : processes_in f.architecture ≡ [] = ap (λ (x : model.Architecture). x.processes) is ∙ none in
    let environment : f.architecture.environment ≡ a.environment = ap (λ (x : model.Architecture). x.environment) is in
    record {
      arrays = arrays;
      proper = subst ProperFront (sym is) (opening_proper a none untied sound);
      inside = inside;
      owned_is = owned ∙ sym (ap outputs_of no_such_process);
      total_is = total ∙ sym (ap₂ composed_states environment no_such_process);
    }

-- ---- one process more, without fault
-- p as the record at i has it
pub process_grown : {b : List ℕ} {f : FrontRead} → FrontKnown b f → f.architecture.processes < 4 → (i : ℕ) → let a = architecture_of f.architecture in let p = process_at b i in
    pr_fault a p ≡ false → prompt_fault (processes_in f.architecture) p ≡ false → ProperFront (with_process a p)
unfolding architecture_of
process_grown {b} {f} z few i sound prompts =
    process_more (architecture_of f.architecture) (process_at b i) z.proper (omega (arith, count_is f.architecture)) sound prompts (none_of_PR_at b i)

-- q is p as it was read, and its own fields are in order: the mask of all outputs decides
module _ {b : List ℕ} {f : FrontRead} (z : FrontKnown b f) {q p : Process} (is : q ≡ p) (sound : field_fault f.architecture.variables f.architecture.environment q ≡ false) where
  outputs_decide : pr_fault (architecture_of f.architecture) p ≡ not (eqb (bit_and q.outputs f.owned) 0)
  unfolding architecture_of share
  outputs_decide =
      mask_decides (architecture_of f.architecture) p (ap (field_fault f.architecture.variables f.architecture.environment) (sym is) ∙ sound)
      ∙ ap₂ share (ap (λ (x : Process). x.outputs) (sym is)) (sym z.owned_is)

  pub outputs_taken : (bit_and q.outputs f.owned ≡ 0 → ⊥) → pr_fault (architecture_of f.architecture) p ≡ true
  outputs_taken h = outputs_decide ∙ ap not (ne_eqb _ _ h)

  pub outputs_free : bit_and q.outputs f.owned ≡ 0 → pr_fault (architecture_of f.architecture) p ≡ false
  outputs_free h = outputs_decide ∙ ap not (eq-eqb _ _ h)

-- and so it does of the prompt inputs
pub prompts_decide : {b : List ℕ} {f : FrontRead} → FrontKnown b f → {q p : Process} → q ≡ p → {fault : Bool} → ((lower : List Process) → f.owned ≡ outputs_of lower → fault ≡ prompt_fault lower q)
    → prompt_fault (processes_in f.architecture) p ≡ fault
prompts_decide {f = f} z is h = sym (h (processes_in f.architecture) z.owned_is ∙ ap (prompt_fault (processes_in f.architecture)) is)

module _ {b : List ℕ} {f : FrontRead} (z : FrontKnown b f) (p : Process) (grown : ProperFront (with_process (architecture_of f.architecture) p)) where
  composed_next : f.total * p.bound ≡ composed_states f.architecture.environment (processes_in f.architecture ++ (p ∷ []))
  composed_next = ap (λ (t : ℕ). t * p.bound) z.total_is ∙ sym (composed_more f.architecture.environment (processes_in f.architecture) p)

  pub total_few : f.total * p.bound ≤ 4096
  unfolding with_process architecture_of
  total_few = subst (λ (t : ℕ). t ≤ 4096) (sym composed_next) (composed_few (with_process (architecture_of f.architecture) p) grown)

  pub known_more : (g : FrontRead) → architecture_of g.architecture ≡ with_process (architecture_of f.architecture) p → Arrays g.architecture
      → g.end ≤ length b → g.owned ≡ bit_or f.owned p.outputs → g.total ≡ f.total * p.bound → FrontKnown b g
  unfolding with_process architecture_of
  known_more g is arrays inside owned total =
      let processes : processes_in g.architecture ≡ processes_in f.architecture ++ (p ∷ []) = ap (λ (x : model.Architecture). x.processes) is in
      let environment : g.architecture.environment ≡ f.architecture.environment = ap (λ (x : model.Architecture). x.environment) is in
      record {
        arrays = arrays;
        proper = subst ProperFront (sym is) grown;
        inside = inside;
        owned_is = owned ∙ ap (λ (m : ℕ). bit_or m p.outputs) z.owned_is ∙ sym (outputs_more (processes_in f.architecture) p) ∙ sym (ap outputs_of processes);
        total_is = total ∙ composed_next ∙ sym (ap₂ composed_states environment processes);
      }

-- ---- one tie more, without fault: processes, outputs and composed states are as they were
pub known_tied : {b : List ℕ} {f : FrontRead} (g : FrontRead) (t : Tie) → FrontKnown b f → f.architecture.ties < 3 → tie_fault (processes_in f.architecture) t ≡ false
    → architecture_of g.architecture ≡ with_tie (architecture_of f.architecture) t → Arrays g.architecture → g.end ≤ length b → g.owned ≡ f.owned → g.total ≡ f.total → FrontKnown b g
unfolding with_tie architecture_of
known_tied {f = f} g t z few sound is arrays inside owned total =
    let processes : processes_in g.architecture ≡ processes_in f.architecture = ap (λ (x : model.Architecture). x.processes) is in
    let environment : g.architecture.environment ≡ f.architecture.environment = ap (λ (x : model.Architecture). x.environment) is in
    record {
      arrays = arrays;
      proper = subst ProperFront (sym is) (tie_more (architecture_of f.architecture) t z.proper (omega (arith, ties_count f.architecture)) sound);
      inside = inside;
      owned_is = owned ∙ z.owned_is ∙ sym (ap outputs_of processes);
      total_is = total ∙ z.total_is ∙ sym (ap₂ composed_states environment processes);
    }
