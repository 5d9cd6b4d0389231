-- Prompt inputs: a process reads them in the new outputs of those before it, and at these variables the label after the step has the same bits.
use mathlib.Core.Path.{◌≡◌, refl, sym, ap, ◌∙◌, subst}
use mathlib.Core.Bool.{Bool, true, false, ◌&&◌, ◌||◌, and-false, true≢false}
use mathlib.Core.Logic.{⊎_elim}
use mathlib.Core.List.Memᴰ
use mathlib.Core.List.{List, [], ◌∷◌, ◌++◌, Memᴰ}
use Prim.Native.Nat.{ℕ, suc, ◌^◌, ◌<◌}
use lib.Bits.{bit_or, or_comm}
use lib.ListN.{length, get_or, take, drop, take-append-drop}
use lib.Seq.{split_at}
use Rattle.theory.specs.Lists.{InTurn}
use Rattle.theory.proofs.Bools.{or_is, bool_cases}
use Rattle.theory.proofs.BitLaws.{bit_of_or, bit_of_and, bits_same, or_assoc}
use Rattle.theory.proofs.DepthFirst.{empty}
use Rattle.theory.proofs.ListLaws.{list_has, turn_last}
use Rattle.model.specs.Mask.{bit}
use Rattle.model.specs.Sheet.{Process, Architecture, Sheet, nobody, process_no, outputs_of, ProperPrompts, ProperArchitecture}
use Rattle.model.specs.Compose.{Composed, outputs, present, label, step, composed}
use Rattle.model.specs.Choice.{entries, IsTables}
use Rattle.model.specs.Reading.{proper, read_sheet}
use Rattle.model.specs.Information.{values_read}
use Rattle.model.specs.Demands.{read_by, next_of, MovesOnReads, PromptInputs}
use Rattle.model.proofs.ProperSheet.{sheet_proper}
use Rattle.model.proofs.ComposedNumbers.{in_length, IsState, split_length, composed_in, step_in}
use Rattle.model.proofs.MovesInTurn.{reads_prompt, reads_other, reads_same, reads_none, step_at_lem, Deaf}
use Rattle.model.proofs.OutputBits.{within_bit, lower_put_out, direction_free}

-- all outputs with those of one process more
pub outputs_more : (ps : List Process) (p : Process) → outputs_of (ps ++ (p ∷ [])) ≡ bit_or (outputs_of ps) p.outputs
unfolding outputs_of
outputs_more [] p = or_comm p.outputs 0
outputs_more (q ∷ ps) p = ap (bit_or q.outputs) (outputs_more ps p) ∙ sym (or_assoc q.outputs (outputs_of ps) p.outputs)

-- an output of all is one of some process
some_output : (ps : List Process) (i : ℕ) → bit (outputs_of ps) i ≡ true → (q : Process) × Memᴰ q ps × (bit q.outputs i ≡ true)
unfolding outputs_of
some_output [] i e = absurd (true≢false (sym e ∙ empty i))
some_output (p ∷ ps) i e =
    ⊎_elim (λ own. (p, Memᴰ.head refl, own)) (λ rest. let r = some_output ps i rest in (r.0, Memᴰ.tail r.1, r.2))
    ((or_is (bit p.outputs i) _).0 (sym (bit_of_or p.outputs (outputs_of ps) i) ∙ e))

-- ---- a step of a choice
module _ (a : Architecture) (good : ProperArchitecture a) where
  module _ (k : ℕ) (known : k < length a.processes) where
    -- the prompt inputs of process k are outputs of those before it
    lower : ProperPrompts (take k a.processes) (process_no a.processes k)
    lower = turn_last (take k a.processes) (drop (suc k) a.processes) (subst (InTurn ProperPrompts []) (split_at a.processes k nobody known) good.front.prompts_proper)

    -- which are not the direction's
    lower_free : (d : ℕ) → d < 2 ^ a.environment → (i : ℕ) → bit (outputs_of (take k a.processes)) i ≡ true → bit d i ≡ false
    lower_free d l i e =
        let r = some_output (take k a.processes) i e in
        direction_free a good d l r.0 (subst (Memᴰ r.0) (take-append-drop k a.processes) (Memᴰ.append_left (drop k a.processes) r.1)) i r.2

    -- so what it reads is the same by the new outputs of those before it and by the label after the step
    pub read_by_label : (c : List ℕ) (t : Composed) (d : ℕ) → IsTables a c → IsState a t → d < 2 ^ a.environment → values_read a c k t d ≡ read_by a c t d k
    unfolding values_read read_by label present step entries
    read_by_label c t d tables state l =
        reads_same p (bit_or d (present a c t)) new after
        (bits_same _ _ (λ i. bit_of_and new p.prompts i ∙ ⊎_elim (prompt i) (other i) (bool_cases (bit p.prompts i)) ∙ sym (bit_of_and after p.prompts i)))
      where
        p : Process
        p = process_no a.processes k

        ys : List ℕ
        ys = (step a c t d).states

        new : ℕ
        new = outputs (take k a.processes) 0 c ys

        after : ℕ
        after = label a c (step a c t d)

        prompt : (i : ℕ) → bit p.prompts i ≡ true → (bit new i && bit p.prompts i) ≡ (bit after i && bit p.prompts i)
        prompt i e =
            let below = within_bit p.prompts (outputs_of (take k a.processes)) i lower.prompts_lower e in
            let same = lower_put_out c k 0 i tables (step_in a c t d tables state l).states_in good.front.outputs_apart below in
            let all = outputs a.processes 0 c ys in
            ap (λ (b : Bool). b && bit p.prompts i) (same ∙ sym (bit_of_or d all i ∙ ap (λ (b : Bool). b || bit all i) (lower_free d l i below)))

        other : (i : ℕ) → bit p.prompts i ≡ false → (bit new i && bit p.prompts i) ≡ (bit after i && bit p.prompts i)
        other i e = rw (e, and-false (bit new i), and-false (bit after i))

  moves_on_reads : (c : List ℕ) (t : Composed) (d : ℕ) → IsTables a c → IsState a t → d < 2 ^ a.environment → MovesOnReads a c t d
  unfolding read_by
  moves_on_reads c t d tables state l = record {
    moved = λ k known. step_at_lem a c t d k known (in_length state.states_in) ∙ ap (next_of a c t k) (read_by_label k known c t d tables state l);
    prompt_after = λ k i e. reads_prompt (process_no a.processes k) (bit_or d (present a c t)) (label a c (step a c t d)) i e;
    others_before = λ k i e. reads_other (process_no a.processes k) (bit_or d (present a c t)) (label a c (step a c t d)) i e;
  }

without_prompts : (a : Architecture) → Deaf a.processes → (c : List ℕ) (n d k : ℕ) → k < length a.processes
    → let t = composed a n in get_or (step a c t d).states k 0 ≡ next_of a c t k (bit_or d (present a c t))
unfolding composed values_read
without_prompts a deaf c n d k l =
    let t = composed a n in
    let p = process_no a.processes k in
    let new = outputs (take k a.processes) 0 c (step a c t d).states in
    step_at_lem a c t d k l (split_length a.processes _) ∙ ap (next_of a c t k) (reads_none p (bit_or d (present a c t)) new (deaf p (list_has a.processes k nobody l)))

pub all_prompted : (sheet : List ℕ) (s : Sheet) (is_proper : read_sheet sheet ≡ proper s) → PromptInputs sheet s is_proper
all_prompted sheet s is_proper =
    let a = s.architecture in
    let good = (sheet_proper sheet s is_proper).architecture in
    record {
      moves_on_reads = λ c n d choice ln ld. moves_on_reads a good c (composed a n) d choice.tables (composed_in a n good) ld;
      without_prompts = without_prompts a;
    }
