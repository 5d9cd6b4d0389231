-- Where a process's own fields are in order, the mask of all outputs says whether one is already taken, and whether its prompt inputs are put out before it.
use Rattle.std.proofs.Common.{rules, ℕ, ◌*◌, ◌≡◌, sym, ap, ◌∙◌, arith}
use lib.Bits.{bit_or}
use Rattle.model.specs.Sheet.{Process, with_process, ProperFront}
use Rattle.model.specs.Reading.{process_at, read_process}
use Rattle.architecture.specs.Struct.{architecture_of}
use Rattle.sheet.specs.Steps.{process_from}
use Rattle.sheet.proofs.RefusalTests.{in_order}
use Rattle.sheet.proofs.OneProcessMore.{outputs_taken, outputs_free, prompts_decide, process_grown, total_few, known_more}
use Rattle.sheet.proofs.front.read_process.Goals as goal
use Rattle.sheet.proofs.front.read_process.Goals.{Else-prompt_fault}

pub returns-then-process-so_far-ne0-clause-result_value : goal.returns-then-process-so_far-ne0-clause-result_value
unfolding process_from read_process
returns-then-process-so_far-ne0-clause-result_value c =
    let taken = outputs_taken c.requires.front_known c.process_at-process.ensures (sym c.field_fault.ensures ∙ c.if-field_fault.false) c.if-process-so_far-ne0.true in
    grind (arith, in_order, taken)

pub returns-then-prompt_fault-clause-result_value : goal.returns-then-prompt_fault-clause-result_value
unfolding process_from read_process architecture_of
returns-then-prompt_fault-clause-result_value c =
    let free = outputs_free c.requires.front_known c.process_at-process.ensures (sym c.field_fault.ensures ∙ c.if-field_fault.false) c.if-process-so_far-ne0.false in
    let fault = prompts_decide c.requires.front_known c.process_at-process.ensures c.prompt_fault.ensures in
    grind (arith, in_order, free, fault)

grown : (c : Else-prompt_fault) → ProperFront (with_process (architecture_of c.args.so_far.architecture) (process_at c.args.sheet.now c.args.so_far.end))
grown c =
    let free = outputs_free c.requires.front_known c.process_at-process.ensures (sym c.field_fault.ensures ∙ c.if-field_fault.false) c.if-process-so_far-ne0.false in
    let prompted = prompts_decide c.requires.front_known c.process_at-process.ensures c.prompt_fault.ensures ∙ c.if-prompt_fault.false in
    process_grown c.requires.front_known c.requires.so_far_bound c.args.so_far.end free prompted

pub overflow_mul-result : goal.overflow_mul-result
overflow_mul-result c =
    let total : c.args.so_far.total * c.from.result ≡ c.args.so_far.total * (process_at c.args.sheet.now c.args.so_far.end).bound =
    ap (λ (n : ℕ). c.args.so_far.total * n) (c.from.ensures ∙ ap (λ (p : Process). p.bound) c.process_at-process.ensures)
    in
    omega (arith, total_few c.requires.front_known _ (grown (goal.at.overflow_mul-result c).Else-prompt_fault), total)

pub returns-clause-result_value : goal.returns-clause-result_value
unfolding process_from read_process architecture_of
returns-clause-result_value c =
    let free = outputs_free c.requires.front_known c.process_at-process.ensures (sym c.field_fault.ensures ∙ c.if-field_fault.false) c.if-process-so_far-ne0.false in
    let prompted = prompts_decide c.requires.front_known c.process_at-process.ensures c.prompt_fault.ensures ∙ c.if-prompt_fault.false in
    let more = c.with_process.ensures.result_value ∙ ap (with_process (architecture_of c.args.so_far.architecture)) c.process_at-process.ensures in
    grind (arith, in_order, free, prompted, more)

pub returns-clause-result_known : goal.returns-clause-result_known
returns-clause-result_known c =
    let is = c.process_at-process.ensures in
    let w = c.with_process.ensures in
    let more = w.result_value ∙ ap (with_process (architecture_of c.args.so_far.architecture)) is in
    known_more c.requires.front_known _ (grown (goal.at.returns-clause-result_known c).Else-prompt_fault) _ more (search rules) (omega arith)
    (ap (λ (p : Process). bit_or c.args.so_far.owned p.outputs) is) (ap (λ (n : ℕ). c.args.so_far.total * n) (c.from.ensures ∙ ap (λ (p : Process). p.bound) is))
