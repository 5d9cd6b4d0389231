-- A process has at most six bytes, by its kind.
use Rattle.std.proofs.Common.{◌≡◌, ◌<◌, ℕ, ◌∙◌, ap, length, arith, length-take}
use Rattle.model.specs.Mask.{if}
use Rattle.model.specs.Sheet.{Process}
use Rattle.model.specs.SheetFile.{processes_bytes}
use Rattle.architecture.specs.Struct.{process_in, first_in, processes_of}
use Rattle.architecture.proofs.ProcessesOfArrays.{process_taken}
use Rattle.joining.proofs.FrontLength.{process_turn, process_few, front_whole}
use Rattle.joining.proofs.fronts.front_length.Goals as goal

pub loop-process-init : goal.loop-process-init
unfolding processes_bytes processes_of
loop-process-init c = record { is = omega arith; few = omega arith }

pub overflow_add-bytes-in-loop-process : goal.overflow_add-bytes-in-loop-process
overflow_add-bytes-in-loop-process c =
    let a = c.args.a in
    let k = c.loop-process.process-index in
    let inside : k < a.processes = omega (arith, length-take a.processes a.process_list) in
    let own = c.process_length-bytes.ensures ∙ ap (λ (p : Process). if p.prompted 6 5) (process_taken a a.processes k inside) in
    omega (arith, own, process_few (process_in a k).prompted, c.requires.arrays.few_ties)

pub loop-process-preserved : goal.loop-process-preserved
loop-process-preserved c =
    let a = c.args.a in
    let k = c.loop-process.process-index in
    let inside : k < a.processes = omega (arith, length-take a.processes a.process_list) in
    let own = c.process_length-bytes.ensures ∙ ap (λ (p : Process). if p.prompted 6 5) (process_taken a a.processes k inside) in
    let more = process_turn a k c.process_length-bytes.result own in
    record { is = omega arith; few = omega (arith, own, process_few (process_in a k).prompted) }

pub returns-clause-value : goal.returns-clause-value
returns-clause-value c =
    let a = c.args.a in
    let over : c.loop-process.process-index ≡ a.processes = omega (arith, length-take a.processes a.process_list) in
    omega (arith, front_whole a, ap (λ (n : ℕ). length (processes_bytes (first_in a n))) over)
