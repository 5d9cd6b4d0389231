-- What was opened has no process yet, and behind the processes there is no tie yet.
use Rattle.std.proofs.Common.{◌≡◌, sym, ap, ◌∙◌, length, not, arith}
use Rattle.std.proofs.lemmas.Result.{err_from_is_err_and}
use Rattle.model.specs.Reading.{Front, ◌then◌, architecture_at, read_processes, read_ties, read_front}
use Rattle.model.proofs.Refusing.{go, then_refused, then_read}
use Rattle.model.proofs.ProperSheet.{processes_end}
use Rattle.architecture.proofs.ProcessesOfArrays.{count_is, ties_count}
use Rattle.sheet.specs.Struct.{front_in, front_of}
use Rattle.sheet.proofs.RefusalTests.{enough}
use Rattle.sheet.proofs.read_front.Goals as goal
use Rattle.sheet.proofs.read_front.Goals.{After-read_processes}

pub read_processes-requires-clause-no_process : goal.read_processes-requires-clause-no_process
read_processes-requires-clause-no_process c = omega (arith, count_is c.opened.result.architecture, ap (λ (f : Front). length f.architecture.processes) c.opened.ensures.result_value)

-- the fields are in order: the processes, and the ties behind them
fields : (c : After-read_processes) → let b = c.args.sheet.now in read_front b ≡ (read_processes 4 (architecture_at b) b 5 then λ f. read_ties 3 f.architecture b f.end)
unfolding read_front
fields c =
    go _ _ (enough c.args.sheet.now 0 2 (omega arith) (omega (arith, c.if-sheet-lt2.false))) ∙ go _ _ (ap not (sym c.is_marked.ensures ∙ c.if-not-is_marked.false))
    ∙ go _ _ (enough c.args.sheet.now 0 5 (omega arith) (omega (arith, c.if-sheet-lt5.false))) ∙ go _ _ (sym c.ar_fault.ensures ∙ c.if-ar_fault.false)

-- what was read of them is read behind AR
processes : (c : After-read_processes) → front_of c.read_processes.result ≡ read_processes 4 (architecture_at c.args.sheet.now) c.args.sheet.now 5
processes c = c.read_processes.ensures.result_value ∙ ap (λ (f : Front). read_processes 4 f.architecture c.args.sheet.now f.end) c.opened.ensures.result_value

pub returns-in_err-processes-clause-result_value : goal.returns-in_err-processes-clause-result_value
returns-in_err-processes-clause-result_value c =
    let d = (goal.at.returns-in_err-processes-clause-result_value c).After-read_processes in
    let p = err_from_is_err_and c.from_residual.result c.from_residual.ensures.1 in
    rw (p.1, p.2) (sym (fields d ∙ then_refused _ (sym (processes d) ∙ ap front_of c.in_err-processes.was)))

pub read_ties-requires-clause-no_tie : goal.read_ties-requires-clause-no_tie
read_ties-requires-clause-no_tie c =
    let d = (goal.at.read_ties-requires-clause-no_tie c).After-read_processes in
    let read = c.in_ok-processes.processes in
    omega (arith, ties_count read.architecture, ap length (processes_end 4 (architecture_at c.args.sheet.now) c.args.sheet.now 5 (front_in read) (sym (processes d) ∙ ap front_of c.in_ok-processes.was)).1)

pub returns-clause-result_value : goal.returns-clause-result_value
returns-clause-result_value c =
    let d = (goal.at.returns-clause-result_value c).After-read_processes in
    c.read_ties.ensures.result_value ∙ sym (fields d ∙ then_read _ (sym (processes d) ∙ ap front_of c.in_ok-processes.was))
