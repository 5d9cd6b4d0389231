-- A front that was refused is the sheet's refusal, and behind any other the automaton decides.
use Rattle.std.proofs.Common.{sym, ◌∙◌}
use Rattle.std.proofs.lemmas.Result.{err_from_is_err_and}
use Rattle.model.specs.Reading.{read_sheet}
use Rattle.model.proofs.Refusing.{then_refused, then_read}
use Rattle.sheet.proofs.read.Goals as goal

pub returns-in_err-front-clause-result_value : goal.returns-in_err-front-clause-result_value
unfolding read_sheet
returns-in_err-front-clause-result_value c =
    let p = err_from_is_err_and c.from_residual.result c.from_residual.ensures.1 in
    rw (p.1, p.2) (sym (then_refused _ (sym c.in_err-front.ensures.result_value)))

pub returns-in_err-automaton-clause-result_value : goal.returns-in_err-automaton-clause-result_value
unfolding read_sheet
returns-in_err-automaton-clause-result_value c =
    let p = err_from_is_err_and c.from_residual-in_err-automaton.result c.from_residual-in_err-automaton.ensures.1 in
    rw (p.1, p.2) (sym (then_read _ (sym c.in_ok-front.ensures.result_value) ∙ then_refused _ (sym c.in_err-automaton.ensures.result_value)))

pub returns-clause-result_value : goal.returns-clause-result_value
unfolding read_sheet
returns-clause-result_value c =
    sym (then_read _ (sym c.in_ok-front.ensures.result_value) ∙ then_read _ (sym c.in_ok-automaton.ensures.result_value))
