-- A mark that is not there, or three ties: what was read is all. At a mark, this tie and then the rest.
use Rattle.std.proofs.Common.{◌≡◌, refl, sym, ◌∙◌, true, arith}
use Rattle.std.proofs.lemmas.Result.{err_from_is_err_and}
use Rattle.model.specs.Reading.{tie_marked}
use Rattle.architecture.specs.Struct.{architecture_of}
use Rattle.sheet.proofs.ReadingOn.{ties_repeat, reads_none, reads_enough, reads_refused, reads_on}
use Rattle.sheet.proofs.tied.read_ties.Goals as goal

pub loop-init : goal.loop-init
loop-init c = (c.requires.no_tie, record { known = c.requires.front_known; rest = refl })

pub returns-in_err-read-clause-result_value : goal.returns-in_err-read-clause-result_value
returns-in_err-read-clause-result_value c =
    let p = err_from_is_err_and c.from_residual.result c.from_residual.ensures.1 in
    let marked : tie_marked (architecture_of c.loop.read.architecture) c.args.sheet.now c.loop.read.end ≡ true = sym c.is_tie.ensures ∙ c.if-not-is_tie.false in
    rw (p.1, p.2) (reads_refused (ties_repeat c.args.sheet.now) c.loop.invariant.1 c.loop-test.true marked _ c.in_err-read.ensures.result_value)

pub loop-preserved : goal.loop-preserved
loop-preserved c =
    let marked : tie_marked (architecture_of c.loop.read.architecture) c.args.sheet.now c.loop.read.end ≡ true = sym c.is_tie.ensures ∙ c.if-not-is_tie.false in
    let e = c.in_ok-read.ensures in
    (omega (arith, e.one_more, c.loop.invariant.0), reads_on (ties_repeat c.args.sheet.now) c.loop.invariant.1 c.loop-test.true marked c.in_ok-read.read e.result_value e.result_known)

pub returns-then-not-is_tie-clause-result_value : goal.returns-then-not-is_tie-clause-result_value
returns-then-not-is_tie-clause-result_value c =
    reads_none (ties_repeat c.args.sheet.now) c.loop.invariant.1 (sym c.is_tie.ensures ∙ c.if-not-is_tie.true)

pub returns-after-loop-clause-result_value : goal.returns-after-loop-clause-result_value
returns-after-loop-clause-result_value c = reads_enough (ties_repeat c.args.sheet.now) c.loop.invariant.1 c.loop-test.false
