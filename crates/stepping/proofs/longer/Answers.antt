-- A word of fewer than two digits has room for one more.
use Rattle.std.proofs.Common.{arith, lt-ltb, le-ltb}
use Rattle.model.specs.Mask.{if}
use Rattle.stepping.specs.Words.{longer}
use Rattle.stepping.proofs.WordsHeard.{one_digit}
use Rattle.stepping.proofs.longer.Goals as goal

pub returns-then-word-gt1-clause-value : goal.returns-then-word-gt1-clause-value
unfolding longer if
returns-then-word-gt1-clause-value c = rw (lt-ltb _ _ c.if-word-gt1.true) c.no_direction.ensures

pub overflow_mul-result : goal.overflow_mul-result
overflow_mul-result c = omega (arith, one_digit c.args.word.digits _ c.if-word-gt1.false c.requires.0)

pub overflow_add-result-2 : goal.overflow_add-result-2
overflow_add-result-2 c = omega (arith, one_digit c.args.word.digits _ c.if-word-gt1.false c.requires.0)

pub returns-clause-value : goal.returns-clause-value
unfolding longer if
returns-clause-value c = rw (le-ltb _ _ c.if-word-gt1.false)
