-- One digit more, or a byte that is no digit.
use Rattle.std.proofs.Common.{arith, sym, eq-eqb, ne_eqb}
use Rattle.model.specs.Mask.{if}
use Rattle.stepping.specs.Words.{digit_of, extended}
use Rattle.stepping.proofs.extended.Goals as goal

pub returns-in-Some-clause-value : goal.returns-in-Some-clause-value
unfolding extended if
returns-in-Some-clause-value c =
    let digit = c.in-Some.ensures in
    rw (ne_eqb (digit_of c.args.byte) 16 (λ e. omega (arith, digit.value, digit.upper_bound)), ← digit.value) c.longer.ensures.value

pub returns-in-None-clause-value : goal.returns-in-None-clause-value
unfolding extended if
returns-in-None-clause-value c = rw (eq-eqb _ 16 (sym c.in-None.ensures.value)) c.no_direction.ensures
