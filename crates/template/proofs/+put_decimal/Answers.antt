-- `template::put_decimal`: it calls itself for the digits before the last.
use native.Mathlib.Omega.{arith}
use lib.ListN.{length-append}
use Rattle.append.proofs.Appended.{append_more}
use Rattle.template.proofs.DecimalLaws.{decimal_few, decimal_more}
use Rattle.template.proofs.+put_decimal.Goals as goal

pub put-requires : goal.put-requires
put-requires t c = omega (arith, rw (decimal_few _ c.if-n-lt10.true) at c.requires)

pub returns-then-n-lt10 : goal.returns-then-n-lt10
returns-then-n-lt10 t c = rw (decimal_few _ c.if-n-lt10.true, ← c.digit.ensures) c.put.ensures

-- there is room for the digits before the last, and for the last
pub put_decimal-next-requires : goal.put_decimal-next-requires
put_decimal-next-requires t c = (omega arith, omega (arith, rw (decimal_more _ c.if-n-lt10.false, length-append) at c.requires))

pub put-requires-2 : goal.put-requires-2
put-requires-2 t c = omega (arith, rw (decimal_more _ c.if-n-lt10.false, length-append) at c.requires)

pub returns : goal.returns
returns t c = rw (decimal_more _ c.if-n-lt10.false, ← c.digit-2.ensures) (append_more c.put_decimal-next.ensures c.put-2.ensures)
