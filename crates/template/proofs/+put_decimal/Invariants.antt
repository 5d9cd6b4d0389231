-- `template::put_decimal` calls itself for the digits before the last. The measure is the number.
use Rattle.template.proofs.+put_decimal.Given as goal

abbrev pub decreases-put_decimal : goal.decreases-put_decimal
decreases-put_decimal l = l.n
