-- `text::greatest_text`: there is room for a number of 16 bits.
use native.Mathlib.Omega.{arith}
use Rattle.text.proofs.GreatestNumber.{greatest_few}
use Rattle.text.proofs.TextShort.{greatest_short}
use Rattle.text.proofs.greatest_text.Goals as goal

pub put_greatest-requires : goal.put_greatest-requires
put_greatest-requires c = omega (arith, greatest_short c.args.annotation.now (greatest_few c.args.annotation.now (λ k. omega (arith, c.type_inv.annotation k))))
