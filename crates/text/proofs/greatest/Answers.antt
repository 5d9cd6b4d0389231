-- `text::greatest`: a blank is passed over, and any other number is taken into the greatest.
use mathlib.Core.Path.{◌∙◌}
use native.Mathlib.Omega.{arith}
use lib.ListN.{drop_of_length-le}
use borrow.Author.Rules.{rules}
use Rattle.model.specs.Mask.{if}
use Rattle.theory.specs.Lists as lists
use Rattle.text.specs.Text.{unblank}
use Rattle.text.proofs.GreatestNumber.{greatest_turn}
use Rattle.text.proofs.greatest.Goals as goal
use Rattle.text.proofs.greatest.Goals.{then-number, else-number}

pub loop-number-preserved : goal.loop-number-preserved
unfolding unblank if
loop-number-preserved c =
    let l = c.loop-number in
    let turn = greatest_turn c.args.annotation.now l.number-index l.most c.if-number.most c.loop-number-test.true in
    elim c.if-number.branch [
      | then-number w ↦ turn (search rules) ∙ l.invariant
      | else-number w ↦ turn (search rules) ∙ l.invariant
    ]

pub returns : goal.returns
unfolding lists.greatest
returns c = omega (arith, rw (drop_of_length-le c.args.annotation.now {i = c.loop-number.number-index} c.loop-number-test.false) at c.loop-number.invariant)
