-- `template::put_literal`: the space, the `!`, the sign and the number, each behind the one before.
use Rattle.append.proofs.Appended.{append_more}
use Rattle.template.specs.Template.{literal, next}
use Rattle.template.proofs.put_literal.Goals as goal

pub returns : goal.returns
unfolding next literal
returns c =
    let word = append_more (append_more c.put_unless-after_not.ensures c.put_all-after_sign.ensures) c.put_decimal.ensures in
    append_more c.put_unless-after_space.ensures word
