-- `drawing::ways`: the library's count is that of the definition.
use mathlib.Core.Path.{◌≡◌, sym, ◌∙◌}
use lib.Dec.{eqb}
use borrow.Author.Rules.{rules}
use Rattle.std.specs.List.{count_by}
use Rattle.drawing.proofs.MovesInTurn.{ways_are}
use Rattle.drawing.proofs.ways.Goals as goal

pub returns : goal.returns
returns c =
    let counted : c.count.result ≡ count_by (λ z. eqb z c.args.y.0) c.args.next.now = search rules in
    counted ∙ sym (ways_are c.args.y.0 c.args.next.now)
