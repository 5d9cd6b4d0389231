-- `text::put_edge`: the kind chooses the template.
use borrow.Author.Rules.{rules}
use Rattle.model.specs.Mask.{if}
use Rattle.text.specs.Rows.{edge_text}
use Rattle.text.proofs.put_edge.Goals as goal

pub put_fields-requires : goal.put_fields-requires
unfolding edge_text if
put_fields-requires c = search rules

pub returns-then-edge : goal.returns-then-edge
unfolding edge_text if
returns-then-edge c = search rules

pub put_fields-requires-2 : goal.put_fields-requires-2
unfolding edge_text if
put_fields-requires-2 c = search rules

pub returns : goal.returns
unfolding edge_text if
returns c = search rules
