-- The kind chooses the mark.
use Rattle.std.proofs.Common.{rules}
use Rattle.model.specs.Mask.{if}
use Rattle.model.specs.SheetFile.{edge_mark}
use Rattle.writing.proofs.put_mark.Goals as goal
use Rattle.writing.proofs.put_mark.Goals.{then-unless, else-unless}

pub returns : goal.returns
unfolding edge_mark if
returns c = elim c.if-unless.branch [ then-unless w ↦ search rules | else-unless w ↦ search rules ]
