-- The mark, and behind it the fields.
use Rattle.std.proofs.Common.{arith}
use Rattle.model.specs.SheetFile.{edge_bytes}
use Rattle.model.proofs.RecordAt.{mark_long, edge_long}
use Rattle.append.proofs.Appended.{append_more}
use Rattle.automaton.specs.Struct.{edge_of}
use Rattle.writing.proofs.put_edge.Goals as goal

pub put_mark-after_mark-requires : goal.put_mark-after_mark-requires
put_mark-after_mark-requires c = omega (arith, edge_long (edge_of c.args.edge))

pub put_all-requires : goal.put_all-requires
put_all-requires c = omega (arith, edge_long (edge_of c.args.edge), mark_long c.args.edge.unless)

pub returns : goal.returns
unfolding edge_bytes
returns c = append_more c.put_mark-after_mark.ensures c.put_all.ensures
