use Rattle.search.proofs.LeastChoice.{untouched_all, begun_none}
use Rattle.search.proofs.begin.Goals as goal

pub loop-k-init : goal.loop-k-init
loop-k-init c = record {
  begun = begun_none c.args.n c.args.i c.args.groups.now c.args.tables.now c.requires.chains.0 c.requires.chains.1 c.requires.tables_len;
  untouched = untouched_all c.args.i c.args.tables.now;
}
