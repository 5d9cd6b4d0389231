-- `listing::leads`: the leaders of four are those of the processes that there are.
use Rattle.ties.proofs.LeadersOfArrays.{own_leader}
use Rattle.listing.proofs.leads.Goals as goal

pub returns : goal.returns
returns c = rw (own_leader c.args.a c.requires.proper _ c.process_leaders-own.ensures c.args.i c.requires.i_lt_processes)
