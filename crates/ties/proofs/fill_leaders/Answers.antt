-- The leaders of the entries of process i are due next, and behind those of the last process nothing is.
use Rattle.std.proofs.Common.{◌≡◌, ◌+◌, ◌≤◌, ◌<◌, length, get_or, ◌∙◌, arith}
use Rattle.theory.specs.Lists.{from}
use Rattle.theory.proofs.ListLaws.{from_long}
use Rattle.model.specs.Choice.{entries}
use Rattle.architecture.specs.Struct.{architecture_of}
use Rattle.architecture.proofs.ProcessesOfArrays.{start_few, process_few}
use Rattle.append.specs.Appends.{Appends}
use Rattle.append.proofs.Appended.{append_length}
use Rattle.append.proofs.Appending.{Opens, appending_none, appending_next, appending_room, appending_all}
use Rattle.choice.proofs.KindWords.{entries_few}
use Rattle.ties.specs.Leaders.{entry_leaders}
use Rattle.ties.proofs.LeadersOfArrays.{leaders_from, leaders_all, leaders_none, leaders_count, own_there, leaders_open}
use Rattle.ties.proofs.fill_leaders.Goals as goal
use Rattle.ties.proofs.fill_leaders.Goals.{In-loop-i, After-length_of, After-loop-i}

pub loop-i-init : goal.loop-i-init
loop-i-init c = rw (leaders_all c.args.a) (appending_none _ _ _)

-- the leader of process i is a process
leader_there : (c : In-loop-i) → get_or c.process_leaders-own.result c.loop-i.i 0 < c.args.a.processes
leader_there c = own_there c.args.a c.requires.proper _ c.process_leaders-own.ensures c.loop-i.i c.loop-i-test.true

pub start-requires-clause-i_le_processes : goal.start-requires-clause-i_le_processes
start-requires-clause-i_le_processes c = omega (arith, leader_there (goal.at.start-requires-clause-i_le_processes c).In-loop-i)

next : (c : After-length_of) → Opens (leaders_from c.args.a c.loop-i.i) (from c.length_of.result c.start.result) (leaders_from c.args.a (c.loop-i.i + 1))
next c =
    leaders_open c.args.a c.requires.proper _ c.process_leaders-own.ensures c.loop-i.i c.loop-i-test.true _ _ c.length_of.ensures c.start.ensures

pub put_from-at-requires : goal.put_from-at-requires
put_from-at-requires c =
    let s = goal.at.put_from-at-requires c in
    let a = c.args.a in
    let z = c.requires.proper in
    let room : 0 + length (entry_leaders (architecture_of a)) ≤ length c.args.leaders.now = omega (arith, leaders_count a z, entries_few a z) in
    let led = leader_there s.In-loop-i in (
      omega (arith, appending_room c.loop-i.invariant room (next s.After-length_of), from_long c.length_of.result c.start.result),
      omega (arith, process_few a z c.loop-i.i c.loop-i-test.true, start_few a z (get_or c.process_leaders-own.result c.loop-i.i 0) (omega arith)),
    )

pub loop-i-preserved : goal.loop-i-preserved
loop-i-preserved c = appending_next c.loop-i.invariant (next (goal.at.loop-i-preserved c).After-length_of) c.put_from-at.ensures

-- all leaders were written
whole : (c : After-loop-i) → Appends c.args.leaders.now 0 (entry_leaders (architecture_of c.args.a)) c.loop-i.at c.loop-i.leaders
whole c = appending_all (rw (leaders_none c.args.a c.loop-i.i (omega arith)) at c.loop-i.invariant)

pub returns-clause-leaders_after : goal.returns-clause-leaders_after
returns-clause-leaders_after c =
    let w = whole (goal.at.returns-clause-leaders_after c).After-loop-i in
    let count : length (entries (architecture_of c.args.a)) ≡ c.loop-i.at = omega (arith, w.ends, leaders_count c.args.a c.requires.proper) in
    rw count w.is

pub returns-clause-leaders_len_2 : goal.returns-clause-leaders_len_2
returns-clause-leaders_len_2 c =
    let w = whole (goal.at.returns-clause-leaders_len_2 c).After-loop-i in
    append_length w (omega (arith, w.ends, leaders_count c.args.a c.requires.proper, entries_few c.args.a c.requires.proper)) ∙ c.requires.leaders_len
