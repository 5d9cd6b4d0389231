-- The two tables stand from where the entries of their processes begin, and are equally long.
use Rattle.std.proofs.Common.{◌<◌, ◌∙◌, arith}
use Rattle.model.specs.Sheet.{Tie}
use Rattle.choice.proofs.KindWords.{entries_few}
use Rattle.ties.proofs.TablesOfArrays.{tie_left, tie_right, tie_long, own_few, kept_is}
use Rattle.ties.proofs.is_kept.Goals as goal
use Rattle.ties.proofs.is_kept.Goals.{Start}

abbrev tied : Start → Tie
tied c = record { left = c.args.left; right = c.args.right }

left : (c : Start) → c.args.left < c.args.a.processes
left c = tie_left c.args.a (tied c) c.requires.proper_tie

right : (c : Start) → c.args.right < c.args.a.processes
right c = tie_right c.args.a (tied c) c.requires.proper_tie

pub start-requires-clause-i_le_processes : goal.start-requires-clause-i_le_processes
start-requires-clause-i_le_processes c = omega (arith, left (goal.at.start-requires-clause-i_le_processes c).Start)

pub start-requires-2-clause-i_le_processes : goal.start-requires-2-clause-i_le_processes
start-requires-2-clause-i_le_processes c = omega (arith, right (goal.at.start-requires-2-clause-i_le_processes c).Start)

pub length_of-requires-clause-i_lt_processes : goal.length_of-requires-clause-i_lt_processes
length_of-requires-clause-i_lt_processes c = left (goal.at.length_of-requires-clause-i_lt_processes c).Start

pub are_alike-requires-clause-left_in_bounds : goal.are_alike-requires-clause-left_in_bounds
are_alike-requires-clause-left_in_bounds c =
    let few = own_few c.args.a c.args.left (left (goal.at.are_alike-requires-clause-left_in_bounds c).Start) c.requires.proper in
    (omega arith, omega arith)

pub are_alike-requires-clause-right_in_bounds : goal.are_alike-requires-clause-right_in_bounds
are_alike-requires-clause-right_in_bounds c =
    let s = (goal.at.are_alike-requires-clause-right_in_bounds c).Start in
    let few = own_few c.args.a c.args.right (right s) c.requires.proper in
    let long = tie_long c.args.a (tied s) c.requires.proper_tie in
    (omega arith, omega arith)

pub returns : goal.returns
returns c =
    let room = entries_few c.args.a c.requires.proper in
    c.are_alike.ensures
    ∙ kept_is c.args.a c.args.kinds.now c.args.tables.now (omega arith) c.requires.kinds_known (tied (goal.at.returns c).Start) c.requires.proper_tie _ _ _
    c.length_of.ensures c.start.ensures c.start-2.ensures
