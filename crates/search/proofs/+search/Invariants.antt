-- `search::search`: its measure is `left`, the count of entries still open. The loop's invariant: with each lower value at the leader l no choice
-- that completes the partial one keeps the sheet, and but for the group of l it is that of the entry.
use Rattle.architecture.specs.Struct.{architecture_of}
use Rattle.sheet.specs.Struct.{sheet_of}
use Rattle.choice.specs.Kinds.{kind_of}
use Rattle.ties.specs.Leaders.{entry_leaders}
use Rattle.ties.specs.Unpack.{group_value}
use Rattle.ties.specs.Groups.{set_group}
use Rattle.exploration.specs.Answers.{Work}
use Rattle.search.specs.Answers.{NoChoice}
use Rattle.search.proofs.OneGroup.{Trying, ButGroup}
use Rattle.search.proofs.+search.Given as goal

abbrev pub decreases-search : goal.decreases-search
decreases-search l = l.left

abbrev pub invariant-loop-v : goal.invariant-loop-v
invariant-loop-v l =
    let a = architecture_of l.sheet.architecture in
    record {
      tried : Trying (kind_of l.kind) (λ u. NoChoice (sheet_of l.sheet) (set_group (group_value a l.l u) (entry_leaders a) l.l l.fn.values) (set_group (λ i. 0) (entry_leaders a) l.l l.fn.unset)) l.v;
      values_same : ButGroup a l.l l.values l.fn.values;
      unset_same : ButGroup a l.l l.unset l.fn.unset;
      work : Work l.numbers l.stack l.waiting l.targets l.steps;
    }
