-- Before k, the next entry of the group, both arrays are done, and from k on as they were.
use Rattle.std.proofs.Common.{◌≡◌, ◌-◌, ◌<◌, ◌≤◌, get_or, take}
use Rattle.search.specs.Choices.{group_at}
use Rattle.search.proofs.AlongChain.{SetTo}
use Rattle.search.proofs.settle_group.Given as goal

abbrev pub invariant-loop-k : goal.invariant-loop-k
invariant-loop-k l = record {
  inside : l.k ≤ l.n;
  own : l.k < l.n → get_or l.groups l.k 0 ≡ l.l;
  values_set : SetTo (group_at l.fixed l.l l.v) (take l.n l.groups) l.l l.k l.initial.values l.values;
  unset_set : SetTo (λ i. l.mark) (take l.n l.groups) l.l l.k l.initial.unset l.unset;
}

abbrev pub decreases-loop-k : goal.decreases-loop-k
decreases-loop-k l = l.n - l.k
