use Rattle.std.proofs.Common.{◌≡◌, ℕ, ◌+◌, ◌<◌, ◌≤◌, List, length, get_or, take, sym, ◌∙◌, arith, get_or-take}
use Rattle.std.proofs.lemmas.List.{length-take-le}
use Rattle.search.specs.Choices.{Chains, group_at}
use Rattle.search.proofs.AlongChain.{SetTo, set_none, set_more, set_all}
use Rattle.search.proofs.settle_group.Goals as goal

-- the first n leaders
module _ {n : ℕ} {groups : List ℕ} (chains : Chains n groups) where
  leaders_long : length (take n groups) ≡ n
  leaders_long = length-take-le n groups (omega (arith, chains.few, chains.long))

  leader_low : (k : ℕ) → k < length (take n groups) → get_or (take n groups) k 0 ≤ k
  leader_low k h =
      let inside : k < n = omega (arith, leaders_long) in
      rw (get_or-take n groups k 0 inside) (chains.low k inside)

pub loop-k-init : goal.loop-k-init
loop-k-init c =
    let low = leader_low c.requires.chains in
    record { inside = omega (arith, c.requires.l_lt_n.0); own = λ h. c.requires.l_lt_n.1; values_set = set_none _ _ _ _ low; unset_set = set_none _ _ _ _ low }

pub loop-k-preserved : goal.loop-k-preserved
loop-k-preserved c =
    let b = c.args in
    let k = c.loop-k.k in
    let i = c.loop-k.invariant in
    let chains = c.requires.chains in
    let next = chains.next k c.loop-k-test.true in
    let long = leaders_long chains in
    let leader = λ (j : ℕ) (h : j < b.n). get_or-take b.n b.groups.now j 0 h in
    let own : get_or (take b.n b.groups.now) k 0 ≡ b.l = leader k c.loop-k-test.true ∙ i.own c.loop-k-test.true in
    let inside : k < length (take b.n b.groups.now) = omega (arith, long) in
    let small : k < 272 = omega (arith, chains.few) in
    let values : SetTo (group_at b.fixed.now b.l b.v) (take b.n b.groups.now) b.l (get_or b.groups.now (272 + k) 0) b.values.now _ =
    set_more _ _ _ _ k _ c.loop-k.values inside (omega (arith, small, c.requires.values_len.0)) own next i.values_set in
    record {
      inside = omega (arith, next.inside, long);
      own = λ h. sym (leader _ h) ∙ next.same (omega (arith, long)) ∙ own;
      values_set = rw c.group_value.ensures values;
      unset_set = set_more _ _ _ _ k _ c.loop-k.unset inside (omega (arith, small, c.requires.values_len.1)) own next i.unset_set;
    }

pub returns-clause-values_after : goal.returns-clause-values_after
returns-clause-values_after c = set_all _ _ _ _ c.loop-k.k _ (omega (arith, leaders_long c.requires.chains)) c.loop-k.invariant.values_set

pub returns-clause-unset_after : goal.returns-clause-unset_after
returns-clause-unset_after c = set_all _ _ _ _ c.loop-k.k _ (omega (arith, leaders_long c.requires.chains)) c.loop-k.invariant.unset_set
