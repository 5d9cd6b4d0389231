-- The tie at the index is joined, and those behind it remain.
use Rattle.std.proofs.Common.{◌≡◌, ◌<◌, refl, sym, ◌∙◌, ap, arith, length-take}
use Rattle.theory.specs.Lists.{from}
use Rattle.model.specs.Sheet.{Tie}
use Rattle.architecture.specs.Struct.{tie_of}
use Rattle.architecture.proofs.ProcessesOfArrays.{tie_taken}
use Rattle.ties.specs.Leaders.{leaders}
use Rattle.ties.proofs.TablesOfArrays.{tie_left, tie_right, tie_proper}
use Rattle.ties.proofs.LeadersOfArrays.{join_turn, join_done}
use Rattle.ties.proofs.process_leaders.Goals as goal

pub loop-tie-init : goal.loop-tie-init
unfolding leaders from
loop-tie-init c = refl

pub join-joined-requires : goal.join-joined-requires
join-joined-requires c =
    let a = c.args.a in
    let k = c.loop-tie.tie-index in
    let inside : k < a.ties = omega (arith, length-take a.ties a.tie_list) in
    let t = tie_of a.tie_list k in
    let proper = tie_proper a c.requires k inside in
    let same = tie_taken a.tie_list a.ties k inside in
    (omega (arith, tie_left a t proper, ap (λ (x : Tie). x.left) same, c.requires.arrays.few_processes), omega (arith, tie_right a t proper, ap (λ (x : Tie). x.right) same, c.requires.arrays.few_processes))

pub loop-tie-preserved : goal.loop-tie-preserved
loop-tie-preserved c =
    let a = c.args.a in
    let k = c.loop-tie.tie-index in
    let inside : k < a.ties = omega (arith, length-take a.ties a.tie_list) in
    rw (c.join-joined.ensures, tie_taken a.tie_list a.ties k inside) (sym (join_turn c.loop-tie.leaders a k inside) ∙ c.loop-tie.invariant)

pub returns : goal.returns
returns c =
    let a = c.args.a in
    let over : c.loop-tie.tie-index ≡ a.ties = omega (arith, length-take a.ties a.tie_list, c.requires.arrays.few_ties, c.requires.arrays.ties_long) in
    sym (join_done c.loop-tie.leaders a c.loop-tie.tie-index over) ∙ c.loop-tie.invariant
