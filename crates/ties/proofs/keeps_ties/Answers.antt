-- The tie at the index is tested, and those behind it remain.
use Rattle.std.proofs.Common.{◌≡◌, ℕ, ◌+◌, ◌<◌, List, Bool, ◌&&◌, refl, sym, ◌∙◌, subst, take, drop, arith, length-take}
use Rattle.std.proofs.lemmas.Grind.{common_steps}
use Rattle.theory.specs.Lists.{all}
use Rattle.model.specs.Sheet.{ProperTie}
use Rattle.model.specs.Choice.{kept, keeps_ties}
use Rattle.architecture.specs.declared.Architecture.{Architecture}
use Rattle.architecture.specs.Struct.{architecture_of, processes_in, tie_of, ties_in}
use Rattle.architecture.proofs.ProcessesOfArrays.{tie_taken}
use Rattle.ties.proofs.TablesOfArrays.{tie_proper, ties_turn, ties_done}
use Rattle.ties.proofs.keeps_ties.Goals as goal

here : (a : Architecture) (tables : List ℕ) (k : ℕ) (r : Bool) → k < a.ties → r ≡ kept (architecture_of a) tables (tie_of (take a.ties a.tie_list) k)
    → all (kept (architecture_of a) tables) (drop k (ties_in a)) ≡ (r && all (kept (architecture_of a) tables) (drop (k + 1) (ties_in a)))
here a tables k r h e = rw (e, tie_taken a.tie_list a.ties k h) (ties_turn a _ k h)

pub loop-tie-init : goal.loop-tie-init
unfolding keeps_ties architecture_of
loop-tie-init c = refl

pub is_kept-requires-clause-proper_tie : goal.is_kept-requires-clause-proper_tie
is_kept-requires-clause-proper_tie c =
    let a = c.args.a in
    let k = c.loop-tie.tie-index in
    let inside : k < a.ties = omega (arith, length-take a.ties a.tie_list) in
    subst (ProperTie (processes_in a)) (sym (tie_taken a.tie_list a.ties k inside)) (tie_proper a c.requires.proper k inside)

pub returns-then-not-is_kept : goal.returns-then-not-is_kept
returns-then-not-is_kept c =
    let a = c.args.a in
    let k = c.loop-tie.tie-index in
    let inside : k < a.ties = omega (arith, length-take a.ties a.tie_list) in
    let e = here a c.args.tables.now k c.is_kept.result inside c.is_kept.ensures in
    grind (arith, common_steps)

pub loop-tie-preserved : goal.loop-tie-preserved
loop-tie-preserved c =
    let a = c.args.a in
    let k = c.loop-tie.tie-index in
    let inside : k < a.ties = omega (arith, length-take a.ties a.tie_list) in
    let e = here a c.args.tables.now k c.is_kept.result inside c.is_kept.ensures in
    grind (arith, common_steps)

pub returns : goal.returns
returns c =
    let a = c.args.a in
    let over : c.loop-tie.tie-index ≡ a.ties = omega (arith, length-take a.ties a.tie_list, c.requires.proper.arrays.few_ties, c.requires.proper.arrays.ties_long) in
    sym (sym c.loop-tie.invariant ∙ ties_done a _ c.loop-tie.tie-index over)
