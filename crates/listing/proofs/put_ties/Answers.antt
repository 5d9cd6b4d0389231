-- The tie at the index is written next, and those behind it remain.
use Rattle.std.proofs.Common.{◌≡◌, ℕ, ◌+◌, ◌<◌, sym, subst, take, arith, length-take}
use Rattle.architecture.specs.declared.Architecture.{Architecture}
use Rattle.architecture.specs.Struct.{tie_of}
use Rattle.architecture.proofs.ProcessesOfArrays.{tie_taken}
use Rattle.model.specs.Sheet.{Tie}
use Rattle.append.proofs.Appending.{Opens, appending_next, appending_room, appending_all}
use Rattle.listing.specs.Listing.{tie_text}
use Rattle.listing.proofs.TieTexts.{ties_from, ties_open, ties_none}
use Rattle.listing.proofs.put_ties.Goals as goal

next : (a : Architecture) (k : ℕ) → k < a.ties → Opens (ties_from a k) (tie_text (tie_of (take a.ties a.tie_list) k)) (ties_from a (k + 1))
next a k h = subst (λ (t : Tie). Opens (ties_from a k) (tie_text t) (ties_from a (k + 1))) (sym (tie_taken a.tie_list a.ties k h)) (ties_open a k h)

pub put_tie-at-requires : goal.put_tie-at-requires
put_tie-at-requires c =
    let inside : c.loop-tie.tie-index < c.args.a.ties = omega (arith, length-take c.args.a.ties c.args.a.tie_list) in
    appending_room c.loop-tie.invariant c.requires.a_in_bounds (next c.args.a c.loop-tie.tie-index inside)

pub loop-tie-preserved : goal.loop-tie-preserved
loop-tie-preserved c =
    let inside : c.loop-tie.tie-index < c.args.a.ties = omega (arith, length-take c.args.a.ties c.args.a.tie_list) in
    appending_next c.loop-tie.invariant (next c.args.a c.loop-tie.tie-index inside) c.put_tie-at.ensures

pub returns : goal.returns
returns c =
    let over : c.args.a.ties ≡ c.loop-tie.tie-index = omega (arith, length-take c.args.a.ties c.args.a.tie_list) in
    appending_all (rw (ties_none c.args.a c.loop-tie.tie-index over) at c.loop-tie.invariant)
