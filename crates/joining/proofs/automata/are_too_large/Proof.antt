-- `automata::are_too_large` meets its contract: the two tests are those of the definition.
use mathlib.Core.Path.{◌≡◌, sym, ap, ◌∙◌}
use mathlib.Core.Bool.{Bool, false, ◌||◌}
use Prim.Native.Nat.{◌+◌}
use native.Mathlib.Omega.{arith}
use lib.Dec.{ltb}
use lib.ListN.{length}
use borrow.Author.Tests.{lt-ltb, le-ltb}
use Rattle.model.specs.Join.{join_automata, is_too_large}
use Rattle.automaton.specs.Struct.{automaton_of}
use Rattle.joining.proofs.JoinFacts.{arrays, own, edges_counted}
use Rattle.joining.proofs.automata.are_too_large.Statement.{statement}
use Rattle.joining.proofs.automata.are_too_large.Tie as tie

-- `if 16 < 1 + u.states + w.states`
add-if1 : tie.Need-overflow_add-u
add-if1 c = omega (arith, (own c.requires.0).few_states)

-- `if 16 < 1 + u.states + w.states`
add-if1-2 : tie.Need-overflow_add-u-2
add-if1-2 c = let b = c.before.before in omega (arith, (own b.requires.0).few_states, (own b.requires.1).few_states)

-- `return true`
returns : tie.Need-returns-then-u-w-gt16
unfolding is_too_large join_automata automaton_of
returns c = rw (lt-ltb 16 _ c.if-u-w-gt16.true)

-- `64 < leaving(u) + leaving(w) + u.edges + w.edges`
leaving-requires : tie.Need-leaving-requires
leaving-requires c κs = arrays c.requires.0

-- `64 < leaving(u) + leaving(w) + u.edges + w.edges`
leaving-requires-2 : tie.Need-leaving-requires-2
leaving-requires-2 c κs = arrays c.requires.1

-- `64 < leaving(u) + leaving(w) + u.edges + w.edges`
add-result : tie.Need-overflow_add-result
add-result c = omega (arith, c.leaving.ensures.1, c.leaving-2.ensures.1)

-- `64 < leaving(u) + leaving(w) + u.edges + w.edges`
add-result-2 : tie.Need-overflow_add-result-2
add-result-2 c =
    let l = c.before in
    omega (arith, l.leaving.ensures.1, l.leaving-2.ensures.1, (arrays c.requires.0).few_edges)

-- `64 < leaving(u) + leaving(w) + u.edges + w.edges`
add-result-3 : tie.Need-overflow_add-result-3
add-result-3 c =
    let l = c.before.before in
    let b = l.before.before.before.before.before in
    omega (arith, l.leaving.ensures.1, l.leaving-2.ensures.1, (arrays b.requires.0).few_edges, (arrays b.requires.1).few_edges)

-- `64 < leaving(u) + leaving(w) + u.edges + w.edges`
returns-2 : tie.Need-returns
unfolding is_too_large join_automata automaton_of
returns-2 c =
    let b = c.before.before.before.before.before.before.before in
    let u = b.args.u in
    let w = b.args.w in
    let l₁ = c.leaving.ensures.0 in
    let l₂ = c.leaving-2.ensures.0 in
    let few : ltb 16 (join_automata (automaton_of u) (automaton_of w)).states ≡ false = le-ltb 16 _ c.if-u-w-gt16.false in
    let sum : c.leaving.result + c.leaving-2.result + u.edges + w.edges ≡ length (join_automata (automaton_of u) (automaton_of w)).edges =
    omega (arith, l₁, l₂, edges_counted u w) in
    ap (ltb 64) sum ∙ sym (ap (λ (t : Bool). t || ltb 64 (length (join_automata (automaton_of u) (automaton_of w)).edges)) few)

pub are_too_large_spec : {M : Type 1} → statement M
are_too_large_spec =
    tie.close
    (tie.spec
    add-if1
    add-if1-2
    returns
    leaving-requires
    leaving-requires-2
    add-result
    add-result-2
    add-result-3
    returns-2)
