-- Each part goes behind the one before.
use Rattle.std.proofs.Common.{List, ℕ, ◌≡◌, ◌+◌, ◌++◌, length, arith, length-append}
use Rattle.model.specs.Reading.{EN}
use Rattle.model.specs.SheetFile.{states_bytes, edges_bytes, automaton_bytes}
use Rattle.append.proofs.Appended.{append_more}
use Rattle.automaton.specs.declared.Automaton.{Automaton}
use Rattle.automaton.specs.Struct.{first_in, automaton_of}
use Rattle.writing.proofs.put_sheet.Goals as goal

-- how long all parts are
parts : (front : List ℕ) (u : Automaton) → length (front ++ automaton_bytes (automaton_of u) ++ EN)
    ≡ length front + length (states_bytes (automaton_of u)) + length (edges_bytes (first_in u u.edges)) + 2
unfolding automaton_bytes automaton_of
parts front u = simp length-append (omega arith)

pub put_states-after_states-requires : goal.put_states-after_states-requires
put_states-after_states-requires c = omega (arith, parts c.args.front.now c.args.u)

pub put_edges-after_edges-requires-clause-edges_in_bounds : goal.put_edges-after_edges-requires-clause-edges_in_bounds
put_edges-after_edges-requires-clause-edges_in_bounds c = omega (arith, parts c.args.front.now c.args.u)

pub put_all-requires : goal.put_all-requires
put_all-requires c = omega (arith, parts c.args.front.now c.args.u)

pub returns : goal.returns
unfolding automaton_bytes automaton_of
returns c =
    append_more (append_more c.put_front-after_front.ensures (append_more c.put_states-after_states.ensures c.put_edges-after_edges.ensures)) c.put_all.ensures
