-- `drawing::put_automaton`: the front, the states, the edges and the end, each behind the one before.
use Rattle.automaton.specs.Struct.{automaton_of}
use Rattle.append.proofs.Appended.{append_more}
use Rattle.drawing.specs.Drawing.{automaton_text}
use Rattle.drawing.proofs.put_automaton.Goals as goal

pub returns : goal.returns
unfolding automaton_text automaton_of
returns c =
    let stated = append_more c.put_automaton_front-after_front.ensures c.put_states-after_states.ensures in
    append_more (append_more stated c.put_edges-after_edges.ensures) c.put_all.ensures
