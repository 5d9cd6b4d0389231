-- `listing::put_sheet`: its six parts, each behind the one before.
use Rattle.architecture.specs.Struct.{architecture_of}
use Rattle.automaton.specs.Struct.{automaton_of}
use Rattle.append.proofs.Appended.{append_more}
use Rattle.listing.specs.Listing.{show_text}
use Rattle.listing.proofs.put_sheet.Goals as goal

pub returns : goal.returns
unfolding show_text architecture_of automaton_of
returns c =
    let listed = append_more c.put_front-after_front.ensures c.put_processes-after_processes.ensures in
    let stated = append_more (append_more listed c.put_ties-after_ties.ensures) c.put_states-after_states.ensures in
    append_more (append_more stated c.put_edges-after_edges.ensures) c.put_counts.ensures
