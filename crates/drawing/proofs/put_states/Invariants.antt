-- `drawing::put_states`: what is left of the mask is that from q on, and what was written and the states from q on are all.
use Rattle.std.proofs.Common.{◌≡◌, ◌/◌, ◌^◌}
use Rattle.model.specs.Mask.{bit}
use Rattle.append.proofs.Appending.{Appending}
use Rattle.text.proofs.RowTexts.{text_from}
use Rattle.drawing.specs.Drawing.{state_text, states_text}
use Rattle.drawing.proofs.put_states.Given as goal

abbrev pub invariant-loop-q : goal.invariant-loop-q
invariant-loop-q l =
    record {
      lower : l.left ≡ l.rejecting / 2 ^ l.q;
      written : Appending l.fn.text l.start (states_text l.states l.rejecting) l.at l.text (text_from (λ q. state_text q (bit l.rejecting q)) l.states l.q);
    }
