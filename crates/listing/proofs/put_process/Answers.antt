-- `listing::put_process`: the fields are those of the process, and its kind tells the line.
use Rattle.model.specs.Mask.{if}
use Rattle.listing.specs.Listing.{process_text}
use Rattle.listing.proofs.put_process.Goals as goal

pub put_filled-requires : goal.put_filled-requires
unfolding process_text if
put_filled-requires c =
    rw (c.inputs_of-inputs.ensures, c.prompts_of-prompts.ensures, c.outputs_of-outputs.ensures, c.bound_of-bound.ensures)
    (rw (← c.if-prompted_of.ensures) at c.requires.i_in_bounds)

pub returns-then-prompted_of : goal.returns-then-prompted_of
unfolding process_text if
returns-then-prompted_of c =
    rw (← c.if-prompted_of.ensures)
    (rw (c.inputs_of-inputs.ensures, c.prompts_of-prompts.ensures, c.outputs_of-outputs.ensures, c.bound_of-bound.ensures) at c.put_filled.ensures)

pub put_filled-requires-2 : goal.put_filled-requires-2
unfolding process_text if
put_filled-requires-2 c =
    rw (c.inputs_of-inputs.ensures, c.outputs_of-outputs.ensures, c.bound_of-bound.ensures)
    (rw (← c.if-prompted_of.ensures) at c.requires.i_in_bounds)

pub returns : goal.returns
unfolding process_text if
returns c =
    rw (← c.if-prompted_of.ensures)
    (rw (c.inputs_of-inputs.ensures, c.outputs_of-outputs.ensures, c.bound_of-bound.ensures) at c.put_filled-2.ensures)
