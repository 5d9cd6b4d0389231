-- `drawing::put_table_front`: the masks are those of the process, and its kind tells the front.
use Rattle.model.specs.Mask.{if}
use Rattle.drawing.specs.Drawing.{table_front}
use Rattle.drawing.proofs.put_table_front.Goals as goal

pub put_filled-requires : goal.put_filled-requires
unfolding table_front if
put_filled-requires c =
    rw (c.inputs_of-inputs.ensures, c.prompts_of-prompts.ensures, c.outputs_of-outputs.ensures) (rw (← c.if-prompted_of.ensures) at c.requires.i_in_bounds)

pub returns-then-prompted_of : goal.returns-then-prompted_of
unfolding table_front if
returns-then-prompted_of c =
    rw (← c.if-prompted_of.ensures) (rw (c.inputs_of-inputs.ensures, c.prompts_of-prompts.ensures, c.outputs_of-outputs.ensures) at c.put_filled.ensures)

pub put_filled-requires-2 : goal.put_filled-requires-2
unfolding table_front if
put_filled-requires-2 c = rw (c.inputs_of-inputs.ensures, c.outputs_of-outputs.ensures) (rw (← c.if-prompted_of.ensures) at c.requires.i_in_bounds)

pub returns : goal.returns
unfolding table_front if
returns c = rw (← c.if-prompted_of.ensures) (rw (c.inputs_of-inputs.ensures, c.outputs_of-outputs.ensures) at c.put_filled-2.ensures)
