-- The direction, the mask, and then the states.
use Rattle.std.proofs.Common.{arith, ◌∙◌}
use Rattle.architecture.specs.Struct.{architecture_of}
use Rattle.composition.specs.Struct.{composed_of}
use Rattle.desk.proofs.DeskFaults.{direction_out, mask_out, masks_in}
use Rattle.desk.proofs.misfits.Goals as goal

pub returns-then-directions-direction : goal.returns-then-directions-direction
unfolding architecture_of
returns-then-directions-direction c = let b = c.args in direction_out (architecture_of b.a) (composed_of b.a.processes b.t) b.direction (omega arith)

pub returns-then-directions-t : goal.returns-then-directions-t
unfolding architecture_of
returns-then-directions-t c = let b = c.args in mask_out (architecture_of b.a) (composed_of b.a.processes b.t) b.direction (omega arith) (omega arith)

pub returns : goal.returns
unfolding architecture_of
returns c =
    let b = c.args in
    c.is_too_high.ensures ∙ masks_in (architecture_of b.a) (composed_of b.a.processes b.t) b.direction (omega arith) (omega arith)
