-- `listing::put_front`: the environment variables are the lowest, so that their mask is the number of directions less one.
use Rattle.listing.proofs.put_front.Goals as goal

pub returns : goal.returns
returns c = rw (← c.directions-environment.ensures) c.put_filled.ensures
