-- The session is ready for the next byte.
use Rattle.stepdesk.specs.Ready.{Ready}
use Rattle.stepdesk.proofs.take_all.Given as goal

abbrev pub invariant-loop : goal.invariant-loop
invariant-loop g l = Ready l.sheet l.book l.read l.session
