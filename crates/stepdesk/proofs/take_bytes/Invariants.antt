-- The session is ready for the next byte.
use Rattle.stepdesk.specs.Ready.{Ready}
use Rattle.stepdesk.proofs.take_bytes.Given as goal

abbrev pub invariant-loop-byte : goal.invariant-loop-byte
invariant-loop-byte g l = Ready l.sheet l.book l.read l.session
