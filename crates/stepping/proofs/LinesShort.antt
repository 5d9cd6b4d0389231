-- How long a line is at most: 64 bytes.
use mathlib.Core.List.{List}
use Prim.Native.Nat.{ℕ, ◌≤◌}
use native.Mathlib.Omega.{arith}
use lib.ListN.{length, length-append}
use Rattle.model.specs.Sheet.{Architecture, ProperArchitecture}
use Rattle.model.specs.Compose.{Composed}
use Rattle.model.proofs.ComposedNumbers.{IsState}
use Rattle.template.proofs.FilledShort.{longest, Few, filled_short}
use Rattle.replay.specs.Run.{with_states}
use Rattle.replay.proofs.RunShort.{states_short}

pub line_short : (a : Architecture) (t : Composed) → ProperArchitecture a → IsState a t → (template numbers : List ℕ) → Few 2 numbers → longest 2 template ≤ 55
    → length (with_states template numbers t.states) ≤ 64
unfolding with_states
line_short a t g w template numbers few short =
    simp length-append (omega (arith, filled_short 2 template numbers few, states_short g.front.processes_proper w.states_in, g.front.few_processes))
