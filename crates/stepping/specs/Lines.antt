-- What the desk program prints, as bytes: a line for the start, and one for each direction. These are definitions.
use Rattle.std.specs.Prelude.{List, [], ◌∷◌, ℕ, Result, Ok, Err}
use Rattle.model.specs.declared.Desk.{Desk}
use Rattle.model.specs.Ascii.{ascii}
use Rattle.model.specs.Numbers.{number}
use Rattle.model.specs.Sheet.{Architecture}
use Rattle.model.specs.Compose.{label, initial}
use Rattle.model.specs.Desk.{AfterStep, on_desk}
use Rattle.template.specs.Template.{filled}
use Rattle.replay.specs.Run.{with_states}
use Rattle.model.specs.declared.Refusal.{Refusal}

-- the start: the initial label, and the state of each process
unfoldable pub start_text : Architecture → List ℕ → List ℕ
unfolding with_states
start_text a c = with_states (ascii "start label % states") (label a c (initial a) ∷ []) (initial a).states

-- a direction: the label and the states behind its step, or its refusal
unfoldable pub line_of : Architecture → ℕ → Result ℕ Refusal → Desk → List ℕ
unfolding with_states
line_of a d (Err r) k = filled (ascii "direction % refused #\n") (d ∷ number r ∷ [])
line_of a d (Ok l) k = with_states (ascii "direction % label % states") (d ∷ l ∷ []) (on_desk a k).states

-- what a step by direction d gave
abbrev pub step_text : Architecture → ℕ → AfterStep → List ℕ
step_text a d r = line_of a d r.answer r.desk
