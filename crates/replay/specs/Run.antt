-- What the annotating program prints of a run, as bytes: its lengths, its start, and a line for each step with the vertex behind it. These are definitions.
use Rattle.std.specs.Prelude.{false, List, [], ◌∷◌, ◌++◌, ℕ, ◌+◌, ◌*◌, ◌^◌, ◌<◌, ◌≤◌, length, get_or, take, drop}
use Rattle.model.specs.Ascii.{ascii}
use Rattle.model.specs.Sheet.{Architecture, Edge, Sheet}
use Rattle.model.specs.Compose.{Composed, label, step, initial}
use Rattle.template.specs.Template.{filled}
use Rattle.text.specs.Text.{fields}

-- ---- vertices and steps
-- a vertex of the run graph: an automaton state with a composed state
pub record Vertex : Type 0 where
  pub automaton : ℕ
  pub composed : Composed

-- the initial vertex
unfoldable pub start_of : Sheet → Vertex
start_of s = record { automaton = s.automaton.initial; composed = initial s.architecture }

-- no edge
abbrev pub nowhere : Edge
nowhere = record { from = 0; to = 0; on = 0; off = 0; unless = false }

-- the step from v by direction d, along edge number e
unfoldable pub onward : Sheet → List ℕ → Vertex → ℕ → ℕ → Vertex
onward s c v d e = record { automaton = (get_or s.automaton.edges e nowhere).to; composed = step s.architecture c v.composed d }

-- the vertex that steps lead to: each has two bytes, its direction and the number of its edge
unfoldable pub after : Sheet → List ℕ → Vertex → List ℕ → Vertex
after s c v [] = v
after s c v (d ∷ []) = v
after s c v (d ∷ e ∷ steps) = after s c (onward s c v d e) steps

-- ---- the text
-- a line that ends with the state of each process, behind a template with its holes filled
unfoldable pub with_states : (template numbers states : List ℕ) → List ℕ
with_states template numbers states = filled template numbers ++ fields states ++ ascii "\n"

-- a vertex: its automaton state, its label and the state of each process
unfoldable pub vertex_text : Architecture → List ℕ → Vertex → List ℕ
unfolding with_states
vertex_text a c v = with_states (ascii "automaton # label % states") (v.automaton ∷ label a c v.composed ∷ []) v.composed.states

-- a step from v, with the vertex behind it
unfoldable pub step_text : Sheet → List ℕ → Vertex → ℕ → ℕ → List ℕ
step_text s c v d e = filled (ascii "direction % edge # ") (d ∷ e ∷ []) ++ vertex_text s.architecture c (onward s c v d e)

-- steps from v on
unfoldable pub steps_text : Sheet → List ℕ → Vertex → List ℕ → List ℕ
steps_text s c v [] = []
steps_text s c v (d ∷ []) = []
steps_text s c v (d ∷ e ∷ steps) = step_text s c v d e ++ steps_text s c (onward s c v d e) steps

-- the lengths in steps, and the start
unfoldable pub opening_text : Sheet → List ℕ → (stem cycle : ℕ) → List ℕ
opening_text s c stem cycle = filled (ascii "loop # #\nstart ") (stem ∷ cycle ∷ []) ++ vertex_text s.architecture c (start_of s)

-- before the cycle
abbrev pub round_text : List ℕ
round_text = ascii "round\n"

-- the steps of the stem and of the cycle in a path
abbrev pub stem_of : ℕ → List ℕ → List ℕ
stem_of stem path = take (2 * stem) path

abbrev pub cycle_of : (stem cycle : ℕ) → List ℕ → List ℕ
cycle_of stem cycle path = take (2 * cycle) (drop (2 * stem) path)

-- the run at the front of a path, with `round` between stem and cycle
unfoldable pub run_text : Sheet → List ℕ → (stem cycle : ℕ) → List ℕ → List ℕ
run_text s c stem cycle path =
    opening_text s c stem cycle
    ++ steps_text s c (start_of s) (stem_of stem path)
    ++ round_text
    ++ steps_text s c (after s c (start_of s) (stem_of stem path)) (cycle_of stem cycle path)

-- ---- what is asked of a path
-- each step goes by a possible direction, along an edge that there is
pub data Possible (s : Sheet) : List ℕ → Type 0 where
  none : Possible s []
  also : {d e : ℕ} {steps : List ℕ} → d < 2 ^ s.architecture.environment → e < length s.automaton.edges → Possible s steps → Possible s (d ∷ e ∷ steps)

-- a run is at the front of the path
pub record HasRun (s : Sheet) (stem cycle : ℕ) (path : List ℕ) : Type 0 where
  pub long : 2 * (stem + cycle) ≤ length path
  pub stem_possible : Possible s (stem_of stem path)
  pub cycle_possible : Possible s (cycle_of stem cycle path)
