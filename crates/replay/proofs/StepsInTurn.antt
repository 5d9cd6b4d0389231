-- Steps one behind another: which is due next, and what is left behind it.
use Rattle.std.proofs.Common.{◌≡◌, ℕ, ◌^◌, ◌<◌, List, [], ◌∷◌, ◌++◌, length, get_or, refl, arith}
use Rattle.model.specs.Sheet.{Sheet}
use Rattle.append.proofs.Appending.{Opens}
use Rattle.replay.specs.Run.{Vertex, onward, after, step_text, steps_text, Possible, also}

-- of the steps that are due, the next goes by direction d along edge e, and the rest follow
pub record Next (s : Sheet) (due : List ℕ) (d e : ℕ) (rest : List ℕ) : Type 0 where
  pub is : due ≡ d ∷ e ∷ rest
  pub direction_possible : d < 2 ^ s.architecture.environment
  pub edge_known : e < length s.automaton.edges
  pub rest_possible : Possible s rest

first : {s : Sheet} {d e : ℕ} {rest : List ℕ} → Possible s (d ∷ e ∷ rest) → Next s (d ∷ e ∷ rest) d e rest
first (also d e p) = record { is = refl; direction_possible = d; edge_known = e; rest_possible = p }

-- the next are these two bytes
pub step_next : (s : Sheet) (step : List ℕ) {due rest : List ℕ} → length step ≡ 2 → due ≡ step ++ rest → Possible s due → Next s due (get_or step 0 0) (get_or step 1 0) rest
step_next s [] two is p = absurd (omega arith)
step_next s (d ∷ []) two is p = absurd (omega arith)
step_next s (d ∷ e ∷ []) two is p = rw is (first (rw is at p))
step_next s (d ∷ e ∷ x ∷ step) two is p = absurd (omega arith)

module _ (s : Sheet) (c : List ℕ) (v : Vertex) where
  -- its line, and those after it
  pub steps_open : {due rest : List ℕ} {d e : ℕ} → Next s due d e rest → Opens (steps_text s c v due) (step_text s c v d e) (steps_text s c (onward s c v d e) rest)
  unfolding steps_text
  steps_open n = record { is = rw n.is }

  -- they lead to the same vertex
  pub after_next : {due rest : List ℕ} {d e : ℕ} → Next s due d e rest → after s c v due ≡ after s c (onward s c v d e) rest
  unfolding after
  after_next n = rw n.is

  -- no step is left
  pub steps_end : (due : List ℕ) → length due < 2 → steps_text s c v due ≡ []
  unfolding steps_text
  steps_end [] h = refl
  steps_end (d ∷ []) h = refl
  steps_end (d ∷ e ∷ due) h = absurd (omega arith)

  pub after_end : (due : List ℕ) → length due < 2 → after s c v due ≡ v
  unfolding after
  after_end [] h = refl
  after_end (d ∷ []) h = refl
  after_end (d ∷ e ∷ due) h = absurd (omega arith)
