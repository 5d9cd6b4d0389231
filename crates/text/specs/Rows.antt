-- Texts of numbers, of processes and the rows of their tables, and of edges, one behind another. These are definitions.
use Rattle.std.specs.Prelude.{List, [], ◌∷◌, ◌++◌, ℕ, zero, suc, ◌+◌}
use Rattle.model.specs.Mask.{if}
use Rattle.model.specs.Sheet.{Process, Edge}
use Rattle.model.specs.Compose.{process_length}
-- the row of state x, where the entries of its process p begin at `at`
pub use Rattle.model.specs.Information.{row_of}
use Rattle.template.specs.Template.{filled}

-- n numbers from x on, where `one` has the text of a number
unfoldable pub each_from : (ℕ → List ℕ) → ℕ → ℕ → List ℕ
each_from one zero x = []
each_from one (suc n) x = one x ++ each_from one n (suc x)

-- the rows of p, where `one` has the text of a state's row
abbrev pub each_row : (ℕ → List ℕ → List ℕ) → Process → ℕ → List ℕ → List ℕ
each_row one p at c = each_from (λ x. one x (row_of p at c x)) p.bound 0

-- processes from number i on, where `one` has the text of a process whose entries begin at a place, and those of the first begin at `at`
unfoldable pub each_process : (ℕ → Process → ℕ → List ℕ) → ℕ → List Process → ℕ → List ℕ
each_process one i [] at = []
each_process one i (p ∷ ps) at = one i p at ++ each_process one (suc i) ps (at + process_length p)

-- the states and the masks of an edge fill the template
abbrev pub fields_text : List ℕ → Edge → List ℕ
fields_text template e = filled template (e.from ∷ e.to ∷ e.on ∷ e.off ∷ [])

-- an edge, by the template of its kind
unfoldable pub edge_text : List ℕ → List ℕ → Edge → List ℕ
unfolding if
edge_text ed ex e = fields_text (if e.unless ex ed) e

-- edges, each by the template of its kind
unfoldable pub edges_text : List ℕ → List ℕ → List Edge → List ℕ
unfolding edge_text
edges_text ed ex [] = []
edges_text ed ex (e ∷ es) = edge_text ed ex e ++ edges_text ed ex es
