-- Runs that break a sheet, where the bench cases know only the verdict: one that is forced, step by step, and steps and lassos that are none.
use Rattle.std.specs.Prelude.{◌≡◌, true, false, List, [], ◌∷◌, ℕ}
use Rattle.model.specs.Sheet.{Architecture, Edge, Sheet}
use Rattle.model.specs.SheetFile.{sheet_bytes}
use Rattle.model.specs.RunGraph.{Taken, Takes, IsLasso}
use Rattle.model.specs.Calls.{annotate_of, AfterPath, path_left, AnnotatePath}
use Rattle.model.specs.Numbers.{verdict_code}
use Rattle.model.specs.BenchCases.{sheet_e, edge, book_e}
use Rattle.starred.specs.Table.{buffer}
use Rattle.starred.specs.Examples.{plain}

-- one environment variable, 0 at the start, and a process with nothing to read or set
abbrev pub lone : Architecture
lone = record { variables = 1; environment = 1; root = 0; processes = plain 0x00 0x00 1 ∷ []; ties = [] }

-- an edge from q to r that asks for variable 0
abbrev pub asks : (q r : ℕ) → Edge
asks q r = record { from = q; to = r; on = 0x01; off = 0x00; unless = false }

-- out of 0 unless the variable is 1, then where it is 1, and round in the rejecting state 2 while it is 0
abbrev pub forced : Sheet
forced = record {
  architecture = lone;
  automaton = record {
    states = 3;
    initial = 0;
    rejecting = 4;
    edges =
        asks 0 1
        ∷ record { from = 0; to = 1; on = 0x01; off = 0x00; unless = true }
        ∷ asks 1 2
        ∷ record { from = 2; to = 2; on = 0x00; off = 0x01; unless = false }
        ∷ [];
  };
}

-- F with an environment variable, and these rejecting states
abbrev pub turning : ℕ → Sheet
turning rejecting = record {
  architecture = record { variables = 1; environment = 1; root = 1; processes = plain 0x00 0x00 1 ∷ []; ties = [] };
  automaton = record { states = 1; initial = 0; rejecting = rejecting; edges = record { from = 0; to = 0; on = 0x00; off = 0x00; unless = false } ∷ [] };
}

-- a step
abbrev pub by : (direction edge : ℕ) → Taken
by d e = record { direction = d; edge = e }

-- the tables of a process with nothing to choose
abbrev pub still : List ℕ
still = 0x00 ∷ 0 ∷ []

-- so many steps, and the path then
abbrev pub after : (stem cycle : ℕ) → List ℕ → AfterPath
after stem cycle path = record { stem = stem; cycle = cycle; path = path }

pub record RunsPinned : Type 0 where
  -- the only run: edge 1, an EX, met by the label before the step; direction 1, so that edge 2 is met; then direction 0, and round
  pub forced_run : AnnotatePath (sheet_bytes forced) book_e (buffer 6) (buffer 25) (after 2 1 (1 ∷ 1 ∷ 0 ∷ 2 ∷ 0 ∷ 3 ∷ buffer 19))
  -- a run with no stem; its rest is left
  pub no_stem : AnnotatePath (sheet_bytes (turning 1)) book_e (buffer 2) (buffer 8) (after 0 1 (1 ∷ 0 ∷ buffer 6))
  -- without a loop, and where the call is refused, the path is left
  pub no_loop : AnnotatePath (sheet_e 1 2 1 (edge 0 1)) book_e (buffer 2) (buffer 8) (path_left (buffer 8))
  pub refused : AnnotatePath (sheet_bytes (turning 1)) book_e (buffer 2) (buffer 7) (path_left (buffer 7))
  -- 13: fewer than four bytes for each vertex, also where there is no loop; after 11 and before 9
  pub path_is_short : verdict_code (annotate_of (sheet_bytes (turning 1)) book_e (buffer 2) (buffer 7)).answer ≡ 13
  pub path_long : verdict_code (annotate_of (sheet_bytes (turning 1)) book_e (buffer 2) (buffer 8)).answer ≡ 256
  pub short_without_loop : verdict_code (annotate_of (sheet_e 1 2 1 (edge 0 1)) book_e (buffer 2) (buffer 7)).answer ≡ 13
  pub path_before_annotation : verdict_code (annotate_of (sheet_e 1 2 1 (edge 0 1)) book_e [] (buffer 7)).answer ≡ 13
  pub annotation_behind_path : verdict_code (annotate_of (sheet_e 1 2 1 (edge 0 1)) book_e [] (buffer 8)).answer ≡ 9
  -- no step: along an edge that is not met, that leaves another state, or that there is not; by an impossible direction
  pub edge_not_met : (w : ℕ) → ¬ Takes forced still 0 (by 1 0) w
  pub edge_elsewhere : (w : ℕ) → ¬ Takes forced still 1 (by 1 2) w
  pub no_such_edge : (w : ℕ) → ¬ Takes forced still 0 (by 1 4) w
  pub impossible : (w : ℕ) → ¬ Takes forced still 0 (by 2 1) w
  -- a lasso may go round twice, and have twice as many steps as vertices
  pub as_long_as_may_be : IsLasso (turning 1) still (by 1 0 ∷ by 1 0 ∷ []) (by 1 0 ∷ by 1 0 ∷ [])
  -- no lasso: one that does not turn, one through a vertex that does not reject, one of more than twice as many steps as vertices
  pub no_turn : ¬ IsLasso (turning 1) still [] []
  pub not_rejecting : (ks : List Taken) → ¬ IsLasso (turning 0) still [] ks
  pub too_long : ¬ IsLasso (turning 1) still (by 1 0 ∷ by 1 0 ∷ []) (by 1 0 ∷ by 1 0 ∷ by 1 0 ∷ [])
