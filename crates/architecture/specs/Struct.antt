-- What the structs of an architecture and of its processes stand for in the model, and what is asked of them. These are definitions.
use Rattle.std.specs.Prelude.{◌≡◌, List, [], ◌∷◌, ◌++◌, ℕ, zero, suc, ◌+◌, ◌<◌, ◌≤◌, length, get_or}
use Rattle.model.specs.Sheet as model
use Rattle.model.specs.Sheet.{ProperArchitecture}
use Rattle.model.specs.Compose.{process_length}
use Rattle.architecture.specs.declared.TheConstants.{NO_PROCESS, NO_TIE}
use Rattle.architecture.specs.declared.Process.{Process}
use Rattle.architecture.specs.declared.Tie.{Tie}
use Rattle.architecture.specs.declared.Architecture.{Architecture}

-- the process of the struct
abbrev pub process_of : Process → model.Process
process_of p = record { inputs = p.inputs; outputs = p.outputs; bound = p.bound; prompts = p.prompts; prompted = p.prompted }

-- f 0, f 1, .., n of them
unfoldable pub processes_of : ℕ → (ℕ → model.Process) → List model.Process
processes_of zero f = []
processes_of (suc n) f = processes_of n f ++ (f n ∷ [])

-- process i of an architecture
abbrev pub process_in : Architecture → ℕ → model.Process
process_in a i = process_of (get_or a.process_list i NO_PROCESS)

-- the first n processes
abbrev pub first_in : Architecture → ℕ → List model.Process
first_in a n = processes_of n (process_in a)

-- all processes
abbrev pub processes_in : Architecture → List model.Process
processes_in a = first_in a a.processes

-- entry k of the array, as a tie
abbrev pub tie_of : List Tie → ℕ → model.Tie
tie_of ts k = let t = get_or ts k NO_TIE in record { left = t.left; right = t.right }

-- the first n entries, as ties
unfoldable pub ties_of : ℕ → List Tie → List model.Tie
ties_of zero ts = []
ties_of (suc n) ts = ties_of n ts ++ (tie_of ts n ∷ [])

-- tie k of an architecture
abbrev pub tie_in : Architecture → ℕ → model.Tie
tie_in a = tie_of a.tie_list

-- all ties
abbrev pub ties_in : Architecture → List model.Tie
ties_in a = ties_of a.ties a.tie_list

-- the architecture of the struct
unfoldable pub architecture_of : Architecture → model.Architecture
unfolding processes_of ties_of
architecture_of a = record { variables = a.variables; environment = a.environment; root = a.root; processes = processes_in a; ties = ties_in a }

-- the struct's arrays are whole, its counts are at most their lengths, and the processes from prompt_end on have no prompt inputs
pub record Arrays (a : Architecture) : Type 0 where
  pub few_processes : a.processes ≤ 4
  pub processes_long : length a.process_list ≡ 4
  pub prompts_ended : (k : ℕ) → a.prompt_end ≤ k → k < a.processes → (process_in a k).prompts ≡ 0
  pub few_ties : a.ties ≤ 3
  pub ties_long : length a.tie_list ≡ 3

-- the struct holds a proper architecture
pub record IsProper (a : Architecture) : Type 0 where
  pub arrays : Arrays a
  pub proper : ProperArchitecture (architecture_of a)

-- how many entries these processes have
unfoldable pub entries_of : List model.Process → ℕ
unfolding process_length
entries_of [] = 0
entries_of (p ∷ ps) = process_length p + entries_of ps
