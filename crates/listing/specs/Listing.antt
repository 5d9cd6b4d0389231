-- What the showing program prints for a sheet, as bytes: a line for each record, and the counts.
use Rattle.std.specs.Prelude.{List, [], ◌∷◌, ◌++◌, ℕ, suc, ◌+◌, ◌-◌, ◌^◌, eqb, length}
use Rattle.theory.specs.Lists.{put}
use Rattle.model.specs.Ascii.{ascii}
use Rattle.model.specs.Mask.{if, count}
use Rattle.model.specs.Sheet.{Process, Tie, Architecture, Sheet}
use Rattle.model.specs.Compose.{T}
use Rattle.model.specs.Choice.{Entry, output, next, rows, entries}
use Rattle.ties.specs.Leaders.{leaders}
use Rattle.template.specs.Template.{filled}
use Rattle.text.specs.Rows.{each_process, edges_text}

-- ---- the records
-- AR, with these variables, environment variables and root mask: the environment variables are the lowest numbered
abbrev pub front_text : ℕ → ℕ → ℕ → List ℕ
front_text variables environment root = filled (ascii "variables #\nenvironment @\nroot @\n") (variables ∷ (2 ^ environment - 1) ∷ root ∷ [])

-- PR: process i
abbrev pub pr_text : ℕ → Process → List ℕ
pr_text i p = filled (ascii "process # reads @ sets @ states #\n") (i ∷ p.inputs ∷ p.outputs ∷ p.bound ∷ [])

-- PM: process i, with its prompt inputs
abbrev pub pm_text : ℕ → Process → List ℕ
pm_text i p = filled (ascii "process # reads @ prompt @ sets @ states #\n") (i ∷ p.inputs ∷ p.prompts ∷ p.outputs ∷ p.bound ∷ [])

-- either
unfoldable pub process_text : ℕ → Process → List ℕ
unfolding if
process_text i p = if p.prompted (pm_text i p) (pr_text i p)

-- every PR and PM
abbrev pub processes_text : List Process → List ℕ
processes_text ps = each_process (λ i p at. process_text i p) 0 ps 0

-- SY
abbrev pub tie_text : Tie → List ℕ
tie_text t = filled (ascii "tie # #\n") (t.left ∷ t.right ∷ [])

-- every SY
unfoldable pub ties_text : List Tie → List ℕ
ties_text [] = []
ties_text (t ∷ ts) = tie_text t ++ ties_text ts

-- AU, with these automaton states, initial state and rejecting mask
abbrev pub states_text : ℕ → ℕ → ℕ → List ℕ
states_text states initial rejecting = filled (ascii "automaton states # initial # rejecting $\n") (states ∷ initial ∷ rejecting ∷ [])

-- every ED by this template
abbrev pub ed_line : List ℕ
ed_line = ascii "edge # to # on @ off @\n"

-- and every EX by this one
abbrev pub ex_line : List ℕ
ex_line = ascii "edge # to # unless on @ off @\n"

-- ---- the counts
-- an entry may have 2 ^ twos times 3 ^ threes values: the exponent of 2
unfoldable pub twos : Entry → ℕ
twos (output m) = count m
twos (next b) = if (eqb b 2) 1 (if (eqb b 4) 2 0)

-- and the exponent of 3
unfoldable pub threes : Entry → ℕ
threes (output m) = 0
threes (next b) = if (eqb b 3) 1 0

-- the exponents of all entries together: the numbers of their values are multiplied
unfoldable pub total : (Entry → ℕ) → List Entry → ℕ
total exponent [] = 0
total exponent (e ∷ es) = exponent e + total exponent es

-- of these, numbered from i on, with these leaders: those that lead themselves
unfoldable pub leading : {A : Type 0} → List ℕ → ℕ → List A → List A
leading [] i xs = []
leading (l ∷ ls) i [] = []
leading (l ∷ ls) i (x ∷ xs) = put (eqb l i) x (leading ls (suc i) xs)

-- tied processes once: they share one table, that of their leader
abbrev pub once : Architecture → List Process
once a = leading (leaders (length a.processes) a.ties) 0 a.processes

-- the composed states, the entries of a choice, and the choices: proofs/ChoicesCounted shows that there are so many
abbrev pub counts_text : Architecture → List ℕ
counts_text a =
    filled (ascii "composed #\nentries #\nchoices 2^# 3^#\n") (T a ∷ length (entries a) ∷ total twos (rows (once a)) ∷ total threes (rows (once a)) ∷ [])

-- ---- the text
unfoldable pub show_text : Sheet → List ℕ
show_text s =
    let a = s.architecture in
    let u = s.automaton in
    front_text a.variables a.environment a.root
    ++ processes_text a.processes
    ++ ties_text a.ties
    ++ states_text u.states u.initial u.rejecting
    ++ edges_text ed_line ex_line u.edges
    ++ counts_text a
