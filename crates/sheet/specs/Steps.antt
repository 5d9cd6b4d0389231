-- What the steps of the reader read: a record at i of the bytes b, or the records from i on, behind those that were read before.
use Rattle.std.specs.Prelude.{List, [], ◌++◌, ℕ, ◌+◌, ◌*◌}
use Rattle.model.specs.declared.Refusal.TheVariants.{SheetTooShort, BadAutomaton, BadEdge}
use Rattle.model.specs.Sheet.{Architecture, Edge, Automaton, with_process, with_tie}
use Rattle.model.specs.Reading.{Reading, proper, refuse◌when◌else◌, ◌then◌, byte, short, au_fault, ed_fault, process_at, process_size, tie_at, edge_at, Front, read_process, read_tie, read_edges}

-- one PR or PM behind those of a
unfoldable pub process_from : Architecture → List ℕ → ℕ → Reading Front
unfolding read_process process_size with_process
process_from a b i = read_process a b i (proper record { architecture = with_process a (process_at b i); end = i + process_size b i })

-- one SY behind those of a
unfoldable pub tie_from : Architecture → List ℕ → ℕ → Reading Front
unfolding read_tie with_tie
tie_from a b i = read_tie a b i (proper record { architecture = with_tie a (tie_at b i); end = i + 4 })

-- one ED or EX
unfoldable pub edge_tested : ℕ → ℕ → List ℕ → ℕ → Reading Edge
unfolding refuse◌when◌else◌ short ed_fault
edge_tested variables states b i =
    refuse SheetTooShort when short b i 6 else
    refuse BadEdge when ed_fault variables states (edge_at b i) else
    proper (edge_at b i)

-- u with these edges more
unfoldable pub with_edges : Automaton → List Edge → Automaton
with_edges u es = record { states = u.states; initial = u.initial; rejecting = u.rejecting; edges = u.edges ++ es }

-- the edges that are read go behind those of u
unfoldable pub behind : Automaton → Reading (List Edge) → Reading Automaton
unfolding ◌then◌ with_edges
behind u m = m then λ es. proper (with_edges u es)

-- at most k more ED and EX, then EN
unfoldable pub edges_from : ℕ → ℕ → Automaton → List ℕ → ℕ → Reading Automaton
unfolding behind read_edges
edges_from k variables u b i = behind u (read_edges variables u.states k b i)

-- the fields of the AU at i, the edges and EN
unfoldable pub states_from : ℕ → List ℕ → ℕ → Reading Automaton
unfolding refuse◌when◌else◌ au_fault edges_from
states_from variables b i =
    let states = byte b (i + 2) in
    let initial = byte b (i + 3) in
    let rejecting = byte b (i + 4) + 256 * byte b (i + 5) in
    refuse BadAutomaton when au_fault states initial rejecting else
    edges_from 64 variables record { states = states; initial = initial; rejecting = rejecting; edges = [] } b (i + 6)
