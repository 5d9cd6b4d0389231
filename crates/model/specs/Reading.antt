-- 01, "The sheet file" and "Who causes which refusal", 1 to 7, 15 and 21: how a sheet is read, to the first fault in file order.
use Rattle.std.specs.Prelude.{Bool, true, false, ◌&&◌, ◌||◌, not, List, [], ◌∷◌, ℕ, zero, suc, ◌+◌, ◌-◌, ◌*◌, ◌^◌, eqb, ltb, leb, get_or, length}
use Rattle.model.specs.declared.Refusal.{Refusal}
use Rattle.model.specs.declared.Refusal.TheVariants.{SheetTooShort, WrongMark, BadArchitecture, BadProcess, NoOwnerOrTooMany, BadAutomaton, BadEdge, BadTie, BadPrompt}
use Rattle.theory.specs.Lists.{all, from}
use Rattle.model.specs.Mask.{if, within, share, beyond, count, pack}
use Rattle.model.specs.Sheet.{Process, Tie, Architecture, Edge, Automaton, Sheet, with_process, with_tie, process_no, outputs_of, owned, composed_states}

-- what is read, or the refusal of the first fault
pub data Reading (A : Type 0) : Type 0 where
  refused : Refusal → Reading A
  proper : A → Reading A

infixr 20 refuse◌when◌else◌
infixr 20 ◌then◌
-- the refusal where the test passes, and otherwise what follows
unfoldable pub refuse◌when◌else◌ : {A : Type 0} → Refusal → Bool → Reading A → Reading A
refuse◌when◌else◌ r true a = refused r
refuse◌when◌else◌ r false a = a

-- what is read goes on to f; a refusal stays
unfoldable pub ◌then◌ : {A B : Type 0} → Reading A → (A → Reading B) → Reading B
◌then◌ (refused r) f = refused r
◌then◌ (proper a) f = f a

-- ---- bytes and marks
-- the byte at i
abbrev pub byte : List ℕ → ℕ → ℕ
byte b i = get_or b i 0

-- 1: fewer than n bytes are left at i
unfoldable pub short : List ℕ → ℕ → ℕ → Bool
short b i n = ltb (length b) (i + n)

-- each record opens with a two-byte mark: the architecture
abbrev pub AR : List ℕ
AR = 0x41 ∷ 0x52 ∷ []

-- a process
abbrev pub PR : List ℕ
PR = 0x50 ∷ 0x52 ∷ []

-- a process with prompt inputs
abbrev pub PM : List ℕ
PM = 0x50 ∷ 0x4D ∷ []

-- a tie
abbrev pub SY : List ℕ
SY = 0x53 ∷ 0x59 ∷ []

-- the automaton
abbrev pub AU : List ℕ
AU = 0x41 ∷ 0x55 ∷ []

-- an edge
abbrev pub ED : List ℕ
ED = 0x45 ∷ 0x44 ∷ []

-- an edge that says unless
abbrev pub EX : List ℕ
EX = 0x45 ∷ 0x58 ∷ []

-- the end
abbrev pub EN : List ℕ
EN = 0x45 ∷ 0x4E ∷ []

-- a whole mark stands at i, and is m
unfoldable pub marked : List ℕ → ℕ → List ℕ → Bool
unfolding short
marked b i m = not (short b i 2) && eqb (byte b i) (byte m 0) && eqb (byte b (i + 1)) (byte m 1)

-- the mark of a process of either kind stands at i
unfoldable pub process_marked : List ℕ → ℕ → Bool
unfolding marked
process_marked b i = marked b i PR || marked b i PM

-- the mark of a tie stands at i, where one may: behind one process or more
unfoldable pub tie_marked : Architecture → List ℕ → ℕ → Bool
unfolding marked
tie_marked a b i = marked b i SY && not (eqb (length a.processes) 0)

-- the mark of an edge of either kind stands at i
unfoldable pub edge_marked : List ℕ → ℕ → Bool
unfolding marked
edge_marked b i = marked b i ED || marked b i EX

-- ---- what is wrong with the fields of a record
-- 3: more than 8 variables, more than 4 of the environment or more than all, a root bit that is not the environment's
unfoldable pub ar_fault : Architecture → Bool
unfolding beyond
ar_fault a = ltb 8 a.variables || ltb 4 a.environment || ltb a.variables a.environment || beyond a.root a.environment

-- some output of p is an output of one of these processes
unfoldable pub taken : List Process → Process → Bool
unfolding share
taken [] p = false
taken (q ∷ qs) p = share p.outputs q.outputs || taken qs p

-- a field of a PR or PM, its prompt inputs aside, outside the rules: a bit at or above the variables, an environment variable as output, more than 4 inputs, its own output as input, or a bound outside 1 to 4
unfoldable pub field_fault : ℕ → ℕ → Process → Bool
unfolding beyond share count
field_fault variables environment p =
    beyond p.inputs variables || beyond p.outputs variables || share p.outputs (2 ^ environment - 1) || ltb 4 (count p.inputs) || share p.inputs p.outputs
    || eqb p.bound 0 || ltb 4 p.bound

-- 4: of a PR or PM behind those of a, a field outside the rules, or an output already taken
unfoldable pub pr_fault : Architecture → Process → Bool
unfolding field_fault taken
pr_fault a p = field_fault a.variables a.environment p || taken a.processes p

-- 21: of a PM behind these processes, a prompt bit that is no input, or no output of one of them
unfoldable pub prompt_fault : List Process → Process → Bool
unfolding within outputs_of
prompt_fault ps p = not (within p.prompts p.inputs) || not (within p.prompts (outputs_of ps))

-- two processes that cannot share a table: unequal bounds, counts of inputs or of outputs, or places of prompt inputs
unfoldable pub unlike : Process → Process → Bool
unfolding count pack
unlike p q =
    not (eqb p.bound q.bound) || not (eqb (count p.inputs) (count q.inputs)) || not (eqb (count p.outputs) (count q.outputs))
    || not (eqb (pack p.inputs p.prompts) (pack q.inputs q.prompts))

-- 15: a process that there is not, one and the same process, or two that cannot share a table
unfoldable pub tie_fault : List Process → Tie → Bool
unfolding unlike
tie_fault ps t = leb (length ps) t.left || leb (length ps) t.right || eqb t.left t.right || unlike (process_no ps t.left) (process_no ps t.right)

-- 5: a variable without an owner, or T above 256
unfoldable pub all_fault : Architecture → Bool
unfolding all owned from composed_states
all_fault a = not (all (owned a.processes) (from (a.variables - a.environment) a.environment)) || ltb 256 (composed_states a.environment a.processes)

-- 6: no automaton state or more than 16; an initial state, or a rejecting one, that there is not
unfoldable pub au_fault : ℕ → ℕ → ℕ → Bool
unfolding beyond
au_fault states initial rejecting = eqb states 0 || ltb 16 states || leb states initial || beyond rejecting states

-- 7: an end that is no automaton state, a mask beyond the variables, or a bit in both masks
unfoldable pub ed_fault : ℕ → ℕ → Edge → Bool
unfolding beyond share
ed_fault variables states e = leb states e.from || leb states e.to || beyond e.on variables || beyond e.off variables || share e.on e.off

-- ---- the front: AR, the PR and PM records and the SY records
-- the fields of the AR at the start, with no process and no tie yet
abbrev pub architecture_at : List ℕ → Architecture
architecture_at b = record { variables = byte b 2; environment = byte b 3; root = byte b 4; processes = []; ties = [] }

-- the prompt mask of the PM at i; a PR has none
unfoldable pub prompts_at : List ℕ → ℕ → ℕ
unfolding if marked
prompts_at b i = if (marked b i PM) (byte b (i + 5)) 0

-- the fields of the PR or PM at i, and its kind
abbrev pub process_at : List ℕ → ℕ → Process
process_at b i = record { inputs = byte b (i + 2); outputs = byte b (i + 3); bound = byte b (i + 4); prompts = prompts_at b i; prompted = marked b i PM }

-- how many bytes it has
unfoldable pub process_size : List ℕ → ℕ → ℕ
unfolding if marked
process_size b i = if (marked b i PM) 6 5

-- the fields of the SY at i
abbrev pub tie_at : List ℕ → ℕ → Tie
tie_at b i = record { left = byte b (i + 2); right = byte b (i + 3) }

-- an architecture, and where the record behind it begins
pub record Front : Type 0 where
  pub architecture : Architecture
  pub end : ℕ

-- one PR or PM behind those of a, and then the rest
unfoldable pub read_process : Architecture → List ℕ → ℕ → Reading Front → Reading Front
unfolding refuse◌when◌else◌ short process_size prompts_at pr_fault prompt_fault
read_process a b i rest =
    refuse SheetTooShort when short b i (process_size b i) else
    refuse BadProcess when pr_fault a (process_at b i) else
    refuse BadPrompt when prompt_fault a.processes (process_at b i) else
    rest

-- at most k more PR and PM behind those of a
unfoldable pub read_processes : ℕ → Architecture → List ℕ → ℕ → Reading Front
unfolding if process_marked process_size prompts_at with_process read_process
read_processes zero a b i = proper record { architecture = a; end = i }
read_processes (suc k) a b i =
    let rest = read_processes k (with_process a (process_at b i)) b (i + process_size b i) in
    if (process_marked b i) (read_process a b i rest) (proper record { architecture = a; end = i })

-- one SY behind those of a, and then the rest
unfoldable pub read_tie : Architecture → List ℕ → ℕ → Reading Front → Reading Front
unfolding refuse◌when◌else◌ short tie_fault
read_tie a b i rest =
    refuse SheetTooShort when short b i 4 else
    refuse BadTie when tie_fault a.processes (tie_at b i) else
    rest

-- at most k more SY behind those of a
unfoldable pub read_ties : ℕ → Architecture → List ℕ → ℕ → Reading Front
unfolding if tie_marked with_tie read_tie
read_ties zero a b i = proper record { architecture = a; end = i }
read_ties (suc k) a b i =
    let rest = read_ties k (with_tie a (tie_at b i)) b (i + 4) in
    if (tie_marked a b i) (read_tie a b i rest) (proper record { architecture = a; end = i })

-- AR, then the processes, then the ties
unfoldable pub read_front : List ℕ → Reading Front
unfolding refuse◌when◌else◌ ◌then◌ short marked ar_fault read_processes read_ties
read_front b =
    refuse SheetTooShort when short b 0 2 else
    refuse WrongMark when not (marked b 0 AR) else
    refuse SheetTooShort when short b 0 5 else
    refuse BadArchitecture when ar_fault (architecture_at b) else
    read_processes 4 (architecture_at b) b 5 then λ f.
    read_ties 3 f.architecture b f.end

-- ---- behind the front: AU, the ED and EX records and EN
-- the fields of the ED or EX at i, and its kind
abbrev pub edge_at : List ℕ → ℕ → Edge
edge_at b i = record { from = byte b (i + 2); to = byte b (i + 3); on = byte b (i + 4); off = byte b (i + 5); unless = marked b i EX }

-- EN, the last, with no byte after it
unfoldable pub read_end : List ℕ → ℕ → Reading (List Edge)
unfolding refuse◌when◌else◌ short marked
read_end b i =
    refuse SheetTooShort when short b i 2 else
    refuse WrongMark when not (marked b i EN) else
    refuse WrongMark when ltb (i + 2) (length b) else
    proper []

-- one ED or EX, and then the rest
unfoldable pub read_edge : ℕ → ℕ → List ℕ → ℕ → Reading (List Edge) → Reading (List Edge)
unfolding refuse◌when◌else◌ ◌then◌ short ed_fault
read_edge variables states b i rest =
    refuse SheetTooShort when short b i 6 else
    refuse BadEdge when ed_fault variables states (edge_at b i) else
    rest then λ es. proper (edge_at b i ∷ es)

-- at most k more ED and EX, then EN
unfoldable pub read_edges : ℕ → ℕ → ℕ → List ℕ → ℕ → Reading (List Edge)
unfolding if edge_marked read_edge read_end
read_edges variables states zero b i = read_end b i
read_edges variables states (suc k) b i =
    let rest = read_edges variables states k b (i + 6) in
    if (edge_marked b i) (read_edge variables states b i rest) (read_end b i)

-- AU, behind one process or more, then the edges; at AU, 5 before 6
unfoldable pub read_automaton : Architecture → List ℕ → ℕ → Reading Automaton
unfolding refuse◌when◌else◌ ◌then◌ short marked all_fault au_fault read_edges
read_automaton a b i =
    let states = byte b (i + 2) in
    let initial = byte b (i + 3) in
    let rejecting = byte b (i + 4) + 256 * byte b (i + 5) in
    refuse SheetTooShort when short b i 2 else
    refuse WrongMark when not (marked b i AU) || eqb (length a.processes) 0 else
    refuse SheetTooShort when short b i 6 else
    refuse NoOwnerOrTooMany when all_fault a else
    refuse BadAutomaton when au_fault states initial rejecting else
    read_edges a.variables states 64 b (i + 6) then λ es.
    proper record { states = states; initial = initial; rejecting = rejecting; edges = es }

-- ---- the sheet: the front, and what is behind it
unfoldable pub read_sheet : List ℕ → Reading Sheet
unfolding ◌then◌ read_front read_automaton
read_sheet b =
    read_front b then λ f.
    read_automaton f.architecture b f.end then λ u.
    proper record { architecture = f.architecture; automaton = u }
