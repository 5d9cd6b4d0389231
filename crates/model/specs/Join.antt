-- 01, "Two sheets as one": the automata of two sheets with the same machines, joined behind a new start, and the refusals 19 and 20.
use Rattle.std.specs.Prelude.{Bool, ◌||◌, not, List, ◌++◌, map, ℕ, ◌+◌, ◌*◌, ◌^◌, eqb, ltb, length}
use Rattle.model.specs.declared.Refusal.TheVariants.{FrontsDiffer, JoinTooLarge}
use Rattle.theory.specs.Lists.{filter, same}
use Rattle.model.specs.Sheet.{Architecture, Edge, Automaton, Sheet}
use Rattle.model.specs.Reading.{Reading, proper, refuse◌when◌else◌, ◌then◌, read_sheet}
use Rattle.model.specs.SheetFile.{front_bytes, sheet_bytes}

-- ---- edges of an automaton whose states stand k further on
-- the edge itself: kind and masks stay
unfoldable pub moved : ℕ → Edge → Edge
moved k e = record { from = k + e.from; to = k + e.to; on = e.on; off = e.off; unless = e.unless }

-- its copy at the new start: all but the state that it leaves is as in the edge itself
unfoldable pub copied : ℕ → Edge → Edge
copied k e = record { from = 0; to = k + e.to; on = e.on; off = e.off; unless = e.unless }

-- the edges that leave q, in file order
unfoldable pub leaving : ℕ → List Edge → List Edge
unfolding filter
leaving q es = filter (λ e. eqb e.from q) es

-- the copies of those of these edges that leave q
unfoldable pub copies : ℕ → ℕ → List Edge → List Edge
unfolding copied leaving
copies k q es = map (copied k) (leaving q es)

-- ---- two automata as one
-- a new initial state 0, which does not reject, then the states of the first, then those of the second; copies first, then all edges
unfoldable pub join_automata : Automaton → Automaton → Automaton
unfolding copies moved
join_automata u w =
    let k = 1 + u.states in
    record {
      states = k + w.states;
      initial = 0;
      rejecting = w.rejecting * 2 ^ k + u.rejecting * 2;
      edges = copies 1 u.initial u.edges ++ copies k w.initial w.edges ++ map (moved 1) u.edges ++ map (moved k) w.edges;
    }

-- two sheets as one, with the architecture of the first
unfoldable pub join_sheets : Sheet → Sheet → Sheet
unfolding join_automata
join_sheets s t = record { architecture = s.architecture; automaton = join_automata s.automaton t.automaton }

-- ---- what cannot be joined
-- 19: the records before AU, as they are written, differ in some byte
unfoldable pub fronts_differ : Architecture → Architecture → Bool
unfolding same front_bytes
fronts_differ a b = not (same (front_bytes a) (front_bytes b))

-- 20: more than 16 states, or more than 64 edges, copies counted
unfoldable pub is_too_large : Automaton → Bool
is_too_large u = ltb 16 u.states || ltb 64 (length u.edges)

-- two sheets that were read: 19, 20, or the writing of both as one
unfoldable pub join_for : Sheet → Sheet → Reading (List ℕ)
unfolding refuse◌when◌else◌ fronts_differ is_too_large join_automata sheet_bytes join_sheets
join_for s t =
    refuse FrontsDiffer when fronts_differ s.architecture t.architecture else
    refuse JoinTooLarge when is_too_large (join_automata s.automaton t.automaton) else
    proper (sheet_bytes (join_sheets s t))

-- the first sheet's faults, then the second's, then those of both
unfoldable pub join_bytes : (first second : List ℕ) → Reading (List ℕ)
unfolding ◌then◌ read_sheet join_for
join_bytes first second =
    read_sheet first then λ s.
    read_sheet second then λ t.
    join_for s t
