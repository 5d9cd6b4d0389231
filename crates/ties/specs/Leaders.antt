-- Leaders: of each process the lowest that it is tied to, by chains too, and of each entry the one at the same place of the leader's table. These are definitions.
use Rattle.std.specs.Prelude.{◌≡◌, List, [], ◌∷◌, ◌++◌, map, ℕ, ◌<◌, min, max, eqb, length, get_or}
use Rattle.theory.specs.Lists.{from}
use Rattle.model.specs.Mask.{if}
use Rattle.model.specs.Sheet.{Process, Tie, Architecture}
use Rattle.model.specs.Compose.{process_length}
use Rattle.model.specs.Choice.{entries, begins, packed_at}

-- in place of `old`, `new`
unfoldable pub instead : ℕ → ℕ → ℕ → ℕ
unfolding if
instead old new x = if (eqb x old) new x

-- at a tie every process of the higher leader takes the lower
unfoldable pub join : List ℕ → Tie → List ℕ
unfolding instead
join ls t =
    let a = get_or ls t.left 0 in
    let b = get_or ls t.right 0 in
    map (instead (max a b) (min a b)) ls

-- one tie after the other
unfoldable pub join_all : List ℕ → List Tie → List ℕ
unfolding join
join_all ls [] = ls
join_all ls (t ∷ ts) = join_all (join ls t) ts

-- the leaders of n processes: at first each its own
unfoldable pub leaders : ℕ → List Tie → List ℕ
unfolding join_all from
leaders n ts = join_all (from n 0) ts

-- the leaders of the entries of `qs`, whose own leaders are `ls`, among the processes `ps`
unfoldable pub entry_leaders_of : List Process → List Process → List ℕ → List ℕ
unfolding from process_length begins
entry_leaders_of ps [] ls = []
entry_leaders_of ps (q ∷ qs) [] = []
entry_leaders_of ps (q ∷ qs) (l ∷ ls) = from (process_length q) (begins ps l) ++ entry_leaders_of ps qs ls

-- the leaders of the entries of a choice
unfoldable pub entry_leaders : Architecture → List ℕ
unfolding entry_leaders_of leaders
entry_leaders a = entry_leaders_of a.processes a.processes (leaders (length a.processes) a.ties)

-- each entry has the packed value of its leader
abbrev pub AsLeaders : Architecture → List ℕ → Type 0
AsLeaders a c = (k : ℕ) → k < length (entries a) → packed_at a c k ≡ packed_at a c (get_or (entry_leaders a) k 0)
