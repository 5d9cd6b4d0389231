-- A group is all entries with one leader. These are definitions.
use Rattle.std.specs.Prelude.{◌≡◌, List, [], ◌∷◌, ℕ, suc, ◌≤◌, ◌<◌, eqb, length, get_or, take}
use Rattle.model.specs.Mask.{if}

-- from place k on, along the leaders: f wherever the leader is l
unfoldable pub set_group_from : (ℕ → ℕ) → List ℕ → ℕ → ℕ → List ℕ → List ℕ
unfolding if
set_group_from f [] l k xs = xs
set_group_from f (m ∷ ms) l k [] = []
set_group_from f (m ∷ ms) l k (x ∷ xs) = if (eqb m l) (f k) x ∷ set_group_from f ms l (suc k) xs

-- f at all places whose leader is l; what follows the leaders stays
unfoldable pub set_group : (ℕ → ℕ) → List ℕ → ℕ → List ℕ → List ℕ
unfolding set_group_from
set_group f leaders l xs = set_group_from f leaders l 0 xs

-- an entry is open, its mark not 0, exactly when its leader is
abbrev pub Follows : (leaders unset : List ℕ) → Type 0
Follows leaders unset = (k : ℕ) → k < length leaders → get_or unset k 0 ≡ get_or unset (get_or leaders k 0) 0

-- w is the next entry with the leader of k, or the end where there is none
pub record NextInGroup (leaders : List ℕ) (k w : ℕ) : Type 0 where
  pub after : k < w
  pub inside : w ≤ length leaders
  pub same : w < length leaders → get_or leaders w 0 ≡ get_or leaders k 0
  pub between : (j : ℕ) → k < j → j < w → ¬ (get_or leaders j 0 ≡ get_or leaders k 0)

-- the first n leaders are places of a table of 272 entries
abbrev pub LeadersInside : ℕ → List ℕ → Type 0
LeadersInside n leaders = (k : ℕ) → k < n → get_or leaders k 0 < 272

-- each of the first n followers is the next of its group
abbrev pub FollowersAre : ℕ → (leaders followers : List ℕ) → Type 0
FollowersAre n leaders followers = (k : ℕ) → k < n → NextInGroup (take n leaders) k (get_or followers k 0)
