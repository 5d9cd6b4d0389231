-- What the search's contracts cite: groups, partial choices in order, and witnesses. These are definitions.
use Rattle.std.specs.Prelude.{◌≡◌, true, false, List, ℕ, zero, suc, ◌+◌, ◌<◌, ◌≤◌, length, get_or, set, take}
use Rattle.model.specs.Sheet.{Architecture, Sheet}
use Rattle.model.specs.Choice.{entries, packed_value, IsChoice, chosen}
use Rattle.model.specs.Computed.{loops}
use Rattle.ties.specs.Leaders.{entry_leaders}
use Rattle.ties.specs.Unpack.{unpacked_value}
use Rattle.ties.specs.Groups.{Follows, NextInGroup}
use Rattle.exploration.specs.Prepared.{kind_at}

-- ---- groups: in one table of 544 words, the leader of each entry, and from 272 on the next entry with that leader
-- of the first n entries: a leader is not behind its entry
pub record Chains (n : ℕ) (groups : List ℕ) : Type 0 where
  pub few : n ≤ 272
  pub long : length groups ≡ 544
  pub low : (k : ℕ) → k < n → get_or groups k 0 ≤ k
  pub next : (k : ℕ) → k < n → NextInGroup (take n groups) k (get_or groups (272 + k) 0)

-- of the entries of a choice
pub record Grouped (a : Architecture) (groups : List ℕ) : Type 0 where
  pub chains : Chains (length (entries a)) groups
  pub are : take (length (entries a)) groups ≡ entry_leaders a

-- the value of entry k, if its leader l has v
abbrev pub group_at : (fixed : List ℕ) → (l v k : ℕ) → ℕ
group_at fixed l v k = unpacked_value (kind_at fixed k) (packed_value (kind_at fixed l) v)

-- ---- partial choices

-- a partial choice in order: an open entry has the value 0, and an entry is open exactly when its leader is
pub record Ready (a : Architecture) (values unset : List ℕ) : Type 0 where
  pub values_long : length values ≡ 272
  pub unset_long : length unset ≡ 272
  pub choice : IsChoice a (chosen a values)
  pub zero : (i : ℕ) → i < length (entries a) → ¬ (get_or unset i 0 ≡ 0) → (get_or unset i 0 ≡ 1) × (get_or values i 0 ≡ 0)
  pub follows : Follows (entry_leaders a) unset

-- how many of the first n entries are open
unfoldable pub opens : List ℕ → ℕ → ℕ
opens unset zero = 0
opens unset (suc n) = opens unset n + get_or unset n 0

-- a choice that keeps the sheet is at the front of the tables
pub record Witness (s : Sheet) (tables : List ℕ) : Type 0 where
  pub long : length tables ≡ 272
  pub choice : IsChoice s.architecture (chosen s.architecture tables)
  pub keeps : loops s (chosen s.architecture tables) ≡ false

-- entry k is opened where its leader is not before i, and otherwise left
pub record Led (k leader i : ℕ) (values unset new_values new_unset : List ℕ) : Type 0 where
  pub opened : i ≤ leader → (new_values ≡ set values k 0) × (new_unset ≡ set unset k 1)
  pub kept : leader < i → (new_values ≡ values) × (new_unset ≡ unset)

-- of the first n entries, those whose leader is before i are settled as in the tables, the others are open
pub record Begun (n : ℕ) (leaders tables : List ℕ) (i : ℕ) (values unset : List ℕ) : Type 0 where
  pub values_long : length values ≡ 272
  pub unset_long : length unset ≡ 272
  pub settled : (k : ℕ) → k < n → get_or leaders k 0 < i → (get_or values k 0 ≡ get_or tables k 0) × (get_or unset k 0 ≡ 0)
  pub left : (k : ℕ) → k < n → i ≤ get_or leaders k 0 → (get_or values k 0 ≡ 0) × (get_or unset k 0 ≡ 1)

-- the first i entries are the same
abbrev pub Alike : ℕ → List ℕ → List ℕ → Type 0
Alike i c d = (k : ℕ) → k < i → get_or c k 0 ≡ get_or d k 0

-- a choice with the entries of the tables before i, and a lower one at i, does not keep the sheet
abbrev pub Lowest : Sheet → ℕ → List ℕ → Type 0
Lowest s i tables = (c : List ℕ) → IsChoice s.architecture c → Alike i c tables → get_or c i 0 < get_or tables i 0 → loops s c ≡ true

-- the new witness has the entries of the old one before i, and at i the least value with which a choice keeps the sheet
pub record Least (s : Sheet) (i : ℕ) (old new : List ℕ) : Type 0 where
  pub witness : Witness s new
  pub same : Alike i new old
  pub lowest : Lowest s i new
