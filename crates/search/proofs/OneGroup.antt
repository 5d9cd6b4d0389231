-- One group: the values of its leader are tried one after the other, and with each of them the whole group, which was open, is settled.
use mathlib.Core.Path.{◌≡◌, refl, sym, ap, ◌∙◌, subst}
use mathlib.Core.Bool.{true, false, true≢false}
use mathlib.Core.List.{List}
use Prim.Native.Nat.{ℕ, zero, suc, ◌+◌, ◌<◌, ◌≤◌}
use native.Mathlib.Decide.{ℕ_discrete, dec_lt}
use native.Mathlib.Omega.{arith}
use lib.ListN.{length, get_or, take, drop, get_or-map}
use lib.Seq.{get_or-take, get_or-drop}
use borrow.Author.Count.{below_more}
use Rattle.theory.proofs.ListLaws.{any_default}
use Rattle.model.specs.Sheet.{Architecture, Sheet, ProperArchitecture, ProperSheet}
use Rattle.model.specs.Choice.{Entry, next, entries, may, IsTables, IsChoice, chosen}
use Rattle.model.proofs.EntryLaws.{fits_at}
use Rattle.model.proofs.FirstInOrder.{entries_small}
use Rattle.choice.specs.Kinds.{kind_of}
use Rattle.ties.specs.Leaders.{entry_leaders}
use Rattle.ties.specs.Unpack.{group_value}
use Rattle.ties.specs.Groups.{set_group}
use Rattle.ties.proofs.Entries.{entry_leaders_long, leader_low, leader_own}
use Rattle.ties.proofs.SetGroup.{settled_long, settled_there, settled_elsewhere, settled_twice, settled_same, settled_take}
use Rattle.ties.proofs.Groups.{settled_follows, group_tied, group_zero, completes_group, group_completes}
use Rattle.exploration.specs.Prepared.{Kinds, kind_at}
use Rattle.exploration.specs.PartialChoice.{Agrees}
use Rattle.exploration.proofs.LabelTargets.{choice_byte}
use Rattle.search.specs.Choices.{Grouped, group_at, Ready, opens}
use Rattle.search.specs.Answers.{NoChoice, Found}

-- ---- one value after the other
-- P holds for each value below v that the entry may have
abbrev pub Trying : Entry → (ℕ → Type 0) → ℕ → Type 0
Trying e P v = (u : ℕ) → u < v → may e u ≡ true → P u

module _ (e : Entry) (P : ℕ → Type 0) (v : ℕ) (T : Trying e P v) where
  pub trying_more : P v → Trying e P (v + 1)
  trying_more here = below_more (λ u. may e u ≡ true → P u) v T (λ m. here)

  pub trying_not : may e v ≡ false → Trying e P (v + 1)
  trying_not f = below_more (λ u. may e u ≡ true → P u) v T (λ m. absurd (true≢false (sym m ∙ f)))

  -- nor may it have a value behind them
  pub trying_on : ((u : ℕ) → v ≤ u → u < 256 → may e u ≡ false) → Trying e P 256
  trying_on none u small m = elim (dec_lt u v) [
    | yes h ↦ T u h m
    | no ne ↦ absurd (true≢false (sym m ∙ none u (omega arith) small))
  ]

-- ---- the entries of a sheet
module _ (a : Architecture) (fixed : List ℕ) (K : Kinds a fixed) (k : ℕ) (hk : k < length (entries a)) where
  pub kind_at_lem : (d : Entry) → kind_at fixed k ≡ get_or (entries a) k d
  kind_at_lem d =
      ap kind_of (sym (get_or-take (length (entries a)) (drop 6144 fixed) k 0 hk ∙ get_or-drop 6144 fixed k 0))
      ∙ sym (get_or-map kind_of (take (length (entries a)) (drop 6144 fixed)) k 0)
      ∙ ap (λ (es : List Entry). get_or es k (kind_of 0)) K.are
      ∙ any_default (entries a) k (kind_of 0) d hk

  -- a choice has a value that the entry may have
  pub may_at : (c : List ℕ) → IsTables a c → may (kind_at fixed k) (get_or c k 0) ≡ true
  may_at c f = rw (kind_at_lem (next 0)) (fits_at f (next 0) k hk)

-- ---- partial choices
-- the entries at the front of the tables
pub chosen_at : (a : Architecture) (tables : List ℕ) (k : ℕ) → k < length (entries a) → get_or (chosen a tables) k 0 ≡ get_or tables k 0
chosen_at a tables k h = get_or-take (length (entries a)) tables k 0 h

-- at most all entries are open
opens_all : (unset : List ℕ) (n : ℕ) → ((i : ℕ) → i < n → ¬ (get_or unset i 0 ≡ 0) → get_or unset i 0 ≡ 1) → opens unset n ≤ n
unfolding opens
opens_all unset zero f = omega arith
opens_all unset (suc n) f =
    let rest = opens_all unset n (λ i h. f i (omega arith)) in
    elim (ℕ_discrete (get_or unset n 0) 0) [ yes e ↦ omega arith | no ne ↦ omega (arith, f n (omega arith) ne) ]

pub opens_few : (a : Architecture) (values unset : List ℕ) → Ready a values unset → opens unset (length (entries a)) ≤ length (entries a)
opens_few a values unset R = opens_all unset (length (entries a)) (λ i h ne. (R.zero i h ne).0)

-- where no mark is higher, no more are open; and fewer, where one mark is lower
opens_le : (old new : List ℕ) (n : ℕ) → ((k : ℕ) → k < n → get_or new k 0 ≤ get_or old k 0) → opens new n ≤ opens old n
unfolding opens
opens_le old new zero h = omega arith
opens_le old new (suc n) h = omega (arith, opens_le old new n (λ k l. h k (omega arith)), h n (omega arith))

opens_lt : (old new : List ℕ) (n l : ℕ) → ((k : ℕ) → k < n → get_or new k 0 ≤ get_or old k 0) → l < n → get_or new l 0 < get_or old l 0 → opens new n < opens old n
unfolding opens
opens_lt old new zero l h i d = absurd (omega arith)
opens_lt old new (suc n) l h i d = elim (ℕ_discrete n l) [
  | yes e ↦ omega (arith, opens_le old new n (λ k g. h k (omega arith)), rw (← e) at d)
  | no ne ↦ omega (arith, opens_lt old new n l (λ k g. h k (omega arith)) (omega arith) d, h n (omega arith))
]

-- ---- lists that differ in the group of l at most
abbrev pub ButGroup : Architecture → ℕ → List ℕ → List ℕ → Type 0
ButGroup a l xs ys = (f : ℕ → ℕ) → set_group f (entry_leaders a) l xs ≡ set_group f (entry_leaders a) l ys

pub but_settled : (a : Architecture) (l : ℕ) (g : ℕ → ℕ) (xs ys : List ℕ) → xs ≡ set_group g (entry_leaders a) l ys → ButGroup a l xs ys
but_settled a l g xs ys e f = ap (set_group f (entry_leaders a) l) e ∙ settled_twice f (entry_leaders a) l g ys

pub but_long : (a : Architecture) (l : ℕ) (xs ys : List ℕ) → ButGroup a l xs ys → length xs ≡ length ys
but_long a l xs ys same =
    let ls = entry_leaders a in
    sym (settled_long (λ i. 0) ls l xs) ∙ ap length (same (λ i. 0)) ∙ settled_long (λ i. 0) ls l ys

-- ---- a group that is open
pub record Opened (a : Architecture) (values unset fixed groups : List ℕ) (l : ℕ) : Type 0 where
  pub good : ProperArchitecture a
  pub kinds_are : Kinds a fixed
  pub grouped : Grouped a groups
  pub ready : Ready a values unset
  pub inside : l < length (entries a)
  pub leads : get_or (entry_leaders a) l 0 ≡ l
  pub unsettled : ¬ (get_or unset l 0 ≡ 0)

-- the code's word for a leader
pub leader_word : (a : Architecture) (groups : List ℕ) → Grouped a groups → (k : ℕ) → k < length (entries a) → get_or groups k 0 ≡ get_or (entry_leaders a) k 0
leader_word a groups G k h = sym (get_or-take (length (entries a)) groups k 0 h) ∙ ap (λ (x : List ℕ). get_or x k 0) G.are

-- the group of an entry that is open
pub opened_of : {a : Architecture} {values unset fixed groups : List ℕ} (k : ℕ) → ProperArchitecture a → Kinds a fixed → Grouped a groups → Ready a values unset → k < length (entries a)
    → ¬ (get_or unset k 0 ≡ 0) → Opened a values unset fixed groups (get_or groups k 0)
opened_of {a} {values} {unset} {groups = groups} k good K G R h ne =
    let ties = good.front.ties_proper in
    let is : get_or groups k 0 ≡ get_or (entry_leaders a) k 0 = leader_word a groups G k h in
    record {
      good = good;
      kinds_are = K;
      grouped = G;
      ready = R;
      inside = omega (arith, is, leader_low a ties k h);
      leads = rw is (leader_own a ties k h);
      unsettled = λ z. ne (R.follows k (omega (arith, entry_leaders_long a ties)) ∙ ap (λ (x : ℕ). get_or unset x 0) (sym is) ∙ z);
    }

-- it is settled
module _ {a : Architecture} {values unset fixed groups : List ℕ} {l : ℕ} (O : Opened a values unset fixed groups l) where
  led_long : length (entry_leaders a) ≡ length (entries a)
  led_long = entry_leaders_long a O.good.front.ties_proper

  pub few : length (entries a) ≤ 272
  few = O.kinds_are.few

  -- in the group an open entry has the mark 1 and the value 0
  was : (k : ℕ) → k < length (entries a) → get_or (entry_leaders a) k 0 ≡ l → (get_or unset k 0 ≡ 1) × (get_or values k 0 ≡ 0)
  was k h e = O.ready.zero k h (λ z. O.unsettled (sym (O.ready.follows k (omega (arith, led_long)) ∙ ap (λ (x : ℕ). get_or unset x 0) e) ∙ z))

  -- the code's words for the group's values
  pub words_are : (v : ℕ) (xs : List ℕ) → set_group (group_at fixed l v) (take (length (entries a)) groups) l xs ≡ set_group (group_value a l v) (entry_leaders a) l xs
  unfolding group_value
  words_are v xs =
      ap (λ (leaders : List ℕ). set_group (group_at fixed l v) leaders l xs) O.grouped.are
      ∙ sym (settled_twice (group_at fixed l v) (entry_leaders a) l (group_value a l v) xs)
      ∙ settled_same (group_at fixed l v) (entry_leaders a) l (set_group (group_value a l v) (entry_leaders a) l xs) same
    where
      same : (i : ℕ) → i < length (set_group (group_value a l v) (entry_leaders a) l xs) → (i < length (entry_leaders a)) × (get_or (entry_leaders a) i 0 ≡ l)
          → get_or (set_group (group_value a l v) (entry_leaders a) l xs) i 0 ≡ group_at fixed l v i
      same i hx g =
          let h : i < length (entries a) = omega (arith, g.0, led_long) in
          settled_there (group_value a l v) (entry_leaders a) l xs i g.0 (omega (arith, settled_long (group_value a l v) (entry_leaders a) l xs)) g.1
          ∙ rw (kind_at_lem a fixed O.kinds_are i h (next 0), kind_at_lem a fixed O.kinds_are l O.inside (next 0)) refl

  pub marks_are : (w : ℕ) (xs : List ℕ) → set_group (λ i. w) (take (length (entries a)) groups) l xs ≡ set_group (λ i. w) (entry_leaders a) l xs
  marks_are w xs = ap (λ (leaders : List ℕ). set_group (λ i. w) leaders l xs) O.grouped.are

  -- the leader leads itself, in the code's words too
  pub leads_word : get_or groups l 0 ≡ l
  leads_word = leader_word a groups O.grouped l O.inside ∙ O.leads

  -- the marks with the group settled
  abbrev pub Shut : List ℕ
  Shut = set_group (λ i. 0) (entry_leaders a) l unset

  -- the values with v at the leader
  abbrev pub Put : ℕ → List ℕ
  Put v = set_group (group_value a l v) (entry_leaders a) l values

  shut_at : (k : ℕ) → k < length (entries a) → get_or (entry_leaders a) k 0 ≡ l → get_or Shut k 0 ≡ 0
  shut_at k h e = settled_there (λ i. 0) (entry_leaders a) l unset k (omega (arith, led_long)) (omega (arith, O.ready.unset_long, few)) e

  pub put_at : (v k : ℕ) → k < length (entries a) → get_or (entry_leaders a) k 0 ≡ l → get_or (Put v) k 0 ≡ group_value a l v k
  put_at v k h e = settled_there (group_value a l v) (entry_leaders a) l values k (omega (arith, led_long)) (omega (arith, O.ready.values_long, few)) e

  -- another entry is as it was
  abbrev Other : ℕ → Type 0
  Other k = ¬ (get_or (entry_leaders a) k 0 ≡ l)

  pub shut_other : (k : ℕ) → Other k → get_or Shut k 0 ≡ get_or unset k 0
  shut_other k d = settled_elsewhere (λ i. 0) (entry_leaders a) l unset k (λ g. d g.1)

  pub put_other : (v k : ℕ) → Other k → get_or (Put v) k 0 ≡ get_or values k 0
  put_other v k d = settled_elsewhere (group_value a l v) (entry_leaders a) l values k (λ g. d g.1)

  pub shut_leader : get_or Shut l 0 ≡ 0
  shut_leader = shut_at l O.inside O.leads

  pub opens_fewer : opens Shut (length (entries a)) < opens unset (length (entries a))
  opens_fewer =
      opens_lt unset Shut (length (entries a)) l
      (λ k h. elim (ℕ_discrete (get_or (entry_leaders a) k 0) l) [ yes e ↦ omega (arith, shut_at k h e) | no d ↦ omega (arith, shut_other k d) ])
      O.inside (omega (arith, shut_leader, (was l O.inside O.leads).0))

  -- ---- it is opened again
  pub values_back : Put 0 ≡ values
  values_back = settled_same (group_value a l 0) (entry_leaders a) l values (λ i hx g.
      let h : i < length (entries a) = omega (arith, g.0, led_long) in
      (was i h g.1).1 ∙ sym (group_zero a O.good l i h))

  pub unset_back : set_group (λ i. 1) (entry_leaders a) l unset ≡ unset
  unset_back = settled_same (λ i. 1) (entry_leaders a) l unset (λ i hx g. (was i (omega (arith, g.0, led_long)) g.1).0)

  -- ---- with v at the leader
  module _ (v : ℕ) where
    pub set_ready : may (kind_at fixed l) v ≡ true → Ready a (Put v) Shut
    set_ready m = record {
      values_long = settled_long (group_value a l v) (entry_leaders a) l values ∙ O.ready.values_long;
      unset_long = settled_long (λ i. 0) (entry_leaders a) l unset ∙ O.ready.unset_long;
      choice = rw (settled_take (group_value a l v) (entry_leaders a) l (length (entries a)) values)
          (group_tied a O.good l v (rw (kind_at_lem a fixed O.kinds_are l O.inside (next 0)) at m) (chosen a values) O.ready.choice);
      zero = λ i h ne. elim (ℕ_discrete (get_or (entry_leaders a) i 0) l) [
        | yes e ↦ absurd (ne (shut_at i h e))
        | no d ↦ rw (shut_other i d, put_other v i d) (O.ready.zero i h (λ z. ne (shut_other i d ∙ z)))
      ];
      follows = settled_follows a O.good 0 l unset (omega (arith, O.ready.unset_long, few)) O.ready.follows;
    }

    -- what completes the wider choice, and has v at the leader, completes the narrower
    pub agrees_narrower : (c : List ℕ) → IsChoice a c → get_or c l 0 ≡ v → Agrees (length (entries a)) values unset c → Agrees (length (entries a)) (Put v) Shut c
    agrees_narrower c choice e A =
        subst (λ (u : ℕ). Agrees (length (entries a)) (Put u) Shut c) e (completes_group a O.good values unset c l (omega (arith, O.ready.values_long, few)) choice A)

-- what is found for the narrower choice is found for the wider
pub found_wider : (s : Sheet) {values unset fixed groups : List ℕ} {l : ℕ} (O : Opened s.architecture values unset fixed groups l) (v : ℕ) (tables : List ℕ)
    → Found s (Put O v) (Shut O) tables → Found s values unset tables
found_wider s {values} {unset} {l = l} O v tables F =
    let a = s.architecture in
    record { witness = F.witness; agrees = group_completes a O.good (group_value a l v) values unset (chosen a tables) l O.ready.follows O.unsettled F.agrees }

-- every value was tried
pub all_tried : (s : Sheet) {values unset fixed groups : List ℕ} {l : ℕ} (O : Opened s.architecture values unset fixed groups l) → ProperSheet s → (v : ℕ) → 256 ≤ v
    → Trying (kind_at fixed l) (λ u. NoChoice s (Put O u) (Shut O)) v → NoChoice s values unset
all_tried s {fixed = fixed} {l = l} O good v h T c choice A =
    let u = get_or c l 0 in
    let small = choice_byte (entries_small s.architecture good.architecture) choice.tables l in
    T u (omega (arith, small)) (may_at s.architecture fixed O.kinds_are l O.inside c choice.tables) c choice (agrees_narrower O u c choice refl A)
