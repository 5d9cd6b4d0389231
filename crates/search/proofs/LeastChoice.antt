-- The least values: entry after entry of a choice that keeps the sheet gets its least value, and all together are those of the first choice.
-- A follower has no choice of its own: its leader's value, which stands before it, decides.
use mathlib.Core.Path.{◌≡◌, refl, sym, ◌∙◌}
use mathlib.Core.Bool.{true}
use mathlib.Core.List.{List}
use mathlib.Core.Option.{none, some}
use Prim.Native.Nat.{ℕ, ◌+◌, ◌<◌, ◌≤◌}
use native.Mathlib.Decide.{ℕ_discrete, dec_lt}
use native.Mathlib.Omega.{arith}
use lib.ListN.{length, get_or, replicate, length-replicate, get_or-replicate}
use lib.Seq.{length-take-le}
use Rattle.model.specs.Sheet.{Architecture, Sheet, ProperArchitecture, ProperSheet}
use Rattle.model.specs.Choice.{next, entries, may, entry_at, packed_at, IsTables, IsChoice, chosen}
use Rattle.model.specs.Computed.{loops, keeps, first_choice}
use Rattle.model.proofs.FitsTest.{fits_length}
use Rattle.model.proofs.EntryLaws.{fits_at, before_at, zeros_fit}
use Rattle.model.proofs.FirstUnique.{none_is, first_is}
use Rattle.ties.specs.Leaders.{entry_leaders}
use Rattle.ties.proofs.Entries.{ties_are, entry_leaders_long, leader_low, leader_own}
use Rattle.ties.proofs.Groups.{fits_places, value_zero, zeros_tied, group_own, begin_agrees, follower_agrees}
use Rattle.exploration.specs.Prepared.{Kinds, kind_at}
use Rattle.exploration.specs.PartialChoice.{Agrees}
use Rattle.search.specs.Choices.{Chains, Grouped, Ready, Witness, Begun, Alike, Lowest, Least}
use Rattle.search.specs.Answers.{NoChoice, Found}
use Rattle.search.proofs.OneGroup.{Trying, kind_at_lem, may_at, chosen_at, leader_word, Opened, Put, Shut, put_at, put_other, shut_leader, shut_other, agrees_narrower}

-- ---- what is begun
-- from k on, values and marks are those of the start
pub record Untouched (k : ℕ) (tables values unset : List ℕ) : Type 0 where
  pub values_same : (j : ℕ) → k ≤ j → get_or values j 0 ≡ get_or tables j 0
  pub settled : (j : ℕ) → k ≤ j → j < 272 → get_or unset j 0 ≡ 0

pub untouched_all : (i : ℕ) (tables : List ℕ) → Untouched i tables tables (replicate 272 0)
untouched_all i tables = record { values_same = λ j h. refl; settled = λ j h l. get_or-replicate 272 j 0 0 l }

-- no leader is behind its entry: before i, all are settled
pub begun_none : (n i : ℕ) (groups tables : List ℕ) → Chains n groups → i ≤ n → length tables ≡ 272 → Begun i groups tables i tables (replicate 272 0)
begun_none n i groups tables C h l = record {
  values_long = l;
  unset_long = length-replicate {A = ℕ} 272 0;
  settled = λ k g f. (refl, get_or-replicate 272 k 0 0 (omega (arith, C.few)));
  left = λ k g f. absurd (omega (arith, C.low k (omega arith)));
}

-- of the entries of a choice: where the leader is before i the tables have the values of a choice d
pub record Beginning (a : Architecture) (groups tables : List ℕ) (i : ℕ) (values unset d : List ℕ) : Type 0 where
  pub good : ProperArchitecture a
  pub grouped : Grouped a groups
  pub begun : Begun (length (entries a)) groups tables i values unset
  pub choice : IsChoice a d
  pub is : (k : ℕ) → k < length (entries a) → get_or (entry_leaders a) k 0 < i → get_or tables k 0 ≡ get_or d k 0

module _ {a : Architecture} {groups tables values unset d : List ℕ} {i : ℕ} (B : Beginning a groups tables i values unset d) where
  led : ℕ → ℕ
  led k = get_or (entry_leaders a) k 0

  low : (k : ℕ) → k < length (entries a) → led k ≤ k
  unfolding led
  low = leader_low a B.good.front.ties_proper

  few : length (entries a) ≤ 272
  few = B.grouped.chains.few

  settled : (k : ℕ) → k < length (entries a) → led k < i → (get_or values k 0 ≡ get_or d k 0) × (get_or unset k 0 ≡ 0)
  unfolding led
  settled k h f =
      let r = B.begun.settled k h (rw (leader_word a groups B.grouped k h) f) in
      (r.0 ∙ B.is k h f, r.1)

  left : (k : ℕ) → k < length (entries a) → i ≤ led k → (get_or values k 0 ≡ 0) × (get_or unset k 0 ≡ 1)
  unfolding led
  left k h f = B.begun.left k h (rw (leader_word a groups B.grouped k h) f)

  -- ---- what is begun is in order
  value_at : (k : ℕ) → k < length (entries a) → get_or (chosen a values) k 0 ≡ get_or values k 0
  value_at = chosen_at a values

  tables_begun : IsTables a (chosen a values)
  tables_begun = fits_places (entries a) (chosen a values) (next 0) (length-take-le (length (entries a)) values (omega (arith, few, B.begun.values_long)))
      (λ k h. rw (value_at k h) (elim (dec_lt (led k) i) [
        | yes f ↦ rw (settled k h f).0 (fits_at B.choice.tables (next 0) k h)
        | no g ↦ rw (left k h (omega arith)).0 (rw (get_or-replicate {A = ℕ} (length (entries a)) k 0 0 h) at (fits_at (zeros_fit a B.good) (next 0) k h))
      ]))

  ties_begun : (k : ℕ) → k < length (entries a) → packed_at a (chosen a values) k ≡ packed_at a (chosen a values) (get_or (entry_leaders a) k 0)
  unfolding packed_at led
  ties_begun k h =
      let ties = B.good.front.ties_proper in
      let inside : led k < length (entries a) = omega (arith, low k h) in
      let own : led (led k) ≡ led k = leader_own a ties k h in
      rw (value_at k h, value_at (led k) inside) (elim (dec_lt (led k) i) [
        | yes f ↦ rw ((settled k h f).0, (settled (led k) inside (omega arith)).0) ((ties_are a ties d).0 B.choice.ties k h)
        | no g ↦ rw ((left k h (omega arith)).0, (left (led k) inside (omega arith)).0) (value_zero (entry_at a k) ∙ sym (value_zero (entry_at a (led k))))
      ])

  marks_follow : (k : ℕ) → k < length (entry_leaders a) → get_or unset k 0 ≡ get_or unset (get_or (entry_leaders a) k 0) 0
  unfolding led
  marks_follow k g =
      let ties = B.good.front.ties_proper in
      let h : k < length (entries a) = omega (arith, g, entry_leaders_long a ties) in
      let inside : led k < length (entries a) = omega (arith, low k h) in
      let own : led (led k) ≡ led k = leader_own a ties k h in
      elim (dec_lt (led k) i) [
        | yes f ↦ (settled k h f).1 ∙ sym (settled (led k) inside (omega arith)).1
        | no f ↦ (left k h (omega arith)).1 ∙ sym (left (led k) inside (omega arith)).1
      ]

  pub begun_ready : Ready a values unset
  begun_ready = record {
    values_long = B.begun.values_long;
    unset_long = B.begun.unset_long;
    choice = record { tables = tables_begun; ties = (ties_are a B.good.front.ties_proper (chosen a values)).1 ties_begun };
    zero = λ k h ne. elim (dec_lt (led k) i) [ yes f ↦ absurd (ne (settled k h f).1) | no g ↦ let e = left k h (omega arith) in (e.1, e.0) ];
    follows = marks_follow;
  }

  -- a choice with the entries of the tables before i completes what was begun
  pub begun_completes : (c : List ℕ) → IsChoice a c → Alike i c tables → i ≤ length (entries a) → Agrees (length (entries a)) values unset c
  unfolding led
  begun_completes c choice alike l k h z = elim (dec_lt (led k) i) [
    | yes f ↦
        begin_agrees a B.good c d choice B.choice i (λ j g. alike j g ∙ B.is j (omega arith) (omega (arith, low j (omega arith)))) k h f ∙ sym (settled k h f).0
    | no g ↦ absurd (omega (arith, (left k h (omega arith)).1))
  ]

-- ---- the least value of an entry
-- the choices with the entries of the tables before i, and u at i, do not keep the sheet
abbrev pub Lost : Sheet → ℕ → List ℕ → ℕ → Type 0
Lost s i tables u = (c : List ℕ) → IsChoice s.architecture c → Alike i c tables → get_or c i 0 ≡ u → loops s c ≡ true

-- entry i of a witness, a leader, gets its least value
pub record Settling (s : Sheet) (fixed groups : List ℕ) (i : ℕ) (tables : List ℕ) : Type 0 where
  pub good : ProperSheet s
  pub kinds_are : Kinds s.architecture fixed
  pub grouped : Grouped s.architecture groups
  pub inside : i < length (entries s.architecture)
  pub leads : get_or (entry_leaders s.architecture) i 0 ≡ i
  pub witness : Witness s tables

-- a follower has it already
pub least_follower : (s : Sheet) (i : ℕ) (tables : List ℕ) → ProperSheet s → i < length (entries s.architecture) → ¬ (get_or (entry_leaders s.architecture) i 0 ≡ i)
    → Witness s tables → Least s i tables tables
least_follower s i tables good h ne W =
    let a = s.architecture in
    record {
      witness = W;
      same = λ k g. refl;
      lowest = λ c choice alike l. absurd (omega (
        arith,
        l,
        follower_agrees a good.architecture c (chosen a tables) choice W.choice i h (omega (arith, ne, leader_low a good.architecture.front.ties_proper i h))
            (λ j g. alike j g ∙ sym (chosen_at a tables j (omega arith))),
        chosen_at a tables i h,
      ));
    }

module _ {s : Sheet} {fixed groups : List ℕ} {i : ℕ} {tables : List ℕ} (S : Settling s fixed groups i tables) where
  a : Architecture
  a = s.architecture

  -- each value below v is lost
  abbrev pub Lower : ℕ → Type 0
  Lower v = Trying (kind_at fixed i) (Lost s i tables) v

  lowest : (new : List ℕ) (v : ℕ) → Alike i new tables → get_or new i 0 ≤ v → Lower v → Lowest s i new
  lowest new v same low T c f al l =
      T (get_or c i 0) (omega arith) (may_at s.architecture fixed S.kinds_are i S.inside c f.tables) c f (λ k h. al k h ∙ same k h) refl

  pub least_same : (v : ℕ) → get_or tables i 0 ≤ v → Lower v → Least s i tables tables
  least_same v low T = record { witness = S.witness; same = λ k h. refl; lowest = lowest tables v (λ k h. refl) low T }

  module _ {values unset : List ℕ} (b : Begun (length (entries s.architecture)) groups tables i values unset) where
    beginning : Beginning s.architecture groups tables i values unset (chosen s.architecture tables)
    beginning = record {
      good = S.good.architecture;
      grouped = S.grouped;
      begun = b;
      choice = S.witness.choice;
      is = λ k h f. sym (chosen_at s.architecture tables k h);
    }

    pub begun_opened : Opened s.architecture values unset fixed groups i
    begun_opened = record {
      good = S.good.architecture;
      kinds_are = S.kinds_are;
      grouped = S.grouped;
      ready = begun_ready beginning;
      inside = S.inside;
      leads = S.leads;
      unsettled = λ e. omega (arith, (b.left i S.inside (omega (arith, leader_word s.architecture groups S.grouped i S.inside, S.leads))).1);
    }

    module _ (v : ℕ) where
      pub begun_lost : NoChoice s (Put begun_opened v) (Shut begun_opened) → Lost s i tables v
      begun_lost none_keeps c f al e =
          none_keeps c f (agrees_narrower begun_opened v c f e (begun_completes beginning c f al (omega (arith, S.inside))))

      pub begun_found : may (kind_at fixed i) v ≡ true → (new : List ℕ) → Found s (Put begun_opened v) (Shut begun_opened) new → Lower v → Least s i tables new
      begun_found m new F T = record { witness = F.witness; same = same; lowest = lowest new v same (omega (arith, is)) T }
        where
          found_at : (k : ℕ) → k < length (entries s.architecture) → get_or (Shut begun_opened) k 0 ≡ 0 → get_or new k 0 ≡ get_or (Put begun_opened v) k 0
          found_at k h z = sym (chosen_at s.architecture new k h) ∙ F.agrees k h z

          is : get_or new i 0 ≡ v
          is =
              found_at i S.inside (shut_leader begun_opened) ∙ put_at begun_opened v i S.inside S.leads
              ∙ group_own s.architecture S.good.architecture i v (rw (kind_at_lem s.architecture fixed S.kinds_are i S.inside (next 0)) at m) S.inside

          same : Alike i new tables
          same k h =
              let g : k < length (entries s.architecture) = omega (arith, S.inside) in
              let f : get_or (entry_leaders s.architecture) k 0 < i = omega (arith, leader_low s.architecture S.good.architecture.front.ties_proper k g) in
              let d : ¬ (get_or (entry_leaders s.architecture) k 0 ≡ i) = λ e. omega arith in
              let r = b.settled k g (omega (arith, leader_word s.architecture groups S.grouped k g, f)) in
              found_at k g (shut_other begun_opened k d ∙ r.1) ∙ put_other begun_opened v k d ∙ r.0

-- ---- the first choice
-- each of the first i entries is as low as it can be
pub record Leading (s : Sheet) (i : ℕ) (tables : List ℕ) : Type 0 where
  pub witness : Witness s tables
  pub lowest : (j : ℕ) → j < i → Lowest s j tables

pub leading_more : (s : Sheet) (i : ℕ) (old new : List ℕ) → Leading s i old → Least s i old new → Leading s (i + 1) new
leading_more s i old new P L = record {
  witness = L.witness;
  lowest = λ j h. elim (ℕ_discrete j i) [
    | yes e ↦ rw e L.lowest
    | no ne ↦ λ c f a l. P.lowest j (omega arith) c f (λ k g. a k g ∙ L.same k (omega arith)) (rw (L.same j (omega arith)) at l)
  ];
}

pub leading_first : (s : Sheet) (tables : List ℕ) → ProperSheet s → Leading s (length (entries s.architecture)) tables → first_choice s ≡ some (chosen s.architecture tables)
unfolding keeps
leading_first s tables good P = first_is s good (chosen s.architecture tables) record {
  is_choice = P.witness.choice;
  passing = rw P.witness.keeps;
  earlier = λ d f b.
      let at = before_at b in
      let h : at.0 < length (entries s.architecture) = omega (arith, at.1, fits_length P.witness.choice.tables) in
      rw (P.lowest at.0 h d f (λ k g. at.2 k g ∙ chosen_at s.architecture tables k (omega arith)) (rw (chosen_at s.architecture tables at.0 h) at at.3));
}

-- with all open, no choice at all
pub nothing_first : (s : Sheet) (groups tables values unset d : List ℕ) → ProperSheet s → Beginning s.architecture groups tables 0 values unset d → NoChoice s values unset → first_choice s ≡ none
unfolding keeps
nothing_first s groups tables values unset d good B none_keeps =
    none_is s good (λ c f. rw (none_keeps c f (begun_completes B c f (λ k h. absurd (omega arith)) (omega arith))))

-- what is begun at 0 is in order, whatever the tables hold
pub beginning_all : (a : Architecture) (groups tables values unset : List ℕ) → ProperArchitecture a → Grouped a groups → Begun (length (entries a)) groups tables 0 values unset
    → Beginning a groups tables 0 values unset (replicate (length (entries a)) 0)
beginning_all a groups tables values unset good G b = record { good = good; grouped = G; begun = b; choice = zeros_tied a good; is = λ k h f. absurd (omega arith) }
