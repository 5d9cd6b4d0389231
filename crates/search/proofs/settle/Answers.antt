use Rattle.std.proofs.Common.{◌≡◌, ℕ, ◌<◌, List, length, get_or, take, sym, ap, ◌∙◌, arith}
use mathlib.Core.Path.{subst₂}
use Rattle.model.specs.Sheet.{Architecture}
use Rattle.model.specs.Choice.{entries}
use Rattle.architecture.specs.Struct.{architecture_of}
use Rattle.sheet.specs.declared.Sheet.{Sheet}
use Rattle.sheet.specs.Struct.{sheet_of}
use Rattle.ties.specs.Groups.{set_group}
use Rattle.exploration.specs.Prepared.{Prepared}
use Rattle.search.specs.Choices.{Grouped, group_at, Ready, Witness, Begun}
use Rattle.search.specs.Answers.{NoChoice, Found}
use Rattle.search.proofs.OneGroup.{trying_more, trying_not, leader_word, Opened, words_are, marks_are, Put, Shut, set_ready, opens_few}
use Rattle.search.proofs.LeastChoice.{Settling, least_follower, least_same, begun_opened, begun_lost, begun_found}
use Rattle.search.proofs.settle.Goals as goal

-- i leads itself
settling : {s : Sheet} {fixed groups witness : List ℕ} {i n : ℕ} → let a = architecture_of s.architecture in
    Prepared s fixed → Grouped a groups → Witness (sheet_of s) witness → (n ≡ length (entries a)) × (i < n) → get_or groups i 0 ≡ i → Settling (sheet_of s) fixed groups i witness
settling {s} {groups = groups} {i = i} made grouped witness count own =
    let inside : i < length (entries (architecture_of s.architecture)) = omega (arith, count.0, count.1) in
    record {
      good = made.proper.proper;
      kinds_are = made.kinds_are;
      grouped = grouped;
      inside = inside;
      leads = sym (leader_word (architecture_of s.architecture) groups grouped i inside) ∙ own;
      witness = witness;
    }

-- the partial choice is begun with the witness of the entry
begun : {n m i : ℕ} {groups old witness values unset : List ℕ} → n ≡ m → witness ≡ old → Begun n groups witness i values unset → Begun m groups old i values unset
begun {i = i} {groups} {values = values} {unset} count same b = subst₂ (λ (n : ℕ) (w : List ℕ). Begun n groups w i values unset) count same b

-- the group of i is settled, with v at i
module _ {a : Architecture} {fixed groups values unset : List ℕ} {i n : ℕ} (o : Opened a values unset fixed groups i) (count : n ≡ length (entries a)) where
  put : (v : ℕ) → set_group (group_at fixed i v) (take n groups) i values ≡ Put o v
  put v = ap (λ (m : ℕ). set_group (group_at fixed i v) (take m groups) i values) count ∙ words_are o v values

  shut : set_group (λ i. 0) (take n groups) i unset ≡ Shut o
  shut = ap (λ (m : ℕ). set_group (λ i. 0) (take m groups) i unset) count ∙ marks_are o 0 unset

-- ---- answers
-- `return`
pub returns-then-leader-i-clause-least : goal.returns-then-leader-i-clause-least
returns-then-leader-i-clause-least c =
    let s = sheet_of c.args.sheet in
    let inside : c.args.i < length (entries s.architecture) = omega (arith, c.requires.n_value.0, c.requires.n_value.1) in
    let is = leader_word s.architecture c.args.groups.now c.requires.grouped c.args.i inside in
    least_follower s c.args.i c.args.witness.now c.requires.prepared.proper.proper inside (λ e. c.if-leader-i.true (is ∙ e)) c.requires.witness

-- `continue`
pub loop-v-preserved-then-not-may_be : goal.loop-v-preserved-then-not-may_be
loop-v-preserved-then-not-may_be c =
    let i = c.loop-v.invariant in
    record { tried = trying_not _ _ _ i.tried (sym c.may_be.ensures ∙ c.if-not-may_be.true); same = i.same; work = i.work }

pub search-found-requires-clause-ready : goal.search-found-requires-clause-ready
search-found-requires-clause-ready c =
    let S = settling c.requires.prepared c.requires.grouped c.requires.witness c.requires.n_value c.if-leader-i.false in
    let o = begun_opened S (begun c.requires.n_value.0 c.loop-v.invariant.same c.begin.ensures) in
    let values = c.settle_group.ensures.values_after ∙ put o c.requires.n_value.0 c.loop-v.v in
    let unset = c.settle_group.ensures.unset_after ∙ shut o c.requires.n_value.0 in
    subst₂ (Ready (architecture_of c.args.sheet.architecture)) (sym values) (sym unset) (set_ready o c.loop-v.v (sym c.may_be.ensures ∙ c.if-not-may_be.false))

pub search-found-requires-clause-architecture_bound :
    goal.search-found-requires-clause-architecture_bound
search-found-requires-clause-architecture_bound c =
    omega (arith, opens_few (architecture_of c.args.sheet.architecture) _ _ (search-found-requires-clause-ready c), c.requires.n_value.0)

-- `Found::Tables`
pub returns-in-Tables-clause-least : goal.returns-in-Tables-clause-least
returns-in-Tables-clause-least c =
    let s = sheet_of c.args.sheet in
    let S = settling c.requires.prepared c.requires.grouped c.requires.witness c.requires.n_value c.if-leader-i.false in
    let b = begun c.requires.n_value.0 c.loop-v.invariant.same c.begin.ensures in
    let values = c.settle_group.ensures.values_after ∙ put (begun_opened S b) c.requires.n_value.0 c.loop-v.v in
    let unset = c.settle_group.ensures.unset_after ∙ shut (begun_opened S b) c.requires.n_value.0 in
    let found = subst₂ (λ (x y : List ℕ). Found s x y c.search-found.new.values) values unset c.in-Tables.ensures.finds in
    begun_found S b c.loop-v.v (sym c.may_be.ensures ∙ c.if-not-may_be.false) _ found c.loop-v.invariant.tried

-- `Found::Nothing`
pub loop-v-preserved : goal.loop-v-preserved
loop-v-preserved c =
    let s = sheet_of c.args.sheet in
    let S = settling c.requires.prepared c.requires.grouped c.requires.witness c.requires.n_value c.if-leader-i.false in
    let b = begun c.requires.n_value.0 c.loop-v.invariant.same c.begin.ensures in
    let values = c.settle_group.ensures.values_after ∙ put (begun_opened S b) c.requires.n_value.0 c.loop-v.v in
    let unset = c.settle_group.ensures.unset_after ∙ shut (begun_opened S b) c.requires.n_value.0 in
    let lost = begun_lost S b c.loop-v.v (subst₂ (NoChoice s) values unset c.in-Nothing.ensures.finds.none_keeps) in
    record { tried = trying_more _ _ _ c.loop-v.invariant.tried lost; same = c.loop-v.invariant.same; work = c.search-found.ensures.work_2 }

-- each lower value was tried
pub returns-clause-least : goal.returns-clause-least
returns-clause-least c =
    let S = settling c.requires.prepared c.requires.grouped c.requires.witness c.requires.n_value c.if-leader-i.false in
    rw c.loop-v.invariant.same (least_same S c.loop-v.v (omega arith) c.loop-v.invariant.tried)
