-- `search::search` meets its contract. The group of the entry that is needed is settled with one value after the other, and opened again where none led to a choice.
use mathlib.Core.Path.{◌≡◌, refl, sym, ap, subst₂, ◌∙◌}
use mathlib.Core.List.{List}
use Prim.Native.Nat.{ℕ, ◌-◌, ◌<◌, ◌≤◌}
use native.Mathlib.Omega.{arith}
use lib.ListN.{length, get_or, take}
use Rattle.model.specs.Sheet.{Architecture}
use Rattle.model.specs.Choice.{entries}
use Rattle.architecture.specs.Struct.{architecture_of}
use Rattle.sheet.specs.declared.Sheet.{Sheet}
use Rattle.sheet.specs.Struct.{sheet_of}
use Rattle.ties.specs.Leaders.{entry_leaders}
use Rattle.ties.specs.Unpack.{group_value}
use Rattle.ties.specs.Groups.{set_group}
use Rattle.exploration.specs.Prepared.{Prepared}
use Rattle.search.specs.Choices.{Grouped, group_at, Ready, opens}
use Rattle.search.specs.Answers.{NoChoice, Found}
use Rattle.search.proofs.OneGroup.{trying_more, trying_not, trying_on, chosen_at, ButGroup, but_settled, but_long}
use Rattle.search.proofs.OneGroup.{Opened, opened_of, words_are, marks_are, leads_word, opens_fewer, values_back, unset_back, Put}
use Rattle.search.proofs.OneGroup.{set_ready, found_wider, all_tried}
use Rattle.search.proofs.+search.Goals as goal

-- the group of the entry k that is needed
opened : {s : Sheet} {values unset fixed groups : List ℕ} {k : ℕ} → let a = architecture_of s.architecture in
    Prepared s fixed → Grouped a groups → Ready a values unset → (k < length (entries a)) × ¬ (get_or unset k 0 ≡ 0) → Opened a values unset fixed groups (get_or groups k 0)
opened {k = k} made grouped ready says = opened_of k made.proper.proper.architecture made.kinds_are grouped ready says.0 says.1

-- but for the group of l, values and marks are those of the entry
module _ {a : Architecture} {values unset fixed groups : List ℕ} {l n : ℕ} (o : Opened a values unset fixed groups l) (count : n ≡ length (entries a)) where
  -- the group is settled, with v at the leader
  put : (v : ℕ) (xs : List ℕ) → ButGroup a l xs values → set_group (group_at fixed l v) (take n groups) l xs ≡ Put o v
  put v xs same = ap (λ (m : ℕ). set_group (group_at fixed l v) (take m groups) l xs) count ∙ words_are o v xs ∙ same (group_value a l v)

  -- it is marked
  marked : (w : ℕ) (xs : List ℕ) → ButGroup a l xs unset → set_group (λ i. w) (take n groups) l xs ≡ set_group (λ i. w) (entry_leaders a) l unset
  marked w xs same = ap (λ (m : ℕ). set_group (λ i. w) (take m groups) l xs) count ∙ marks_are o w xs ∙ same (λ i. w)

-- ---- answers
-- `Explored::Loop`, `Explored::Keeps`
pub returns-in-Loop-clause-finds : goal.returns-in-Loop-clause-finds
returns-in-Loop-clause-finds t c = record {
  none_keeps = λ d choice agrees. c.in-Loop.ensures.explored_says d record { tables = choice.tables; agrees = agrees };
  same_values = refl;
  same_unset = refl;
}

pub returns-in-Keeps-clause-finds : goal.returns-in-Keeps-clause-finds
returns-in-Keeps-clause-finds t c =
    let a = architecture_of c.args.sheet.architecture in
    let ready = c.requires.ready in
    let own = λ (k : ℕ) (h : k < length (entries a)) (z : get_or c.args.unset.now k 0 ≡ 0). chosen_at a c.args.values.now k h in
    record {
      witness = record { long = ready.values_long; choice = ready.choice; keeps = c.in-Keeps.ensures.explored_says _ record { tables = ready.choice.tables; agrees = own } };
      agrees = own;
    }

-- `return Found::Nothing`: an entry is open
pub returns-then-left-eq0-clause-finds : goal.returns-then-left-eq0-clause-finds
returns-then-left-eq0-clause-finds t c =
    let o = opened c.requires.prepared c.requires.grouped.0 c.requires.ready c.in-Needs.ensures.explored_says in
    absurd (omega (arith, opens_fewer o, c.if-left-eq0.true, c.requires.architecture_bound))

-- `continue`
pub loop-v-preserved-then-not-may_be : goal.loop-v-preserved-then-not-may_be
loop-v-preserved-then-not-may_be t c =
    let i = c.loop-v.invariant in
    record { tried = trying_not _ _ _ i.tried (sym c.may_be.ensures ∙ c.if-not-may_be.true); values_same = i.values_same; unset_same = i.unset_same; work = i.work }

-- `settle_group(values, unset, fixed, groups, n, l, v as u8, 0)`: the arrays keep their lengths
pub settle_group-requires-clause-values_len : goal.settle_group-requires-clause-values_len
settle_group-requires-clause-values_len t c =
    let i = c.loop-v.invariant in
    (but_long _ _ _ _ i.values_same ∙ c.requires.ready.values_long, but_long _ _ _ _ i.unset_same ∙ c.requires.ready.unset_long, c.requires.prepared.long)

-- `settle_group(values, unset, fixed, groups, n, l, v as u8, 0)`
pub settle_group-requires-clause-l_lt_n : goal.settle_group-requires-clause-l_lt_n
settle_group-requires-clause-l_lt_n t c =
    let o = opened c.requires.prepared c.requires.grouped.0 c.requires.ready c.in-Needs.ensures.explored_says in
    (omega (arith, c.requires.grouped.1, o.inside), leads_word o)

-- `let found = search(values, unset, left - 1, sheet, fixed, groups, n, numbers, stack, waiting, targets, steps)`
pub search-found-requires : goal.search-found-requires
search-found-requires t c =
    let o = opened c.requires.prepared c.requires.grouped.0 c.requires.ready c.in-Needs.ensures.explored_says in
    let a = architecture_of c.args.sheet.architecture in
    let i = c.loop-v.invariant in
    let values = c.settle_group.ensures.values_after ∙ put o c.requires.grouped.1 c.loop-v.v c.loop-v.values i.values_same in
    let unset = c.settle_group.ensures.unset_after ∙ marked o c.requires.grouped.1 0 c.loop-v.unset i.unset_same in
    let ready = subst₂ (Ready a) (sym values) (sym unset) (set_ready o c.loop-v.v (sym c.may_be.ensures ∙ c.if-not-may_be.false)) in
    let fewer : opens c.settle_group.new.unset (length (entries a)) ≤ c.args.left - 1 =
    omega (arith, ap (λ (x : List ℕ). opens x (length (entries a))) unset, opens_fewer o, c.requires.architecture_bound) in
    (omega (arith, c.decreases, c.if-left-eq0.false), (c.requires.prepared, (c.requires.grouped, (ready, (fewer, i.work)))))

-- `Found::Tables => return Found::Tables`
pub returns-in-Tables-clause-finds : goal.returns-in-Tables-clause-finds
returns-in-Tables-clause-finds t c =
    let o = opened c.requires.prepared c.requires.grouped.0 c.requires.ready c.in-Needs.ensures.explored_says in
    let s = sheet_of c.args.sheet in
    let i = c.loop-v.invariant in
    let values = c.settle_group.ensures.values_after ∙ put o c.requires.grouped.1 c.loop-v.v c.loop-v.values i.values_same in
    let unset = c.settle_group.ensures.unset_after ∙ marked o c.requires.grouped.1 0 c.loop-v.unset i.unset_same in
    found_wider s o c.loop-v.v _ (subst₂ (λ (x y : List ℕ). Found s x y c.search-found.new.values) values unset c.in-Tables.ensures.finds)

-- `for v in 0..end`
pub loop-v-preserved : goal.loop-v-preserved
loop-v-preserved t c =
    let o = opened c.requires.prepared c.requires.grouped.0 c.requires.ready c.in-Needs.ensures.explored_says in
    let s = sheet_of c.args.sheet in
    let i = c.loop-v.invariant in
    let l = get_or c.args.groups.now c.in-Needs.k 0 in
    let values = c.settle_group.ensures.values_after ∙ put o c.requires.grouped.1 c.loop-v.v c.loop-v.values i.values_same in
    let unset = c.settle_group.ensures.unset_after ∙ marked o c.requires.grouped.1 0 c.loop-v.unset i.unset_same in
    let r = c.in-Nothing.ensures.finds in
    record {
      tried = trying_more _ _ _ i.tried (subst₂ (NoChoice s) values unset r.none_keeps);
      values_same = but_settled s.architecture l (group_value s.architecture l c.loop-v.v) _ c.args.values.now (r.same_values ∙ values);
      unset_same = but_settled s.architecture l (λ i. 0) _ c.args.unset.now (r.same_unset ∙ unset);
      work = c.search-found.ensures.work_2;
    }

-- `settle_group(values, unset, fixed, groups, n, l, 0, 1)`: the arrays keep their lengths
pub settle_group-requires-in-Needs-clause-values_len :
    goal.settle_group-requires-in-Needs-clause-values_len
settle_group-requires-in-Needs-clause-values_len t c =
    let i = c.loop-v.invariant in
    (but_long _ _ _ _ i.values_same ∙ c.requires.ready.values_long, but_long _ _ _ _ i.unset_same ∙ c.requires.ready.unset_long, c.requires.prepared.long)

-- `settle_group(values, unset, fixed, groups, n, l, 0, 1)`
pub settle_group-requires-in-Needs-clause-l_lt_n :
    goal.settle_group-requires-in-Needs-clause-l_lt_n
settle_group-requires-in-Needs-clause-l_lt_n t c =
    let o = opened c.requires.prepared c.requires.grouped.0 c.requires.ready c.in-Needs.ensures.explored_says in
    (omega (arith, c.requires.grouped.1, o.inside), leads_word o)

-- `Found::Nothing`: each value that the entry may have was tried, and the group is opened again
pub returns-after-loop-v-clause-finds : goal.returns-after-loop-v-clause-finds
returns-after-loop-v-clause-finds t c =
    let o = opened c.requires.prepared c.requires.grouped.0 c.requires.ready c.in-Needs.ensures.explored_says in
    let i = c.loop-v.invariant in
    let settled = c.settle_group-in-Needs.ensures in
    record {
      none_keeps = all_tried (sheet_of c.args.sheet) o c.requires.prepared.proper.proper 256 (omega arith) (trying_on _ _ _ i.tried (λ u h small. c.values_end-end.ensures.none_behind u (omega (arith, h, c.loop-v-test.false)) small));
      same_values = settled.values_after ∙ put o c.requires.grouped.1 0 c.loop-v.values i.values_same ∙ values_back o;
      same_unset = settled.unset_after ∙ marked o c.requires.grouped.1 1 c.loop-v.unset i.unset_same ∙ unset_back o;
    }
