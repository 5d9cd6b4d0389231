use Rattle.std.proofs.Common.{◌≡◌, ℕ, List, length, replicate, subst, arith}
use Rattle.model.specs.Choice.{entries}
use Rattle.architecture.specs.Struct.{architecture_of}
use Rattle.sheet.specs.declared.Sheet.{Sheet}
use Rattle.sheet.specs.Struct.{sheet_of}
use Rattle.exploration.specs.Prepared.{Prepared}
use Rattle.search.specs.Choices.{Grouped, Begun}
use Rattle.search.proofs.OneGroup.{opens_few}
use Rattle.search.proofs.LeastChoice.{Beginning, begun_ready, beginning_all, Leading, leading_more, leading_first, nothing_first}
use Rattle.search.proofs.first.Goals as goal

-- the partial choice is begun, with all entries open
begun : {s : Sheet} {fixed groups witness values unset : List ℕ} {n : ℕ} → let a = architecture_of s.architecture in
    Prepared s fixed → Grouped a groups → n ≡ length (entries a) → Begun n groups witness 0 values unset → Beginning a groups witness 0 values unset (replicate (length (entries a)) 0)
begun {s} {groups = groups} {witness} {values} {unset} made grouped count b =
    beginning_all (architecture_of s.architecture) groups witness values unset made.proper.proper.architecture grouped
    (subst (λ (n : ℕ). Begun n groups witness 0 values unset) count b)

pub search-found-requires-clause-ready : goal.search-found-requires-clause-ready
search-found-requires-clause-ready c = begun_ready (begun c.requires.prepared c.requires.grouped.0 c.requires.grouped.1 c.begin.ensures)

pub search-found-requires-clause-architecture_bound :
    goal.search-found-requires-clause-architecture_bound
search-found-requires-clause-architecture_bound c =
    let ready = begun_ready (begun c.requires.prepared c.requires.grouped.0 c.requires.grouped.1 c.begin.ensures) in
    omega (arith, opens_few (architecture_of c.args.sheet.architecture) _ _ ready, c.requires.grouped.1)

pub returns-in-Nothing : goal.returns-in-Nothing
returns-in-Nothing c =
    nothing_first (sheet_of c.args.sheet) _ _ _ _ _ c.requires.prepared.proper.proper (begun c.requires.prepared c.requires.grouped.0 c.requires.grouped.1 c.begin.ensures)
    c.in-Nothing.ensures.finds.none_keeps

pub loop-i-preserved : goal.loop-i-preserved
loop-i-preserved c = record { leading = leading_more _ c.loop-i.i _ _ c.loop-i.invariant.leading c.settle.ensures.least; work = c.settle.ensures.work_2 }

pub returns : goal.returns
returns c =
    let l = c.loop-i in
    let s = sheet_of c.args.sheet in
    let end : l.i ≡ length (entries s.architecture) = omega (arith, c.requires.grouped.1) in
    (l.invariant.leading.witness, leading_first s _ c.requires.prepared.proper.proper (subst (λ (i : ℕ). Leading s i l.witness) end l.invariant.leading))
