-- `joining::join_for` meets its contract: the tests in order, and then the records before AU, which are those of both, with the automata as one behind them.
use mathlib.Core.Path.{◌≡◌, refl, sym, ap, ap₂, ◌∙◌, subst}
use mathlib.Core.Bool.{false}
use mathlib.Core.List.{List, ◌++◌}
use Prim.Native.Nat.{ℕ, ◌+◌, ◌*◌, ◌≤◌}
use native.Mathlib.Omega.{arith}
use lib.ListN.{length, take}
use borrow.Author.Rules.{rules}
use Rattle.model.specs.Sheet as model
use Rattle.model.specs.Reading.{EN}
use Rattle.model.specs.SheetFile.{automaton_bytes, records_bytes, sheet_bytes}
use Rattle.model.specs.Join.{join_automata, join_sheets, fronts_differ, is_too_large}
use Rattle.model.specs.Calls.{front, AfterSheet}
use Rattle.model.proofs.JoinRefusals.{fitting}
use Rattle.append.specs.Appends.{Appends}
use Rattle.append.proofs.Appended.{append_front}
use Rattle.automaton.specs.Struct.{automaton_of}
use Rattle.automaton.proofs.Edges.{edges_many}
use Rattle.sheet.specs.Struct.{sheet_of}
use Rattle.sheet.proofs.AnswersOfReading.{architecture_proper, automaton_proper}
use Rattle.joining.specs.Parts.{Proper}
use Rattle.joining.proofs.FrontLength.{front_taken, front_fits}
use Rattle.joining.proofs.JoinAnswers.{sheet_long, differing, too_large, too_short, written}
use Rattle.joining.proofs.join_for.Statement.{statement}
use Rattle.joining.proofs.join_for.Tie as tie
use Rattle.std.specs.Prelude.{Result, Ok}
use Rattle.model.specs.declared.Refusal.{Refusal}

-- ---- the two sheets
module _ (b : tie.Start) where
  abbrev s : model.Sheet
  s = sheet_of b.args.s

  abbrev t : model.Sheet
  t = sheet_of b.args.t

  first-proper : Proper b.args.s.automaton
  first-proper = record { variables = _; is_proper = automaton_proper b.args.s b.requires.0.0 }

  second-proper : Proper b.args.t.automaton
  second-proper = record { variables = _; is_proper = automaton_proper b.args.t b.requires.0.1 }

-- ---- positions: where the first test was, and the function's entry
abbrev entry : tie.After-differ → tie.Start
entry c = c.before.before.before.before

abbrev first-test : tie.After-are_too_large → tie.Else-differ
first-test c = c.before.before.before

abbrev start : tie.Else-are_too_large → tie.Start
start c = entry (first-test c.before).before

-- both tests failed
same-fronts : (c : tie.Else-differ) → fronts_differ (s (entry c.before)).architecture (t (entry c.before)).architecture ≡ false
same-fronts c = sym c.differ.ensures ∙ c.if-differ.false

fits : (c : tie.Else-are_too_large) → is_too_large (join_automata (s (start c)).automaton (t (start c)).automaton) ≡ false
fits c = sym c.are_too_large.ensures ∙ c.if-are_too_large.false

-- ---- what is written
module _ (c : tie.After-front_length-front) where
  abbrev begun : tie.Start
  begun = start c.before.before.before

  -- the sheet that is due
  abbrev new : List ℕ
  new = sheet_bytes (join_sheets (s begun) (t begun))

  -- the automata as one
  automata : automaton_of c.join_automata-joined.result ≡ join_automata (s begun).automaton (t begun).automaton
  automata = c.join_automata-joined.ensures.0

  -- its length
  counted : c.front_length-front.result + 8 + 6 * c.join_automata-joined.result.edges ≡ length new
  unfolding join_sheets
  counted = omega (arith, sheet_long (join_sheets (s begun) (t begun)), c.front_length-front.ensures.0, edges_many c.join_automata-joined.result, ap (λ (u : model.Automaton). length u.edges) automata)

  short : length new ≤ 433
  short = omega (arith, counted, c.front_length-front.ensures.1, c.join_automata-joined.ensures.1.few_edges)

  -- its parts
  parts : take c.front_length-front.result begun.args.first.now ++ automaton_bytes (automaton_of c.join_automata-joined.result) ++ EN ≡ new
  unfolding join_sheets sheet_bytes records_bytes
  parts = ap₂ (λ (f : List ℕ) (u : model.Automaton). f ++ automaton_bytes u ++ EN)
      (front_taken (s begun) begun.args.first.now c.front_length-front.result begun.requires.1.0 c.front_length-front.ensures.0) automata

-- `if differ(first, s, second, t)`
differ-requires : tie.Need-differ-requires
differ-requires c κs = search rules

-- `return Err(Refusal::FrontsDiffer)`
returns : tie.Need-returns-then-differ
returns c =
    let d = c.before in
    let b = entry d in
    let e = differing (s b) (t b) b.args.sheet.now (sym d.differ.ensures ∙ c.if-differ.true) in
    (sym (ap (λ (x : AfterSheet). x.answer) e), sym (ap (λ (x : AfterSheet). x.sheet) e))

-- `if are_too_large(u, w)`
are-too-large-requires : tie.Need-are_too_large-requires
are-too-large-requires c κs = let b = entry c.before.before.before in (first-proper b, second-proper b)

-- `return Err(Refusal::JoinTooLarge)`
returns-2 : tie.Need-returns-then-are_too_large
returns-2 c =
    let d = first-test c.before in
    let b = entry d.before in
    let e = too_large (s b) (t b) b.args.sheet.now (same-fronts d) (sym c.are_too_large.ensures ∙ c.if-are_too_large.true) in
    (sym (ap (λ (x : AfterSheet). x.answer) e), sym (ap (λ (x : AfterSheet). x.sheet) e))

-- `let joined = join_automata(u, w)`
join-automata-requires : tie.Need-join_automata-joined-requires
join-automata-requires c κs =
    let b = start c in
    record { first = first-proper b; second = second-proper b; fits = (fitting (join_automata (s b).automaton (t b).automaton)).0 (fits c) }

-- `let front = front_length(s.architecture)`
front-length-requires : tie.Need-front_length-front-requires
front-length-requires c κs = let b = start c.before.before in architecture_proper b.args.s b.requires.0.0

-- `if sheet.len() < front + 8 + 6 * joined.edges`
add-if3 : tie.Need-overflow_add-front
add-if3 c = omega (arith, c.front_length-front.ensures.1)

-- `if sheet.len() < front + 8 + 6 * joined.edges`
mul-if3 : tie.Need-overflow_mul-joined
mul-if3 c = omega (arith, c.join_automata-joined.ensures.1.few_edges)

-- `if sheet.len() < front + 8 + 6 * joined.edges`
add-if3-2 : tie.Need-overflow_add-front-2
add-if3-2 c = omega (arith, counted c.before, short c.before)

-- `return Err(Refusal::BufferTooShort)`
returns-3 : tie.Need-returns-then-sheet-front
returns-3 c =
    let f = c.before.before in
    let e₂ = f.before.before.before in
    let b = start e₂ in
    let e = too_short (s b) (t b) b.args.sheet.now (same-fronts (first-test e₂.before)) (fits e₂) (omega (arith, counted f, c.if-sheet-front.true)) in
    (sym (ap (λ (x : AfterSheet). x.answer) e), sym (ap (λ (x : AfterSheet). x.sheet) e))

-- `let length = writing::put_sheet(sheet, &first[..front], joined)`
slice-aggregate-put-sheet : tie.Need-slice_bounds-put_sheet-end
slice-aggregate-put-sheet c =
    let f = c.before.before.before in
    let b = begun f in
    front_fits (s b) b.args.first.now f.front_length-front.result b.requires.1.0 f.front_length-front.ensures.0

-- `let length = writing::put_sheet(sheet, &first[..front], joined)`
put-sheet-requires : tie.Need-put_sheet-length-requires
put-sheet-requires c κs =
    let f = c.before.before.before in
    (f.join_automata-joined.ensures.1, omega (arith, ap length (parts f), counted f, c.if-sheet-front.false))

-- `Ok(length as u16)`
cast-t25 : tie.Need-overflow_cast-result
cast-t25 c =
    let p = c.before.before in
    let f = p.before.before.before.before in
    omega (arith, p.put_sheet-length.ensures.ends, ap length (parts f), short f)

-- `Ok(length as u16)`
same_length : tie.Need-shape_of-sheet
same_length c = search rules

-- `Ok(length as u16)`
returns-4 : tie.Need-returns
unfolding front
returns-4 c =
    let p = c.before.before in
    let f = p.before.before.before.before in
    let e₂ = f.before.before.before in
    let b = begun f in
    let room : length (new f) ≤ length b.args.sheet.now = omega (arith, counted f, p.if-sheet-front.false) in
    let due = written (s b) (t b) b.args.sheet.now (same-fronts (first-test e₂.before)) (fits e₂) room in
    let own = subst (λ (x : List ℕ). Appends b.args.sheet.now 0 x p.put_sheet-length.result p.put_sheet-length.new.sheet) (parts f) p.put_sheet-length.ensures in
    let long : p.put_sheet-length.result ≡ length (new f) = omega (arith, own.ends) in (
      ap Ok long ∙ sym (ap (λ (x : AfterSheet). x.answer) due),
      append_front (λ (k : ℕ). new f) 0 0 refl own ∙ sym (ap (λ (x : AfterSheet). x.sheet) due),
    )

pub join_for_spec : {M : Type 1} → statement M
join_for_spec =
    tie.close
    (tie.spec
    differ-requires
    returns
    are-too-large-requires
    returns-2
    join-automata-requires
    front-length-requires
    add-if3
    mul-if3
    add-if3-2
    returns-3
    slice-aggregate-put-sheet
    put-sheet-requires
    cast-t25
    same_length
    returns-4)
