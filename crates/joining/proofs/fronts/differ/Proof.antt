-- `fronts::differ` meets its contract: the bytes that are compared are the records before AU.
use mathlib.Core.Path.{◌≡◌, refl, sym, ap, ◌∙◌}
use mathlib.Core.Bool.{Bool, true, false, not}
use mathlib.Core.Logic.{◌↔◌}
use borrow.Author.Rules.{rules}
use Rattle.theory.proofs.ListLaws.{same_is}
use Rattle.model.specs.SheetFile.{front_bytes}
use Rattle.model.specs.Join.{fronts_differ}
use Rattle.architecture.specs.Struct.{architecture_of}
use Rattle.sheet.specs.Struct.{sheet_of}
use Rattle.sheet.proofs.AnswersOfReading.{architecture_proper}
use Rattle.joining.proofs.FrontLength.{front_taken, front_fits}
use Rattle.joining.proofs.fronts.differ.Statement.{statement}
use Rattle.joining.proofs.fronts.differ.Tie as tie

-- two tests that pass for the same reason
tests_agree : {P : Type 0} (r t : Bool) → (r ≡ true) ↔ P → (t ≡ true) ↔ P → r ≡ t
tests_agree true t f g = sym (g.1 (f.0 refl))
tests_agree false true f g = f.1 (g.0 refl)
tests_agree false false f g = refl

-- `let n = front_length(s.architecture)`
front-length-requires : tie.Need-front_length-n-requires
front-length-requires c κs = architecture_proper c.args.s c.requires.0.0

-- `let m = front_length(t.architecture)`
front-length-requires-2 : tie.Need-front_length-m-requires
front-length-requires-2 c κs = architecture_proper c.args.t c.requires.0.1

-- `!check::same(&first[..n], &second[..m])`
slice-aggregate-same : tie.Need-slice_bounds-same-end
slice-aggregate-same c = front_fits (sheet_of c.args.s) c.args.first.now c.front_length-n.result c.requires.1.0 c.front_length-n.ensures.0

-- `!check::same(&first[..n], &second[..m])`
slice-aggregate-same-2 : tie.Need-slice_bounds-same-end-2
slice-aggregate-same-2 c = front_fits (sheet_of c.args.t) c.args.second.now c.front_length-m.result c.requires.1.1 c.front_length-m.ensures.0

-- `!check::same(&first[..n], &second[..m])`
same-requires : tie.Need-same-requires
same-requires c κs = search rules

-- `!check::same(&first[..n], &second[..m])`
returns : tie.Need-returns
unfolding fronts_differ
returns c =
    let x = c.args in
    let e₁ = front_taken (sheet_of x.s) x.first.now c.front_length-n.result c.requires.1.0 c.front_length-n.ensures.0 in
    let e₂ = front_taken (sheet_of x.t) x.second.now c.front_length-m.result c.requires.1.1 c.front_length-m.ensures.0 in
    let compared = c.same.ensures in
    ap not (tests_agree c.same.result _ (λ e. sym e₁ ∙ compared.0 e ∙ e₂, λ e. compared.1 (e₁ ∙ e ∙ sym e₂)) (same_is (front_bytes (architecture_of x.s.architecture)) (front_bytes (architecture_of x.t.architecture))))

pub differ_spec : {M : Type 1} → statement M
differ_spec =
    tie.close
    (tie.spec
    front-length-requires
    front-length-requires-2
    slice-aggregate-same
    slice-aggregate-same-2
    same-requires
    returns)
