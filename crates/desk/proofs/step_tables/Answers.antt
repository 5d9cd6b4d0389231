-- Nothing misfits, or 14; then the struct's step is the choice's.
use Rattle.std.proofs.Common.{ℕ, sym, ap₂, ◌∙◌, arith, Ok}
use Rattle.model.specs.declared.Desk.{Desk}
use Rattle.architecture.specs.Struct.{architecture_of}
use Rattle.composition.proofs.StructIsModelState.{chosen_long}
use Rattle.desk.proofs.TablesStepped.{refused_due, is_state, new_state, step_due}
use Rattle.desk.proofs.step_tables.Goals as goal

pub returns-then-misfits : goal.returns-then-misfits
returns-then-misfits c =
    let a = c.args in
    refused_due a.a c.requires.proper a.tables.now c.requires.tables a.desk (omega (arith, c.well_formed)) a.direction (sym c.misfits.ensures ∙ c.if-misfits.true)

pub step-next-requires-clause-in_bounds : goal.step-next-requires-clause-in_bounds
step-next-requires-clause-in_bounds c =
    let a = c.args in
    (is_state a.a c.requires.proper a.tables.now c.requires.tables a.desk (omega (arith, c.well_formed)) a.direction (sym c.misfits.ensures ∙ c.if-misfits.false)).states_in

pub label-requires-clause-in_bounds : goal.label-requires-clause-in_bounds
label-requires-clause-in_bounds c =
    let a = c.args in
    let s = c.step-next in
    (new_state a.a c.requires.proper a.tables.now c.requires.tables a.desk (omega (arith, c.well_formed)) a.direction (sym c.misfits.ensures ∙ c.if-misfits.false)
    s.result s.ensures.states_len s.ensures.result_value).states_in

pub label-requires-clause-a_in_bounds : goal.label-requires-clause-a_in_bounds
label-requires-clause-a_in_bounds c = chosen_long (architecture_of c.args.a) c.args.tables.now c.requires.tables

pub returns : goal.returns
returns c =
    let a = c.args in
    let s = c.step-next in
    ap₂ (λ (l : ℕ) (k : Desk). record { answer = Ok l; desk = k }) c.label.ensures c.showing.ensures
    ∙ step_due a.a c.requires.proper a.tables.now c.requires.tables a.desk (omega (arith, c.well_formed)) a.direction (sym c.misfits.ensures ∙ c.if-misfits.false)
    s.result s.ensures.states_len s.ensures.result_value
