-- Both sheets are read, and then joined.
use Rattle.std.proofs.Common.{refl, arith}
use Rattle.std.proofs.lemmas.Result.{err_from_is_err_and}
use Rattle.model.specs.Reading.{◌then◌}
use Rattle.model.specs.Join.{join_bytes}
use Rattle.model.specs.Calls.{wrote_sheet, join_of}
use Rattle.sheet.proofs.AnswersOfReading.{read_refused, read_proper, read_is_proper}
use Rattle.planner.proofs.ReadSheet.{bytes_are}
use Rattle.planner.proofs.join.Goals as goal

pub returns-in_err-one : goal.returns-in_err-one
unfolding join_of join_bytes ◌then◌ wrote_sheet
returns-in_err-one c =
    let p = err_from_is_err_and c.from_residual.result c.from_residual.ensures.1 in
    rw (p.1, p.2, read_refused c.args.first.now _ c.in_err-one.ensures.result_value) (record { value = refl; sheet_after = refl })

pub returns-in_err-other : goal.returns-in_err-other
unfolding join_of join_bytes ◌then◌ wrote_sheet
returns-in_err-other c =
    let r = c.from_residual-in_err-other in
    let p = err_from_is_err_and r.result r.ensures.1 in
    rw (p.1, p.2, read_proper c.args.first.now _ c.in_ok-one.ensures.result_value, read_refused c.args.second.now _ c.in_err-other.ensures.result_value) (record { value = refl; sheet_after = refl })

pub join_for-requires : goal.join_for-requires
join_for-requires c =
    let a = c.args in
    let r = c.in_ok-one.ensures in
    let s = c.in_ok-other.ensures in
    record {
      proper = (read_is_proper a.first.now _ r.result_value r.arrays, read_is_proper a.second.now _ s.result_value s.arrays);
      first_value = (
        bytes_are a.first.now _ r.result_value (λ i. omega (arith, c.type_inv.first i)),
        bytes_are a.second.now _ s.result_value (λ i. omega (arith, c.type_inv.second i)),
      );
    }

pub returns : goal.returns
unfolding join_of join_bytes ◌then◌
returns c =
    rw (read_proper c.args.first.now _ c.in_ok-one.ensures.result_value, read_proper c.args.second.now _ c.in_ok-other.ensures.result_value) c.join_for.ensures
