-- A part ends by byte 338, so that the number fits.
use Rattle.std.proofs.Common.{◌≡◌, List, ℕ, arith, Ok}
use Rattle.model.specs.Calls.{part_of}
use Rattle.book.specs.declared.Part.{Part}
use Rattle.book.specs.Answers.{after_part}
use Rattle.book.proofs.PartWithin.{Within, part_within}
use Rattle.export.specs.After.{part_by}
use Rattle.export.proofs.soclethyme_part.Goals as goal

inside : (sheet book : List ℕ) (i : ℕ) (p : Part) → after_part (Ok p) ≡ part_of sheet book i → Within (after_part (Ok p)) book
inside sheet book i p e = rw e (part_within sheet book i)

pub overflow_cast-result : goal.overflow_cast-result
overflow_cast-result c = let w = inside c.args.sheet.now c.args.book.now c.args.process c.in-Ok.part c.in-Ok.ensures in omega (arith, w.short)

pub overflow_mul-result : goal.overflow_mul-result
overflow_mul-result c = let w = inside c.args.sheet.now c.args.book.now c.args.process c.in-Ok.part c.in-Ok.ensures in omega (arith, w.short)

pub overflow_cast-result-in-Ok : goal.overflow_cast-result-in-Ok
overflow_cast-result-in-Ok c = let w = inside c.args.sheet.now c.args.book.now c.args.process c.in-Ok.part c.in-Ok.ensures in omega (arith, w.rising, w.short)

pub overflow_add-result : goal.overflow_add-result
overflow_add-result c = let w = inside c.args.sheet.now c.args.book.now c.args.process c.in-Ok.part c.in-Ok.ensures in omega (arith, w.rising, w.short)

pub returns-in-Ok : goal.returns-in-Ok
unfolding part_by
returns-in-Ok c = rw (← c.in-Ok.ensures)

pub returns-in-Err : goal.returns-in-Err
unfolding part_by
returns-in-Err c = rw (← c.in-Err.ensures) c.number.ensures
