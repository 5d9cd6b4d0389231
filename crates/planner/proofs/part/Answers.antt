-- `range` has its numbers, and a part of a proper book lies within the book.
use Rattle.std.proofs.Common.{◌≡◌, List, ℕ, ap, Result, Ok}
use Rattle.model.specs.declared.Refusal.{Refusal}
use Rattle.model.specs.Calls.{AfterPart, part_of, part}
use Rattle.book.specs.declared.Part.{Part}
use Rattle.book.specs.Answers.{after_part}
use Rattle.book.proofs.PartWithin.{Within, part_within}
use Rattle.planner.proofs.part.Goals as goal

-- where the part is, within the book
inside : (sheet book : List ℕ) (i : ℕ) (r : Result Part Refusal) → after_part r ≡ part_of sheet book i → Within (after_part r) book
inside sheet book i r e = rw e (part_within sheet book i)

pub slice_bounds-result-count : goal.slice_bounds-result-count
slice_bounds-result-count c = (inside c.args.sheet.now c.args.book.now c.args.process (Ok c.in-Ok.range) c.in-Ok.ensures).rising

pub slice_bounds-result-start : goal.slice_bounds-result-start
slice_bounds-result-start c = (inside c.args.sheet.now c.args.book.now c.args.process (Ok c.in-Ok.range) c.in-Ok.ensures).rising

pub slice_bounds-result-end : goal.slice_bounds-result-end
slice_bounds-result-end c = (inside c.args.sheet.now c.args.book.now c.args.process (Ok c.in-Ok.range) c.in-Ok.ensures).inside

pub returns-in-Ok : goal.returns-in-Ok
unfolding part
returns-in-Ok c = ap (λ (p : AfterPart). part p c.args.book.now) c.in-Ok.ensures

pub returns-in-Err : goal.returns-in-Err
unfolding part
returns-in-Err c = ap (λ (p : AfterPart). part p c.args.book.now) c.in-Err.ensures
