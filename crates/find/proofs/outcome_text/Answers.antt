-- `find::outcome_text` meets its contract: each answer of find has its text.
use Rattle.std.proofs.Common.{◌≡◌, Ok, ap, ◌∙◌, ℕ, ◌≤◌, length, arith}
use lib.ListN.{length-replicate}
use Rattle.model.specs.declared.Found.{Found}
use Rattle.model.specs.declared.Found.TheVariants.{Tables, Nothing}
use Rattle.model.specs.Calls.{AfterFind}
use Rattle.find.specs.Printed.{book₀, annotation₀}
use Rattle.find.proofs.FoundBuffers.{says_refused, says_nothing}
use Rattle.find.proofs.outcome_text.Goals as goal

-- the buffers are long enough for every proper sheet
rooms : (338 ≤ length book₀) × (4096 ≤ length annotation₀)
rooms = (omega (arith, length-replicate {A = ℕ} 338 0), omega (arith, length-replicate {A = ℕ} 4096 0))

-- `Ok(Found::Tables) => found_text(text, sheet, book, annotation)`
pub found_text-requires : goal.found_text-requires
found_text-requires c =
    let tables : c.args.outcome ≡ Ok Tables = c.in-Ok-Tables.is ∙ ap (λ (x : Found). Ok x) (rw c.in-Ok-Tables.is at c.in-Ok-Tables.field-0-is) in
    record { in_bounds = c.requires.in_bounds; fact = rw tables at c.requires.fact }

-- `Ok(Found::Nothing) => text::answer_text(text, b"none\n")`
pub returns-in-Ok-Nothing : goal.returns-in-Ok-Nothing
returns-in-Ok-Nothing c =
    let nothing : c.args.outcome ≡ Ok Nothing = c.in-Ok-Nothing.is ∙ ap (λ (x : Found). Ok x) (rw c.in-Ok-Nothing.is at c.in-Ok-Nothing.field-0-is) in
    rw (says_nothing c.args.sheet.now book₀ annotation₀ rooms.0 rooms.1 (ap (λ (x : AfterFind). x.answer) c.requires.fact ∙ nothing)) c.answer_text.ensures

-- `Err(refusal) => text::refused_text(text, refusal)`
pub returns-in-Err : goal.returns-in-Err
returns-in-Err c =
    rw (says_refused c.args.sheet.now book₀ annotation₀ rooms.0 rooms.1 _ (ap (λ (x : AfterFind). x.answer) c.requires.fact ∙ c.in-Err.is)) c.refused_text.ensures
