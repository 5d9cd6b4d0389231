-- `annotate::verdict_text` meets its contract: each verdict has its text.
use Rattle.std.proofs.Common.{◌≡◌, Result, Ok, ap, subst, ◌∙◌}
use Rattle.model.specs.declared.Refusal.{Refusal}
use Rattle.model.specs.Calls.{AfterAnnotate, AnnotatePath}
use Rattle.judging.specs.declared.Annotated.{Annotated}
use Rattle.judging.specs.declared.Annotated.TheVariants.{Keeps, Loop}
use Rattle.judging.specs.Answers.{verdict_of, after_path}
use Rattle.annotate.specs.Printed.{annotation₀, path₀, left}
use Rattle.annotate.proofs.AnnotatedBuffer.{says_refused, says_greatest}
use Rattle.annotate.proofs.verdict_text.Goals as goal

-- `Ok(Annotated::Keeps) => text::greatest_text(text, annotation)`
pub returns-in-Ok-Keeps : goal.returns-in-Ok-Keeps
returns-in-Ok-Keeps c =
    let a = c.args in
    let keeps : a.done ≡ Ok Keeps = c.in-Ok-Keeps.is ∙ ap (λ (x : Annotated). Ok x) (rw c.in-Ok-Keeps.is at c.in-Ok-Keeps.field-0-is) in
    let left_so = c.requires.fact ∙ ap (λ (v : Result Annotated Refusal). left (verdict_of v) a.annotation.now) keeps in
    rw (says_greatest a.sheet.now a.book.now a.annotation.now _ left_so) c.greatest_text.ensures

-- `Ok(Annotated::Loop(lengths)) => loop_text(text, sheet, book, lengths, path)`
pub loop_text-requires : goal.loop_text-requires
loop_text-requires c =
    let a = c.args in
    let loop : a.done ≡ Ok (Loop c.in-Ok-Loop.lengths) = c.in-Ok-Loop.is ∙ ap (λ (x : Annotated). Ok x) (rw c.in-Ok-Loop.is at c.in-Ok-Loop.field-0-is) in
    record {
      in_bounds = c.requires.in_bounds;
      fact = ap (λ (x : AfterAnnotate). x.answer) c.requires.fact ∙ ap verdict_of loop;
      annotate_path = subst (λ (v : Result Annotated Refusal). AnnotatePath a.sheet.now a.book.now annotation₀ path₀ (after_path v a.path.now)) loop c.requires.annotate_path;
    }

pub returns-in-Ok-Loop : goal.returns-in-Ok-Loop
returns-in-Ok-Loop c =
    let loop : c.args.done ≡ Ok (Loop c.in-Ok-Loop.lengths) = c.in-Ok-Loop.is ∙ ap (λ (x : Annotated). Ok x) (rw c.in-Ok-Loop.is at c.in-Ok-Loop.field-0-is) in
    rw loop c.loop_text.ensures

-- `Err(refusal) => text::refused_text(text, refusal)`
pub returns-in-Err : goal.returns-in-Err
returns-in-Err c =
    let refused = ap (λ (x : AfterAnnotate). x.answer) c.requires.fact ∙ ap verdict_of c.in-Err.is in
    rw (says_refused c.args.sheet.now c.args.book.now c.in-Err.refusal _ refused) c.refused_text.ensures
