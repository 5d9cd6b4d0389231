-- `annotate::answer` is safe, and what it puts out is the text that is due: the text is whole.
use Rattle.std.proofs.Common.{refl, sym, ap, ◌∙◌, ℕ, ◌≤◌, length, replicate, arith}
use lib.ListN.{length-replicate}
use Rattle.template.proofs.FilledShort.{text_length}
use Rattle.model.specs.Calls.{annotate_of}
use Rattle.annotate.specs.Printed.{annotation₀, path₀, left}
use Rattle.annotate.proofs.AnnotatedBuffer.{left_so}
use Rattle.annotate.proofs.answer.Goals as goal
use Rattle.std.specs.Prelude.{◌≡◌, Result, Ok}
use Rattle.model.specs.declared.Refusal.{Refusal}
use Rattle.judging.specs.declared.Annotated.{Annotated}
use Rattle.judging.specs.declared.Annotated.TheVariants.{Keeps}
use Rattle.judging.specs.Answers.{verdict_of}

-- the buffer of the text: stated for every length, since so long a row is not to be written out
roomy : (n : ℕ) → n ≤ length (replicate {A = ℕ} n 0)
roomy n = omega (arith, length-replicate {A = ℕ} n 0)

-- `let done = planner::annotate(sheet, book, &mut annotation, &mut path)`
pub slice_bounds-annotate-end : goal.slice_bounds-annotate-end
slice_bounds-annotate-end g c = refl

-- `let end = verdict_text(&mut text, sheet, book, done, &annotation, &path)`
pub slice_bounds-verdict_text-end : goal.slice_bounds-verdict_text-end
slice_bounds-verdict_text-end g c = sym (length-replicate {A = ℕ} 524416 0)

-- `let end = verdict_text(&mut text, sheet, book, done, &annotation, &path)`
pub slice_bounds-verdict_text-end-2 : goal.slice_bounds-verdict_text-end-2
slice_bounds-verdict_text-end-2 g c = sym c.annotate-done.auto.annotation

-- `let end = verdict_text(&mut text, sheet, book, done, &annotation, &path)`
pub slice_bounds-verdict_text-end-3 : goal.slice_bounds-verdict_text-end-3
slice_bounds-verdict_text-end-3 g c = sym c.annotate-done.auto.path

-- `let end = verdict_text(&mut text, sheet, book, done, &annotation, &path)`
pub verdict_text-end-requires : goal.verdict_text-end-requires
verdict_text-end-requires g c = record {
  in_bounds = roomy 524416;
  -- what annotate answered, and the annotation that it left
  fact = left_so (annotate_of c.args.sheet.now c.args.book.now annotation₀ path₀) _ _ c.annotate-done.ensures.verdict_value c.annotate-done.ensures.annotation_after;
  annotate_path = c.annotate-done.ensures.annotate_path;
}

-- `put_out(rt, sheet, book, done, &path, &text[..end])`
pub slice_bounds-put_out-end : goal.slice_bounds-put_out-end
slice_bounds-put_out-end g c = sym c.annotate-done.auto.path

-- `put_out(rt, sheet, book, done, &path, &text[..end])`
pub slice_bounds-text-end : goal.slice_bounds-text-end
slice_bounds-text-end g c = c.verdict_text-end.ensures.fits

-- `put_out(rt, sheet, book, done, &path, &text[..end])`
pub slice_bounds-put_out-end-2 : goal.slice_bounds-put_out-end-2
slice_bounds-put_out-end-2 g c = text_length c.verdict_text-end.ensures

-- `put_out(rt, sheet, book, done, &path, &text[..end])`
pub put_out-requires : goal.put_out-requires
put_out-requires g c = record { annotate_path = c.annotate-done.ensures.annotate_path; text_value = c.verdict_text-end.ensures.is }

-- `Ok(Annotated::Keeps) => save_annotation(rt, sheet, book, &annotation)`
pub slice_bounds-save_annotation-end : goal.slice_bounds-save_annotation-end
slice_bounds-save_annotation-end g c = sym c.annotate-done.auto.annotation

pub save_annotation-requires : goal.save_annotation-requires
save_annotation-requires g c =
    let keeps : c.annotate-done.result ≡ Ok Keeps = c.in-Ok-Keeps.is ∙ ap (λ (x : Annotated). Ok x) (rw c.in-Ok-Keeps.is at c.in-Ok-Keeps.field-0-is) in
    left_so (annotate_of c.args.sheet.now c.args.book.now annotation₀ path₀) _ _ c.annotate-done.ensures.verdict_value c.annotate-done.ensures.annotation_after
    ∙ ap (λ (v : Result Annotated Refusal). left (verdict_of v) c.annotate-done.new.annotation) keeps
