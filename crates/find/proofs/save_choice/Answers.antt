-- `find::save_choice` is safe, and what it writes are the book and the annotation of the first choice.
use Rattle.std.proofs.Common.{◌∙◌}
use Rattle.find.proofs.FoundBuffers.{chose, book_whole, annotation_counted, book_file_lem, annotation_file_lem}
use Rattle.find.proofs.save_choice.Goals as goal

-- `save_book(rt, sheet, &book[..length])`
pub slice_bounds-save_book-end : goal.slice_bounds-save_book-end
slice_bounds-save_book-end g c = book_whole (chose _ _ _ _ _ c.requires.proper.proper c.requires.fact) _ c.book_length-length.ensures.0

pub save_book-requires : goal.save_book-requires
save_book-requires g c = book_file_lem (chose _ _ _ _ _ c.requires.proper.proper c.requires.fact) _ c.book_length-length.ensures.0

-- `let end = words::to_bytes(&mut bytes, &annotation[..vertices])`
pub slice_bounds-to_bytes-end : goal.slice_bounds-to_bytes-end
slice_bounds-to_bytes-end g c = annotation_counted (chose _ _ _ _ _ c.requires.proper.proper c.requires.fact) _ c.vertices-vertices.ensures.0

-- `save_annotation(rt, sheet, &bytes[..end])`
pub save_annotation-requires : goal.save_annotation-requires
save_annotation-requires g c = c.to_bytes-end.ensures.is ∙ annotation_file_lem (chose _ _ _ _ _ c.requires.proper.proper c.requires.fact) _ c.vertices-vertices.ensures.0
