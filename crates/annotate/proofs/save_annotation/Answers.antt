-- `annotate::save_annotation` is safe, and what it writes is the annotation of the book.
use Rattle.std.proofs.Common.{◌∙◌, arith, length-take}
use Rattle.annotate.proofs.AnnotatedBuffer.{again_is, again_proper, sheet_ok, counted, file}
use Rattle.annotate.proofs.save_annotation.Goals as goal

-- `let read = sheet::read(sheet).unwrap()`
pub unwrap-read-requires : goal.unwrap-read-requires
unwrap-read-requires g c = sheet_ok _ _ _ c.requires c.read.result c.read.ensures.result_value

-- `let vertices = sizes::vertices(read)`
pub vertices-vertices-requires : goal.vertices-vertices-requires
vertices-vertices-requires g c = again_proper _ c.read.result c.read.ensures.result_value c.read.ensures.arrays _ c.unwrap-read.ensures

-- `let end = words::to_bytes(&mut bytes, &annotation[..vertices])`
pub slice_bounds-to_bytes-end : goal.slice_bounds-to_bytes-end
slice_bounds-to_bytes-end g c =
    counted _ _ _ c.requires _ (again_is _ c.read.result c.read.ensures.result_value c.read.ensures.arrays _ c.unwrap-read.ensures) _ c.vertices-vertices.ensures.0

pub to_bytes-end-requires : goal.to_bytes-end-requires
to_bytes-end-requires g c = omega (arith, length-take c.vertices-vertices.result c.args.annotation.now, c.vertices-vertices.ensures.1)

-- `save_bytes(rt, sheet, book, &bytes[..end])`
pub save_bytes-requires : goal.save_bytes-requires
save_bytes-requires g c =
    c.to_bytes-end.ensures.is
    ∙ file _ _ _ c.requires _ (again_is _ c.read.result c.read.ensures.result_value c.read.ensures.arrays _ c.unwrap-read.ensures) _ c.vertices-vertices.ensures.0
