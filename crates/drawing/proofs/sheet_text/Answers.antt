-- `drawing::sheet_text`: there is room for the text of a proper sheet.
use native.Mathlib.Omega.{arith}
use lib.ListN.{length-append}
use Rattle.sheet.specs.Struct.{sheet_of}
use Rattle.drawing.proofs.DrawingShort.{sheet_short}
use Rattle.drawing.proofs.sheet_text.Goals as goal

pub put_start-after_start-requires-clause-sheet_in_bounds : goal.put_start-after_start-requires-clause-sheet_in_bounds
put_start-after_start-requires-clause-sheet_in_bounds c = omega (arith, simp length-append at (sheet_short (sheet_of c.args.sheet) c.requires.proper.proper))

pub put_all-requires : goal.put_all-requires
put_all-requires c = omega (arith, simp length-append at (sheet_short (sheet_of c.args.sheet) c.requires.proper.proper))
