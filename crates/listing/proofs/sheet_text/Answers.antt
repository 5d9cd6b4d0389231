-- `listing::sheet_text`: there is room for the text of a proper sheet.
use native.Mathlib.Omega.{arith}
use Rattle.sheet.specs.Struct.{sheet_of}
use Rattle.listing.proofs.ListingShort.{show_short}
use Rattle.listing.proofs.sheet_text.Goals as goal

pub put_sheet-requires-clause-sheet_in_bounds : goal.put_sheet-requires-clause-sheet_in_bounds
put_sheet-requires-clause-sheet_in_bounds c = omega (arith, show_short (sheet_of c.args.sheet) c.requires.proper.proper)
