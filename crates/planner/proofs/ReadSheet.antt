-- What a sheet that was read is: a proper sheet, of which the bytes are the writing.
use mathlib.Core.Path.{◌≡◌}
use mathlib.Core.List.{List}
use Prim.Native.Nat.{ℕ}
use Rattle.std.specs.Prelude.{Ok}
use Rattle.model.specs.Reading.{read_sheet}
use Rattle.model.specs.SheetFile.{sheet_bytes, Bytes}
use Rattle.model.proofs.SheetClassified as classified
use Rattle.sheet.specs.declared.Sheet.{Sheet}
use Rattle.sheet.specs.Struct.{sheet_of, reading_of}
use Rattle.sheet.proofs.AnswersOfReading.{read_proper}

pub bytes_are : (sheet : List ℕ) (s : Sheet) → reading_of (Ok s) ≡ read_sheet sheet → Bytes sheet → sheet ≡ sheet_bytes (sheet_of s)
bytes_are sheet s e bytes = (classified.written sheet (sheet_of s) bytes (read_proper sheet s e)).0
