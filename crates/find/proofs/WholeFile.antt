-- The program reads the first 434 bytes of a file: what it prints for them is the text for the whole file.
use mathlib.Core.Path.{◌≡◌, ap}
use mathlib.Core.List.{List}
use Prim.Native.Nat.{ℕ}
use lib.ListN.{take}
use Rattle.model.proofs.Prefix.{read_prefix}
use Rattle.find.specs.Printed.{sheet_text, printed}

pub whole_file : (b : List ℕ) → printed (take 434 b) ≡ printed b
unfolding printed
whole_file b = ap sheet_text (read_prefix b)
