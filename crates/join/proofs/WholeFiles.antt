-- The program reads the first 434 bytes of each file: what it writes for them is what is due for the whole files.
use mathlib.Core.Path.{◌≡◌, ap}
use mathlib.Core.List.{List}
use Prim.Native.Nat.{ℕ}
use lib.ListN.{take}
use Rattle.model.proofs.Prefix.{join_prefix}
use Rattle.text.specs.Text.{text_or_refused}
use Rattle.join.specs.Printed.{printed}

pub whole_files : (first second : List ℕ) → printed (take 434 first) (take 434 second) ≡ printed first second
unfolding printed
whole_files first second = ap text_or_refused (join_prefix first second)
