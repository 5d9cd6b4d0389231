-- The program reads the first 434 bytes of a file: what it prints for them is the text for the whole file.
use mathlib.Core.Path.{◌≡◌, ap}
use mathlib.Core.List.{List}
use Prim.Native.Nat.{ℕ}
use lib.ListN.{take}
use Rattle.model.specs.Sheet.{Sheet}
use Rattle.model.specs.Reading.{Reading, proper, ◌then◌}
use Rattle.model.proofs.Prefix.{read_prefix}
use Rattle.text.specs.Text.{text_or_refused}
use Rattle.listing.specs.Listing.{show_text}
use Rattle.show.specs.Shown.{shown}

pub whole_file : (sheet : List ℕ) → shown (take 434 sheet) ≡ shown sheet
unfolding shown
whole_file sheet = ap (λ (k : Reading Sheet). text_or_refused (k then λ s. proper (show_text s))) (read_prefix sheet)
