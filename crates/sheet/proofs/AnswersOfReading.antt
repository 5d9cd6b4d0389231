-- What the reading of a sheet says of its bytes: at an error that they are refused so, and at a sheet that it is theirs and proper; and what its two parts then are.
use mathlib.Core.Path.{◌≡◌, sym}
use mathlib.Core.List.{List}
use Prim.Native.Nat.{ℕ}
use Rattle.std.specs.Prelude.{Ok, Err}
use Rattle.model.specs.declared.Refusal.{Refusal}
use Rattle.model.specs.Reading.{refused, proper, read_sheet}
use Rattle.model.proofs.ProperSheet.{sheet_proper}
use Rattle.architecture.specs.Struct as architecture
use Rattle.automaton.specs.Struct as automaton
use Rattle.sheet.specs.declared.Sheet.{Sheet}
use Rattle.sheet.specs.Struct.{sheet_of, Arrays, IsProper, reading_of}

-- what was read, by the result
pub read_refused : (b : List ℕ) (r : Refusal) → reading_of (Err r) ≡ read_sheet b → read_sheet b ≡ refused r
read_refused b r e = sym e

module _ (b : List ℕ) (s : Sheet) (e : reading_of (Ok s) ≡ read_sheet b) where
  pub read_proper : read_sheet b ≡ proper (sheet_of s)
  read_proper = sym e

  pub read_is_proper : Arrays s → IsProper s
  read_is_proper arrays = record { arrays = arrays; proper = sheet_proper b (sheet_of s) read_proper }

-- the architecture of a proper sheet is proper
pub architecture_proper : (s : Sheet) → IsProper s → architecture.IsProper s.architecture
architecture_proper s z = record { arrays = z.arrays.architecture; proper = z.proper.architecture }

-- and so is its automaton
pub automaton_proper : (s : Sheet) → IsProper s → automaton.IsProper s.architecture.variables s.automaton
unfolding architecture.architecture_of
automaton_proper s z = record { arrays = z.arrays.automaton; proper = z.proper.automaton }
