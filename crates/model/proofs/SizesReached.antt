-- The sizes that 01 prints are reached, by computation: a proper sheet of 433 bytes whose book has 338, and a choice of it with 272 entries.
use mathlib.Core.Path.{◌≡◌, refl}
use lib.ListN.{length}
use Rattle.model.specs.Reading.{proper, read_sheet}
use Rattle.model.specs.Choice.{entries, IsChoice, fits, keeps_ties}
use Rattle.model.specs.Book.{book_length}
use Rattle.model.specs.BenchCases.{largest, longest, longest_choice}
use Rattle.model.specs.SheetFile.{longest_sheet}
use Rattle.model.proofs.FitsTest.{fits_right}
use Rattle.model.proofs.TiesTest.{keeps_ties_is}

-- the reader takes these bytes for this sheet
reads_largest : read_sheet longest ≡ proper largest
unfolding read_sheet longest largest
reads_largest = refl

-- every entry has a value that it may have, and all ties are kept
choice_largest : IsChoice largest.architecture longest_choice
unfolding entries largest longest_choice fits keeps_ties
choice_largest = record {
  tables = fits_right (entries largest.architecture) longest_choice refl refl;
  ties = (keeps_ties_is largest.architecture longest_choice).0 refl;
}

pub sizes_reached :
    (read_sheet longest ≡ proper largest)
    × (length longest ≡ longest_sheet)
    × (book_length largest.architecture ≡ 338)
    × IsChoice largest.architecture longest_choice
    × (length longest_choice ≡ 272)
unfolding longest book_length largest longest_choice
sizes_reached = (reads_largest, refl, refl, choice_largest, refl)
