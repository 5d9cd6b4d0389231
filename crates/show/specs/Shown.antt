-- What the showing program prints for a sheet file.
use Rattle.std.specs.Prelude.{List, ℕ}
use Rattle.model.specs.Reading.{proper, ◌then◌, read_sheet}
use Rattle.text.specs.Text.{text_or_refused}
use Rattle.listing.specs.Listing.{show_text}

-- the text for these bytes
unfoldable pub shown : List ℕ → List ℕ
shown sheet = text_or_refused (read_sheet sheet then λ s. proper (show_text s))
