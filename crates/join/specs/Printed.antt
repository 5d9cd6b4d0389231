-- What the joining program writes for two sheet files.
use Rattle.std.specs.Prelude.{List, ℕ}
use Rattle.model.specs.Join.{join_bytes}
use Rattle.text.specs.Text.{text_or_refused}

-- both sheets as one, or `refused` and the number
unfoldable pub printed : (first second : List ℕ) → List ℕ
printed first second = text_or_refused (join_bytes first second)
