-- What the checking program prints for a sheet file.
use Rattle.std.specs.Prelude.{List, ℕ, Result, Ok, Err, ⊤}
use Rattle.model.specs.Calls.{check_of}
use Rattle.model.specs.Numbers.{number}
use Rattle.text.specs.Text.{proper_text, refused_text}
use Rattle.model.specs.declared.Refusal.{Refusal}

-- `proper`, or `refused` and the number
unfoldable pub reply_text : Result ⊤ Refusal → List ℕ
reply_text (Ok done) = proper_text
reply_text (Err r) = refused_text (number r)

-- the text for these bytes
unfoldable pub printed : List ℕ → List ℕ
printed sheet = reply_text (check_of sheet)
