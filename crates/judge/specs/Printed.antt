-- What the judging program prints for the bytes of three files.
use Rattle.std.specs.Prelude.{List, ℕ, Result, Ok, Err}
use Rattle.model.specs.declared.Finding.TheVariants.{Yes, No}
use Rattle.model.specs.Calls.{judge_of}
use Rattle.model.specs.Numbers.{number}
use Rattle.words.specs.Words.{words_of}
use Rattle.text.specs.Text.{yes_text, no_text, refused_text}
use Rattle.model.specs.declared.Refusal.{Refusal}
use Rattle.model.specs.declared.Finding.{Finding}

-- `yes`, `no`, or `refused` and the number
unfoldable pub verdict_text : Result Finding Refusal → List ℕ
verdict_text (Err r) = refused_text (number r)
verdict_text (Ok Yes) = yes_text
verdict_text (Ok No) = no_text

-- the text for a sheet, a book and an annotation in words of two bytes
unfoldable pub printed : List ℕ → List ℕ → List ℕ → List ℕ
printed sheet book annotation = verdict_text (judge_of sheet book (words_of annotation))
