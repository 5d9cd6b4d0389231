-- Case A: the text that is due for its sheet is the four lines of 01. Its first choice is the arbiter's, and the rest is computed.
use mathlib.Core.Path.{◌≡◌, refl, ap, ◌∙◌}
use Rattle.model.specs.Reading.{proper, read_sheet}
use Rattle.model.specs.Computed.{annotation}
use Rattle.model.specs.BenchCases.{sheet_a, choice_a, text_a}
use Rattle.arbiter.specs.Arbiter.{arbiter}
use Rattle.arbiter.proofs.FirstChoice.{first_is_A}
use Rattle.theory.specs.Lists.{greatest}
use Rattle.model.specs.Mask.{if}
use Rattle.model.specs.Compose.{row_length, process_length, row_at}
use Rattle.template.specs.Template.{digit, decimal_in, decimal, hex, part, taken, filled}
use Rattle.text.specs.Rows.{each_from, each_process}
use Rattle.text.specs.Text.{fields, row_text, row_count, unblank, text_of}
use Rattle.find.specs.Printed.{choice_text, sheet_text, printed}

-- the sheet is the arbiter's
reads_A : read_sheet (sheet_a 2) ≡ proper arbiter
unfolding read_sheet arbiter
reads_A = refl

-- its text, with the annotation that is computed for the choice
text_A : text_of arbiter.architecture choice_a (annotation arbiter choice_a) ≡ text_a
unfolding annotation arbiter greatest if row_length process_length row_at digit decimal_in decimal hex part taken filled each_from each_process fields row_text row_count unblank text_of
text_A = refl

pub printed_A : printed (sheet_a 2) ≡ text_a
unfolding printed sheet_text choice_text
printed_A = ap sheet_text reads_A ∙ ap (choice_text arbiter) first_is_A ∙ text_A
