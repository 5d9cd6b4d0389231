-- 01, "Bench cases": what the programs print, as bytes.
use Rattle.std.specs.Prelude.{List, [], ◌∷◌, ◌++◌, ℕ, ◌+◌, eqb, get_or, drop}
use Rattle.theory.specs.Lists.{greatest}
use Rattle.model.specs.Ascii.{ascii}
use Rattle.model.specs.Mask.{if}
use Rattle.model.specs.Sheet.{Process, Architecture}
use Rattle.model.specs.RunGraph.{blank}
use Rattle.model.specs.Reading.{Reading, refused, proper}
use Rattle.model.specs.Numbers.{number}
use Rattle.template.specs.Template.{filled}
use Rattle.text.specs.Rows.{each_row, each_process}

-- ---- tables
-- a next state, behind a space
abbrev pub field : ℕ → List ℕ
field n = filled (ascii " #") (n ∷ [])

-- the next states
unfoldable pub fields : List ℕ → List ℕ
fields [] = []
fields (n ∷ ns) = field n ++ fields ns

-- process, state and output mask
abbrev pub head : ℕ → ℕ → ℕ → List ℕ
head i x mask = filled (ascii "# # %") (i ∷ x ∷ mask ∷ [])

-- the row of process i for its state x
unfoldable pub row_text : ℕ → ℕ → List ℕ → List ℕ
row_text i x row = head i x (get_or row 0 0) ++ fields (drop 1 row) ++ ascii "\n"

-- the rows of process i, whose entries of c begin at `at`
abbrev pub rows_text : List ℕ → ℕ → Process → ℕ → List ℕ
rows_text c i p at = each_row (row_text i) p at c

-- processes rising, states rising
abbrev pub tables_text : List Process → List ℕ → List ℕ
tables_text ps c = each_process (rows_text c) 0 ps 0

-- the count of rows: one for each state of each process
unfoldable pub row_count : List Process → ℕ
row_count [] = 0
row_count (p ∷ ps) = p.bound + row_count ps

-- ---- the text
-- a number of an annotation; a blank counts for nothing
unfoldable pub unblank : ℕ → ℕ
unblank x = if (eqb x blank) 0 x

-- the greatest number of an annotation
abbrev pub greatest_text : List ℕ → List ℕ
greatest_text annotation = filled (ascii "greatest #\n") (greatest unblank annotation ∷ [])

-- a found choice c of the architecture a with its annotation
unfoldable pub text_of : Architecture → List ℕ → List ℕ → List ℕ
text_of a c annotation = filled (ascii "tables #\n") (row_count a.processes ∷ []) ++ tables_text a.processes c ++ greatest_text annotation

abbrev pub none_text : List ℕ
none_text = ascii "none\n"

abbrev pub yes_text : List ℕ
yes_text = ascii "yes\n"

abbrev pub no_text : List ℕ
no_text = ascii "no\n"

abbrev pub proper_text : List ℕ
proper_text = ascii "proper\n"

-- a refusal, by its number
abbrev pub refused_text : ℕ → List ℕ
refused_text n = filled (ascii "refused #\n") (n ∷ [])

-- a text, or the refusal in its place
unfoldable pub text_or_refused : Reading (List ℕ) → List ℕ
text_or_refused (refused r) = refused_text (number r)
text_or_refused (proper text) = text
