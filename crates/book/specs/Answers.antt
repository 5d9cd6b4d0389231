-- What reading's answers stand for, and what reading answers once the entries are known. These are definitions.
use Rattle.std.specs.Prelude.{List, [], ℕ, Result, Ok, Err}
use Rattle.model.specs.declared.Refusal.{Refusal}
use Rattle.model.specs.declared.Refusal.TheVariants.{BadEntry}
use Rattle.model.specs.Mask.{if}
use Rattle.model.specs.Sheet.{Architecture}
use Rattle.model.specs.Book.{entry_fault}
use Rattle.model.specs.Calls.{AfterRead, AfterPart, tables_of}
use Rattle.book.specs.declared.Part.{Part}

-- what reading handed back: zeros where it is refused
abbrev pub after_read : Result (List ℕ) Refusal → AfterRead
after_read (Ok tables) = record { answer = Ok tt; tables = tables }
after_read (Err r) = record { answer = Err r; tables = tables_of [] }

-- where the part is: nowhere, from 0 to 0, where it is refused
abbrev pub after_part : Result Part Refusal → AfterPart
after_part (Ok p) = record { answer = Ok tt; start = p.start; end = p.end }
after_part (Err r) = record { answer = Err r; start = 0; end = 0 }

-- the tables, or 11
unfoldable pub fitting_by : Architecture → List ℕ → Result (List ℕ) Refusal
unfolding if entry_fault
fitting_by a tables = if (entry_fault a tables) (Err BadEntry) (Ok tables)
