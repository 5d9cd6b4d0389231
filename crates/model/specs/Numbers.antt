-- 01, "Who causes which refusal": the number of each refusal, and what each answer says in the words of 01.
use Rattle.std.specs.Prelude.{List, [], ◌∷◌, ℕ, ◌+◌, Result, Ok, Err, ⊤}
use Rattle.model.specs.declared.Refusal.{Refusal}
use Rattle.model.specs.declared.Refusal.TheVariants.{SheetTooShort, WrongMark, BadArchitecture, BadProcess, NoOwnerOrTooMany, BadAutomaton}
use Rattle.model.specs.declared.Refusal.TheVariants.{BadEdge, BufferTooShort, AnnotationBufferTooShort, BadBook, BadEntry, NoSuchProcess}
use Rattle.model.specs.declared.Refusal.TheVariants.{PathBufferTooShort, BadDirectionOrDesk, BadTie, FrontsDiffer, JoinTooLarge, BadPrompt}
use Rattle.model.specs.declared.Finding.{Finding}
use Rattle.model.specs.declared.Finding.TheVariants.{Yes, No}
use Rattle.model.specs.declared.Found.{Found}
use Rattle.model.specs.declared.Found.TheVariants.{Tables, Nothing}

-- a refusal gives its number alone
abbrev pub number : Refusal → ℕ
number SheetTooShort = 1
number WrongMark = 2
number BadArchitecture = 3
number BadProcess = 4
number NoOwnerOrTooMany = 5
number BadAutomaton = 6
number BadEdge = 7
number BufferTooShort = 8
number AnnotationBufferTooShort = 9
number BadBook = 10
number BadEntry = 11
number NoSuchProcess = 12
number PathBufferTooShort = 13
number BadDirectionOrDesk = 14
number BadTie = 15
number FrontsDiffer = 19
number JoinTooLarge = 20
number BadPrompt = 21

-- the numbers of a sheet's own faults
abbrev pub sheet_numbers : List ℕ
sheet_numbers = 1 ∷ 2 ∷ 3 ∷ 4 ∷ 5 ∷ 6 ∷ 7 ∷ 15 ∷ 21 ∷ []

-- ---- what a C caller gets: 0 for the good answer, 256 for the other finding, otherwise the refusal's number
-- proper, written, read
abbrev pub reply_code : Result ⊤ Refusal → ℕ
reply_code (Err r) = number r
reply_code (Ok done) = 0

-- a book judged: yes or no; a book annotated: annotated or `loop`
abbrev pub finding_code : Finding → ℕ
finding_code Yes = 0
finding_code No = 256

-- a refusal number or one of the two findings
abbrev pub verdict_code : Result Finding Refusal → ℕ
verdict_code (Err r) = number r
verdict_code (Ok f) = finding_code f

-- find: tables or `none`
abbrev pub outcome_code : Result Found Refusal → ℕ
outcome_code (Err r) = number r
outcome_code (Ok Tables) = 0
outcome_code (Ok Nothing) = 256

-- a step on a desk: the label, above all refusals
abbrev pub shown_code : Result ℕ Refusal → ℕ
shown_code (Err r) = number r
shown_code (Ok l) = 65536 + l

-- a sheet that was written: its length, above all refusals
abbrev pub written_code : Result ℕ Refusal → ℕ
written_code (Err r) = number r
written_code (Ok n) = 65536 + n
