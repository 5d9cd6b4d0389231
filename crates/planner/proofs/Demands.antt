-- The three demands of the price list, proved. They speak of the calls' definitions; each public call's contract is an equation with its definition.
use mathlib.Core.Path.{◌≡◌, refl}
use mathlib.Core.List.{List, [], ◌∷◌}
use Prim.Native.Nat.{ℕ}
use Rattle.model.specs.declared.Finding.TheVariants.{Yes, No}
use Rattle.model.specs.Sheet.{Sheet}
use Rattle.model.specs.Reading.{proper, read_sheet}
use Rattle.model.specs.BenchCases.{sheet_e, edge, book_e}
use Rattle.model.specs.Book.{read_book}
use Rattle.model.specs.Calls.{find_sheet, judge_of}
use Rattle.model.specs.Demands.{Demand1, Demand2, Demand3, TiedTables, PromptInputs, UnlessEdges, DeskCalls, Information, Joins, Joining, Sizes}
use Rattle.model.proofs.DemandOne.{first_demand}
use Rattle.model.proofs.DemandTwo.{second_demand}
use Rattle.model.proofs.DemandThree.{third_demand}
use Rattle.model.proofs.TiedTables.{all_tied}
use Rattle.model.proofs.PromptInputs.{all_prompted}
use Rattle.model.proofs.UnlessEdges.{all_unless}
use Rattle.model.proofs.DeskShows.{desk_shows}
use Rattle.model.proofs.Information.{all_information}
use Rattle.model.proofs.Joining.{all_joined}
use Rattle.model.proofs.Sizes.{all_sizes}
use Rattle.std.specs.Prelude.{Ok}

-- 1: a fault gets exactly its number, and every lent buffer then holds what it held before
pub exact_refusals : Demand1
exact_refusals = first_demand

-- 2: judging is the published definition; a written book reads back as the same tables, and each proper book is the only writing of its tables
pub exact_verdicts : Demand2
exact_verdicts = second_demand

-- 3: `none` exactly when every choice has a reachable rejecting loop; otherwise the first choice without one, with the exact annotation
pub exact_search : (sheet book ann : List ℕ) (s : Sheet) (not_refused : find_sheet sheet book ann ≡ proper s) → Demand3 sheet book ann s not_refused
exact_search = third_demand

-- ties: each book that is read has one table for tied processes, and what breaks a tie gets 11
pub exact_ties : (sheet : List ℕ) (s : Sheet) (is_proper : read_sheet sheet ≡ proper s) → TiedTables sheet s is_proper
exact_ties = all_tied

-- prompt inputs: each process moves on what it really reads, and without prompt inputs as 01 has it
pub exact_prompts : (sheet : List ℕ) (s : Sheet) (is_proper : read_sheet sheet ≡ proper s) → PromptInputs sheet s is_proper
exact_prompts = all_prompted

-- edges that say unless: EX turns the test of the masks round, and nothing else
pub exact_unless : UnlessEdges
exact_unless = all_unless

-- the desk: made fresh and stepped it holds what the composition shows after the directions not refused, and answers the labels then due
pub exact_desk : (sheet book : List ℕ) (s : Sheet) (c : List ℕ) (is_proper : read_sheet sheet ≡ proper s) (is_book : read_book s.architecture book ≡ proper c)
    → DeskCalls sheet book s c is_proper is_book
exact_desk = desk_shows

-- information: a process acts on its own table and on what it reads, and on nothing else
pub exact_information : Information
exact_information = all_information

-- two sheets as one: what is written is read as both, with the machines of either, and tables keep it exactly where they keep both
pub exact_joining : {first second joined : List ℕ} {s t : Sheet} (joins : Joins first second joined s t) → Joining first second joined s t joins
exact_joining = all_joined

-- the sizes that 01 prints
pub exact_sizes : (sheet : List ℕ) (s : Sheet) (is_proper : read_sheet sheet ≡ proper s) → Sizes sheet s is_proper
exact_sizes = all_sizes

-- ---- an example
-- case H: the number rises where a rejecting state is entered: strictness on the vertex left would turn both verdicts round
pub strict_on_entering : (judge_of (sheet_e 1 2 1 (edge 0 1)) book_e (0 ∷ 0 ∷ []) ≡ Ok Yes) × (judge_of (sheet_e 1 2 2 (edge 0 1)) book_e (0 ∷ 0 ∷ []) ≡ Ok No)
unfolding judge_of
strict_on_entering = (refl, refl)
