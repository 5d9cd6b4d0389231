-- What each answer of the search says. These are definitions.
use Rattle.std.specs.Prelude.{◌≡◌, true, List, ℕ, length}
use Rattle.std.proofs.Math.Option.{none, some}
use Rattle.model.specs.Sheet.{Sheet}
use Rattle.model.specs.Choice.{entries, IsChoice, chosen}
use Rattle.model.specs.Computed.{loops, first_choice}
use Rattle.exploration.specs.PartialChoice.{Agrees}
use Rattle.search.specs.Choices.{Witness}
use Rattle.model.specs.declared.Found as model
use Rattle.model.specs.declared.Found.TheVariants as a

-- every choice that completes the partial one has a reachable rejecting loop
abbrev pub NoChoice : Sheet → (values unset : List ℕ) → Type 0
NoChoice s values unset = (c : List ℕ) → IsChoice s.architecture c → Agrees (length (entries s.architecture)) values unset c → loops s c ≡ true

-- so it is, and the partial choice is as it was
pub record Refuted (s : Sheet) (values unset new_values new_unset : List ℕ) : Type 0 where
  pub none_keeps : NoChoice s values unset
  pub same_values : new_values ≡ values
  pub same_unset : new_unset ≡ unset

-- a choice that completes the partial one, and keeps the sheet, is found
pub record Found (s : Sheet) (values unset new_values : List ℕ) : Type 0 where
  pub witness : Witness s new_values
  pub agrees : Agrees (length (entries s.architecture)) values unset (chosen s.architecture new_values)

-- of the partial choice at entry and at exit
abbrev pub Finds : Sheet → (values unset new_values new_unset : List ℕ) → model.Found → Type 0
Finds s values unset new_values new_unset a.Nothing = Refuted s values unset new_values new_unset
Finds s values unset new_values new_unset a.Tables = Found s values unset new_values

-- no choice keeps the sheet; or the witness is the first that does
abbrev pub Leads : Sheet → List ℕ → model.Found → Type 0
Leads s witness a.Nothing = first_choice s ≡ none
Leads s witness a.Tables = Witness s witness × (first_choice s ≡ some (chosen s.architecture witness))
