-- None of the arrays' entries counts yet, so that no output is owned, and the composed states are the environment's.
use Rattle.std.proofs.Common.{◌≡◌, refl, false, [], ℕ, ◌≤◌, arith}
use Rattle.model.specs.Sheet.{Architecture}
use Rattle.model.specs.Reading.{ar_fault}
use Rattle.theory.proofs.BitLaws.{one_shifted}
use Rattle.model.proofs.ProperSheet.{opening_proper}
use Rattle.sheet.proofs.OneProcessMore.{known_opened}
use Rattle.sheet.proofs.front.opened.Goals as goal

-- AR
abbrev ar : ℕ → ℕ → ℕ → Architecture
ar variables environment root = record { variables = variables; environment = environment; root = root; processes = []; ties = [] }

few : (variables environment root : ℕ) → ar_fault (ar variables environment root) ≡ false → environment ≤ 4
few variables environment root sound = (opening_proper (ar variables environment root) refl refl sound).few_environment

pub overflow_shl-result : goal.overflow_shl-result
overflow_shl-result c = omega (arith, few c.args.variables c.args.environment c.args.root c.requires)

pub returns-clause-by_index : goal.returns-clause-by_index
returns-clause-by_index c = λ b inside.
    let total = one_shifted 16 c.args.environment (omega (arith, few c.args.variables c.args.environment c.args.root c.requires)) in
    known_opened b _ (ar c.args.variables c.args.environment c.args.root) refl refl c.requires c.opened.ensures.result_value c.opened.ensures.arrays.0 inside refl total
