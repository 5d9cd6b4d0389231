-- `listing::rows_total`: a process that has its leader's table adds nothing, and any other has at most 4 rows of at most 16 indexes.
use mathlib.Core.Path.{◌≡◌, ap₂}
use Prim.Native.Nat.{ℕ, ◌+◌, ◌-◌, ◌*◌, ◌^◌, ◌≤◌}
use native.Mathlib.Nat.{mul-le-mul}
use native.Mathlib.Omega.{arith}
use lib.Pow.{pow_mono}
use borrow.Author.Rules.{rules}
use Rattle.model.specs.Mask.{if, count}
use Rattle.architecture.specs.Struct.{process_in}
use Rattle.architecture.proofs.ProcessesOfArrays.{facts}
use Rattle.listing.proofs.Exponents.{rows_few}
use Rattle.listing.proofs.rows_total.Goals as goal
use Rattle.listing.proofs.rows_total.Goals.{After-bound_of}

pub returns-then-not-leads-clause-value : goal.returns-then-not-leads-clause-value
unfolding if
returns-then-not-leads-clause-value c = search rules

module _ (c : After-bound_of) where
  -- the indexes, as the code has them
  abbrev indexes : ℕ
  indexes = c.row_length-indexes.result - 1

  indexes_are : indexes ≡ 2 ^ count (process_in c.args.a c.args.i).inputs
  indexes_are = let e = rw c.inputs_of.ensures at c.row_length-indexes.ensures in omega arith

  indexes_few : indexes ≤ 16
  indexes_few =
      let k = count (process_in c.args.a c.args.i).inputs in
      omega (arith, indexes_are, pow_mono {i = k} {j = 4} ((facts c.requires.proper).few_inputs c.args.i c.requires.i_lt_processes))

  nexts_few : indexes * c.args.of_next ≤ 32
  nexts_few = mul-le-mul indexes_few c.requires.of_output_bound.1

  all_few : c.bound_of.result * (c.args.of_output + indexes * c.args.of_next) ≤ 160
  all_few =
      let few = (facts c.requires.proper).few_states c.args.i c.requires.i_lt_processes in
      rows_few c.bound_of.result c.args.of_output indexes c.args.of_next (omega (arith, few)) c.requires.of_output_bound.0 indexes_few c.requires.of_output_bound.1

pub overflow_mul-result : goal.overflow_mul-result
overflow_mul-result c = omega (arith, nexts_few (goal.at.overflow_mul-result c).After-bound_of)

pub overflow_add-result : goal.overflow_add-result
overflow_add-result c = omega (arith, nexts_few (goal.at.overflow_add-result c).After-bound_of)

pub overflow_mul-result-2 : goal.overflow_mul-result-2
overflow_mul-result-2 c = omega (arith, all_few (goal.at.overflow_mul-result-2 c).After-bound_of)

pub returns-clause-value : goal.returns-clause-value
unfolding if
returns-clause-value c =
    let o = c.args.of_output in
    let n = c.args.of_next in
    rw (← c.if-not-leads.ensures) (ap₂ (λ (b k : ℕ). b * (o + k * n)) c.bound_of.ensures (indexes_are (goal.at.returns-clause-value c).After-bound_of))

pub returns-clause-upper_bound : goal.returns-clause-upper_bound
returns-clause-upper_bound c = all_few (goal.at.returns-clause-upper_bound c).After-bound_of
