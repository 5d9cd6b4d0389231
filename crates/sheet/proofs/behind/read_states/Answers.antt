use Rattle.std.proofs.Common.{◌≡◌, ◌+◌, ◌*◌, arith}
use Rattle.model.specs.Reading.{byte}
use Rattle.sheet.specs.Steps.{states_from}
use Rattle.sheet.proofs.RefusalTests.{in_order}
use Rattle.sheet.proofs.behind.read_states.Goals as goal

pub returns-clause-result_value : goal.returns-clause-result_value
unfolding states_from
returns-clause-result_value c =
    let word : c.from_le_bytes-rejecting.result ≡ byte c.args.sheet.now (c.args.at + 4) + 256 * byte c.args.sheet.now (c.args.at + 5) = omega (arith, c.from_le_bytes-rejecting.ensures) in
    grind (arith, in_order, word)
