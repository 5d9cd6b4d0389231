use Rattle.std.proofs.Common.{rules, refl, arith}
use Rattle.model.specs.Reading.{tie_at}
use Rattle.architecture.specs.Struct.{architecture_of}
use Rattle.sheet.proofs.OneProcessMore.{known_tied}
use Rattle.sheet.proofs.tied.read_tie.Goals as goal

pub returns-clause-result_known : goal.returns-clause-result_known
unfolding architecture_of
returns-clause-result_known c =
    let t = c.with_tie.ensures in
    known_tied _ (tie_at c.args.sheet.now c.args.so_far.end) c.requires.front_known c.requires.so_far_bound (cc) t.result_value (search rules) (omega arith) refl refl
