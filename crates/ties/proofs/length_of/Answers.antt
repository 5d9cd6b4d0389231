-- The product is the number of entries: a row for each state.
use Rattle.std.proofs.Common.{◌≡◌, ◌*◌, arith}
use Rattle.model.specs.Compose.{process_length}
use Rattle.architecture.specs.Struct.{process_in}
use Rattle.architecture.proofs.ProcessesOfArrays.{row_is, length_is, process_few}
use Rattle.ties.proofs.length_of.Goals as goal
use Rattle.ties.proofs.length_of.Goals.{After-row_length}

part : (c : After-row_length) → c.bound_of.result * c.row_length.result ≡ process_length (process_in c.args.a c.args.i)
part c =
    let f = process_in c.args.a in
    length_is f c.args.i _ _ c.bound_of.ensures (row_is f c.args.i _ _ c.inputs_of.ensures c.row_length.ensures)

pub overflow_mul-result : goal.overflow_mul-result
overflow_mul-result c = omega (arith, part c, process_few c.args.a c.requires.proper c.args.i c.requires.i_lt_processes)

pub returns : goal.returns
returns c = part c
