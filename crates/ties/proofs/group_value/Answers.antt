-- The packed value of the leader is unpacked to the entry's own outputs, and a next state stays.
use Rattle.std.proofs.Common.{sym, ◌∙◌, arith}
use Rattle.ties.proofs.KindValues.{unpacked_output, unpacked_next, packed_byte}
use Rattle.ties.proofs.group_value.Goals as goal

pub returns-then-kind-eq0 : goal.returns-then-kind-eq0
returns-then-kind-eq0 c = c.unpack.ensures ∙ rw (c.mask_of.ensures, c.packed_value-packed.ensures) (sym (unpacked_output _ c.if-kind-eq0.true _))

pub overflow_cast-result : goal.overflow_cast-result
overflow_cast-result c = omega (arith, packed_byte c.args.leader c.args.v (omega arith))

pub returns : goal.returns
returns c = c.packed_value-packed.ensures ∙ sym (unpacked_next _ c.if-kind-eq0.false _)
