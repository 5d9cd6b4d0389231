-- What is unpacked, and the weight times what the rest unpacks to, is the mask.
use Rattle.std.proofs.Common.{◌≡◌, ◌+◌, ◌-◌, ◌*◌, ◌^◌, ◌≤◌}
use Rattle.ties.specs.Unpack as spec
use Rattle.ties.specs.Unpack.{unpacked}
use Rattle.ties.proofs.unpack.Given as goal

abbrev pub invariant-loop : goal.invariant-loop
invariant-loop l = (l.weight ≤ 2 ^ l.counter) × (l.v + l.weight * unpacked (8 - l.counter) l.m l.w ≡ spec.unpack l.mask l.index)
