-- `template::put_filled`: what was written and the template from this byte on, with the numbers that are left, are all.
use Rattle.std.proofs.Common.{◌*◌, ◌≤◌, drop}
use Rattle.append.proofs.Appending.{Appending}
use Rattle.template.specs.Template.{filled}
use Rattle.template.proofs.put_filled.Given as goal

abbrev pub invariant-loop-byte : goal.invariant-loop-byte
invariant-loop-byte l =
    record {
      used_few : l.used ≤ 2 * l.byte-index;
      written : Appending l.fn.text l.start (filled l.template l.numbers) l.at l.text (filled (drop l.byte-index l.template) (drop l.used l.numbers));
    }
