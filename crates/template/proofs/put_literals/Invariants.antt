-- `template::put_literals`: what was written and the words from number i on, which are left, are all.
use Rattle.append.proofs.Appending.{Appending}
use Rattle.template.specs.Template.{literals, spaced}
use Rattle.template.proofs.WordsInTurn.{words_from}
use Rattle.template.proofs.put_literals.Given as goal

abbrev pub invariant-loop-i : goal.invariant-loop-i
invariant-loop-i l =
    Appending l.fn.text l.start (spaced l.none (literals l.sign l.bits l.on l.off 0)) l.at l.text (words_from l.none l.sign l.start l.bits l.at l.on_left l.off_left l.i)
