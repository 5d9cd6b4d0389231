-- `template::put_literals`: in each turn the word of the next bit goes behind what was written, and behind the loop only the word for no word is left.
use mathlib.Core.Path.{refl}
use native.Mathlib.Nat.{sub-zero}
use borrow.Author.Tests.{eq-eqb, ne_eqb}
use Rattle.model.specs.Mask.{if}
use Rattle.append.proofs.Appending.{opens_last, appending_none, appending_next, appending_room, appending_all}
use Rattle.template.proofs.WordsInTurn.{words_open, words_next, words_end}
use Rattle.template.proofs.put_literals.Goals as goal

pub loop-i-init : goal.loop-i-init
unfolding if
loop-i-init c = rw (eq-eqb _ _ refl, sub-zero) (appending_none _ _ _)

pub put_bit-at-requires : goal.put_bit-at-requires
put_bit-at-requires c =
    let l = c.loop-i in
    appending_room l.invariant c.requires (words_open c.args.none.now c.args.sign.now c.args.start c.args.bits l.at l.on_left l.off_left l.i c.loop-i-test.true)

pub loop-i-preserved : goal.loop-i-preserved
loop-i-preserved c =
    let l = c.loop-i in
    words_next c.args.none.now c.args.sign.now c.args.start c.args.bits l.at l.on_left l.off_left l.i c.loop-i-test.true l.invariant c.put_bit-at.ensures

pub put_all-requires : goal.put_all-requires
unfolding if
put_all-requires c =
    let l = c.loop-i in
    appending_room (rw (words_end _ _ _ _ _ l.on_left l.off_left l.i c.loop-i-test.false, eq-eqb _ _ c.if-at-start.true) at l.invariant) c.requires (opens_last _)

pub returns-then-at-start : goal.returns-then-at-start
unfolding if
returns-then-at-start c =
    let l = c.loop-i in
    appending_all (appending_next (rw (words_end _ _ _ _ _ l.on_left l.off_left l.i c.loop-i-test.false, eq-eqb _ _ c.if-at-start.true) at l.invariant) (opens_last _) c.put_all.ensures)

pub returns : goal.returns
unfolding if
returns c =
    let l = c.loop-i in
    appending_all (rw (words_end _ _ _ _ _ l.on_left l.off_left l.i c.loop-i-test.false, ne_eqb _ _ c.if-at-start.false) at l.invariant)
