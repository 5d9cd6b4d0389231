-- `drawing::put_states`: in each turn the next state goes behind what was written, by the lowest bit that is left of the mask.
use mathlib.Core.Path.{ap, ◌∙◌}
use mathlib.Core.List.{List}
use Prim.Native.Nat.{ℕ, ◌+◌, ◌/◌, ◌%◌, ◌^◌}
use native.Mathlib.Numerals.{add-one}
use native.Mathlib.Nat.{pow-suc, div-div-eq-div-mul}
use lib.Dec.{eqb}
use Rattle.model.specs.Mask.{bit}
use Rattle.append.proofs.Appending.{Opens, appending_next, appending_room, appending_all}
use Rattle.text.proofs.RowTexts.{text_from, from_open, from_end}
use Rattle.drawing.specs.Drawing.{state_text}
use Rattle.drawing.proofs.put_states.Goals as goal
use Rattle.drawing.proofs.put_states.Goals.{In-loop-q}

-- the text of state q, by its bit of the mask
abbrev one : ℕ → ℕ → List ℕ
one rejecting q = state_text q (bit rejecting q)

-- state q is due next
next : (c : In-loop-q) → let a = c.args in let l = c.loop-q in
    Opens (text_from (one a.rejecting) a.states l.q) (state_text l.q (eqb (l.left % 2) 1)) (text_from (one a.rejecting) a.states (l.q + 1))
unfolding bit
next c = from_open (one c.args.rejecting) c.args.states c.loop-q.q _ (ap (λ (m : ℕ). state_text c.loop-q.q (eqb (m % 2) 1)) c.loop-q.invariant.lower) c.loop-q-test.true

pub put_state-at-requires : goal.put_state-at-requires
put_state-at-requires c = appending_room c.loop-q.invariant.written c.requires (next (goal.at.put_state-at-requires c).In-loop-q)

pub loop-q-preserved : goal.loop-q-preserved
loop-q-preserved c =
    let l = c.loop-q in
    let lower = ap (λ (m : ℕ). m / 2) l.invariant.lower ∙ div-div-eq-div-mul _ (2 ^ l.q) 2 in
    record {
      lower = rw (add-one l.q, pow-suc 2 l.q) lower;
      written = appending_next l.invariant.written (next (goal.at.loop-q-preserved c).In-loop-q) c.put_state-at.ensures;
    }

pub returns : goal.returns
returns c = appending_all (rw (from_end (one c.args.rejecting) c.args.states c.loop-q.q c.loop-q-test.false) at c.loop-q.invariant.written)
