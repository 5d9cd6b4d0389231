-- `stepdesk::step` meets its contract, and what it writes is the line that is due.
use Rattle.std.proofs.Common.{◌≡◌, List, ℕ, sym, ap, ◌∙◌, subst, arith, rules, Result}
use Rattle.model.specs.declared.Refusal.{Refusal}
use Rattle.model.specs.declared.Desk.{Desk}
use Rattle.model.specs.Desk.{AfterStep, on_desk, step_of}
use Rattle.model.proofs.ComposedNumbers.{IsState}
use Rattle.architecture.specs.Struct.{architecture_of}
use Rattle.sheet.specs.declared.Sheet.{Sheet}
use Rattle.sheet.proofs.AnswersOfReading.{architecture_proper}
use Rattle.stepping.specs.Lines.{line_of, step_text}
use Rattle.stepdesk.specs.Ready.{BothRead}
use Rattle.stepdesk.proofs.BothFiles.{step_holds, line_is}
use Rattle.stepdesk.proofs.step.Goals as goal

-- the desk after the step
holds : {sheet book : List ℕ} {s : Sheet} (b : BothRead sheet book s) (k : Desk) (d : ℕ) (new : Desk) → new ≡ (step_of sheet book k d).desk
    → IsState (architecture_of s.architecture) (on_desk (architecture_of s.architecture) k)
    → IsState (architecture_of s.architecture) (on_desk (architecture_of s.architecture) new)
holds {s} b k d new e w = let a = architecture_of s.architecture in subst (λ (x : Desk). IsState a (on_desk a x)) (sym e) (step_holds b k d w)

pub step_text-end-requires : goal.step_text-end-requires
step_text-end-requires g c =
    let r = c.requires in
    let x = c.args.session in
    record {
      in_bounds = search rules;
      proper = architecture_proper _ r.both.is_proper;
      state = holds r.both x.desk x.word.value _ c.step-answer.ensures.1 r.on_a_desk;
    }

pub put_line-requires : goal.put_line-requires
put_line-requires g c =
    let x = c.args.session in
    let a = architecture_of c.args.read.architecture in
    let d = x.word.value in
    c.step_text-end.ensures.is ∙ rw (c.step-answer.ensures.0, c.step-answer.ensures.1) (sym (line_is c.requires.both x.desk d))

pub returns : goal.returns
returns g c =
    let r = c.requires in
    let x = c.args.session in
    record {
      both = r.both;
      on_a_desk = holds r.both x.desk x.word.value _ c.step-answer.ensures.1 r.on_a_desk;
      word_fits = rw c.no_word.ensures (omega arith);
    }
