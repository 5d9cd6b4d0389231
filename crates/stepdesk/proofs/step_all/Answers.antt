-- A fresh desk is not refused, and holds a composed state.
use Rattle.std.proofs.Common.{◌≡◌, sym, ap, subst, ◌∙◌, arith, Ok}
use Rattle.model.specs.declared.Desk.{Desk}
use Rattle.model.specs.Desk.{AfterFresh, after_fresh, on_desk}
use Rattle.model.proofs.ComposedNumbers.{IsState}
use Rattle.architecture.specs.Struct.{architecture_of}
use Rattle.stepdesk.proofs.BothFiles.{fresh_ok, fresh_holds}
use Rattle.stepdesk.proofs.step_all.Goals as goal

pub unwrap-desk-requires : goal.unwrap-desk-requires
unwrap-desk-requires g c = fresh_ok c.requires _ c.fresh.result c.fresh.ensures

pub take_all-requires : goal.take_all-requires
take_all-requires g c =
    let b = c.requires in
    let a = architecture_of c.args.read.architecture in
    let is = sym (ap (λ r. after_fresh r _) c.unwrap-desk.ensures) ∙ c.fresh.ensures in
    record {
      both = b;
      on_a_desk = subst (λ (x : AfterFresh). IsState a (on_desk a x.desk)) (sym is) (fresh_holds b _);
      word_fits = rw c.no_word.ensures (omega arith);
    }
