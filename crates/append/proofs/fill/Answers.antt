-- The part that is filled holds the same word, as often as it is long.
use Rattle.std.proofs.Common.{◌≡◌, ◌+◌, ◌-◌, replicate, length, arith, refl, ap, sym, ◌∙◌, length-take, length-drop}
use Rattle.std.proofs.lemmas.List.{length-replicate}
use Rattle.append.proofs.Appended.{append_part}
use Rattle.append.proofs.fill.Goals as goal

pub returns : goal.returns
returns c =
    let a = c.args in
    let filled : c.fill.new.self ≡ replicate a.count a.word = c.fill.ensures.after (λ y e. e) ∙ ap (λ n. replicate n a.word) (simp (length-take, length-drop) (omega arith)) in
    rw filled (append_part a.words.now (replicate a.count a.word) a.at _ _ (rw length-replicate) refl c.requires)
