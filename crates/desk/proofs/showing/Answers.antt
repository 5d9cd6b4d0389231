use Rattle.std.proofs.Common.{◌≡◌, ℕ, List, ◌++◌, length, take, drop, sym, ap, ◌∙◌, arith}
use Rattle.std.proofs.lemmas.List.{length-map, length-take-le}
use Rattle.model.specs.declared.ProcessState.{ProcessState}
use Rattle.model.specs.Desk.{numbers, process_states, showing}
use Rattle.desk.proofs.showing.Goals as goal

pub returns : goal.returns
unfolding showing
returns c =
    let n = c.args.a.processes in
    let xs = numbers c.args.t.states in
    let ks = c.args.desk.states in
    let all : c.loop-i.i ≡ n = omega arith in
    let long : length (take n xs) ≡ n = length-take-le n xs (omega (arith, length-map c.args.t.states (λ x. x.0))) in
    ap (λ (l : List ProcessState). record { states = l; environment = c.args.t.environment })
    (c.loop-i.invariant ∙ ap (λ (m : ℕ). process_states (take m xs) ++ drop m ks) all ∙ ap (λ (m : ℕ). process_states (take n xs) ++ drop m ks) (sym long))
