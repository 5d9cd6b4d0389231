-- `stepping::step_text` meets its contract: there is room for the line of a refusal and for that of a composed state.
use mathlib.Core.Path.{◌≡◌, sym, ap, ◌∙◌}
use mathlib.Core.List.{List, [], ◌∷◌}
use Prim.Native.Nat.{ℕ, ◌^◌, ◌<◌, ◌≤◌}
use native.Mathlib.Omega.{arith}
use lib.ListN.{length, take}
use Rattle.model.specs.declared.ProcessState.{ProcessState}
use Rattle.model.specs.declared.Desk.{Desk}
use Rattle.model.specs.Sheet.{ProperArchitecture}
use Rattle.model.proofs.ComposedNumbers.{IsState}
use Rattle.model.specs.Ascii.{ascii}
use Rattle.model.specs.Desk.{numbers, on_desk}
use Rattle.architecture.specs.declared.Architecture.{Architecture}
use Rattle.architecture.specs.Struct.{architecture_of, process_in}
use Rattle.architecture.proofs.ProcessesOfArrays.{processes_length}
use Rattle.template.specs.Template.{filled}
use Rattle.template.proofs.FilledShort.{longest, filled_short, whole_text}
use Rattle.replay.specs.Run.{with_states}
use Rattle.stepping.specs.Lines.{line_of}
use Rattle.stepping.proofs.LinesShort.{line_short}
use Rattle.stepping.proofs.step_text.Goals as goal
use Rattle.std.specs.Prelude.{Result, Ok}
use Rattle.model.specs.declared.Refusal.{Refusal}

-- ---- a refusal
abbrev refusal : ℕ → ℕ → List ℕ
refusal d n = filled (ascii "direction % refused #\n") (d ∷ n ∷ [])

refusal-short : (d n : ℕ) → d < 256 → n < 10 ^ 10 → length (refusal d n) ≤ 64
unfolding longest
refusal-short d n few-d few-n =
    let few : d < 10 ^ 10 = omega arith in
    omega (arith, filled_short 9 (ascii "direction % refused #\n") (d ∷ n ∷ []) (few, (few-n, tt)))

-- ---- a label
abbrev line : ℕ → ℕ → ℕ → List ProcessState → List ℕ
line d label processes states = with_states (ascii "direction % label % states") (d ∷ label ∷ []) (take processes (numbers states))

states_are : (a : Architecture) (k : Desk) → take a.processes (numbers k.states) ≡ (on_desk (architecture_of a) k).states
unfolding on_desk architecture_of
states_are a k = ap (λ (n : ℕ). take n (numbers k.states)) (sym (processes_length a.processes (process_in a)))

line_is : (a : Architecture) (k : Desk) (d label : ℕ) → line d label a.processes k.states ≡ line_of (architecture_of a) d (Ok label) k
unfolding line_of
line_is a k d label = ap (λ (xs : List ℕ). with_states (ascii "direction % label % states") (d ∷ label ∷ []) xs) (states_are a k)

label-short : (a : Architecture) (k : Desk) → ProperArchitecture (architecture_of a) → IsState (architecture_of a) (on_desk (architecture_of a) k) → (d label : ℕ) → d < 256 → label < 256
    → length (line d label a.processes k.states) ≤ 64
unfolding longest
label-short a k proper state d label few-d few-label =
    rw (states_are a k)
    (line_short (architecture_of a) (on_desk (architecture_of a) k) proper state (ascii "direction % label % states") (d ∷ label ∷ []) (omega arith, (omega arith, tt)) (omega arith))

-- ---- the goals
-- `Err(refusal) => put_filled(..)`
pub put_filled-requires : goal.put_filled-requires
put_filled-requires c = omega (arith, refusal-short c.args.direction c.number.result (omega arith) (omega (arith, c.number.type_inv)), c.requires.in_bounds)

-- `put_with_states(..)`
pub put_with_states-requires-clause-states_in_bounds : goal.put_with_states-requires-clause-states_in_bounds
put_with_states-requires-clause-states_in_bounds c =
    omega (arith, label-short c.args.a c.args.desk c.requires.proper.proper c.requires.state c.args.direction c.in-Ok.label (omega arith) (omega arith), c.requires.in_bounds)

-- `put_filled(..)`
pub returns-in-Err : goal.returns-in-Err
unfolding line_of
returns-in-Err c =
    let short = refusal-short c.args.direction c.number.result (omega arith) (omega (arith, c.number.type_inv)) in
    let is = ap (λ (n : ℕ). refusal c.args.direction n) c.number.ensures ∙ sym (ap (λ (x : Result ℕ Refusal). line_of (architecture_of c.args.a) c.args.direction x c.args.desk) c.in-Err.is) in
    rw is at (whole_text {text = refusal c.args.direction c.number.result} c.put_filled.ensures c.put_filled.auto.text (omega (arith, short, c.requires.in_bounds)))

-- `put_with_states(..)`
pub returns-in-Ok : goal.returns-in-Ok
returns-in-Ok c =
    let b = c.args in
    let short = label-short b.a b.desk c.requires.proper.proper c.requires.state b.direction c.in-Ok.label (omega arith) (omega arith) in
    let is = line_is b.a b.desk b.direction c.in-Ok.label ∙ sym (ap (λ (x : Result ℕ Refusal). line_of (architecture_of b.a) b.direction x b.desk) c.in-Ok.is) in
    rw is at (whole_text {text = line b.direction c.in-Ok.label b.a.processes b.desk.states} c.put_with_states.ensures c.put_with_states.auto.text (omega (arith, short, c.requires.in_bounds)))
