-- A step of tables with a choice at the front, on a desk of four places: what is answered is the step of the choice.
use mathlib.Core.Path.{◌≡◌, sym, ap, ◌∙◌}
use mathlib.Core.Bool.{Bool, true, false}
use mathlib.Core.List.{List}
use Prim.Native.Nat.{ℕ, ◌^◌, ◌<◌, ◌≤◌}
use native.Mathlib.Omega.{arith}
use lib.ListN.{length, take, length-map}
use lib.Seq.{length-take-le}
use Rattle.model.specs.declared.Refusal.TheVariants.{BadDirectionOrDesk}
use Rattle.model.specs.declared.ProcessState.{ProcessState}
use Rattle.model.specs.declared.Desk.{Desk}
use Rattle.model.specs.Reading.{refuse◌when◌else◌, proper}
use Rattle.model.specs.Compose as compose
use Rattle.model.specs.Choice.{IsTables, chosen}
use Rattle.model.specs.Desk.{AfterStep, numbers, on_desk, showing, desk_fault, step_by}
use Rattle.model.proofs.ComposedNumbers as model
use Rattle.architecture.specs.declared.Architecture.{Architecture}
use Rattle.architecture.specs.Struct.{IsProper, architecture_of, process_in}
use Rattle.architecture.proofs.ProcessesOfArrays.{facts, processes_length}
use Rattle.composition.specs.declared.Composed.{Composed}
use Rattle.composition.specs.Struct.{composed_of, IsState}
use Rattle.composition.proofs.StructIsModelState.{state_in, state_back, step_state}
use Rattle.composition.proofs.ChoiceAtFront.{label_chosen, step_chosen}
use Rattle.desk.proofs.DeskFaults.{faultless}
use Rattle.std.specs.Prelude.{Ok, Err}

module _ (a : Architecture) (z : IsProper a) (tables : List ℕ) (f : IsTables (architecture_of a) (chosen (architecture_of a) tables)) (k : Desk) (long : length k.states ≡ 4) (d : ℕ) where
  -- the composed state on the desk, as a struct
  abbrev t : Composed
  t = record { states = k.states; environment = k.environment }

  -- and as the model has it
  abbrev now_on : compose.Composed
  now_on = composed_of a.processes t

  -- both are one
  on_a_desk : on_desk (architecture_of a) k ≡ now_on
  unfolding on_desk architecture_of
  on_a_desk = ap (λ (n : ℕ). record { environment = k.environment; states = take n (numbers k.states) }) (processes_length a.processes (process_in a))

  -- what is answered, with the test for 14
  abbrev due : Bool → AfterStep
  due b = step_by (architecture_of a) (refuse BadDirectionOrDesk when b else proper (chosen (architecture_of a) tables)) k d

  abbrev answer_due : AfterStep
  answer_due = due (desk_fault (architecture_of a) (on_desk (architecture_of a) k) d)

  -- by the test's outcome
  tested : {b : Bool} → desk_fault (architecture_of a) now_on d ≡ b → due b ≡ answer_due
  tested e = ap due (sym e ∙ ap (λ (u : compose.Composed). desk_fault (architecture_of a) u d) (sym on_a_desk))

  -- 14
  pub refused_due : desk_fault (architecture_of a) now_on d ≡ true → record { answer = Err BadDirectionOrDesk; desk = k } ≡ answer_due
  unfolding step_by refuse◌when◌else◌
  refused_due e = tested e

  module _ (fits : desk_fault (architecture_of a) now_on d ≡ false) where
    -- nothing misfits: a composed state, and a direction
    faults : model.IsState (architecture_of a) now_on × (d < 2 ^ a.environment)
    unfolding architecture_of
    faults =
        let few : a.processes ≤ length (numbers k.states) = omega (arith, (facts z).few_processes, long, length-map k.states (λ (x : ProcessState). x.0)) in
        faultless (architecture_of a) now_on d (length-take-le a.processes (numbers k.states) few ∙ sym (processes_length a.processes (process_in a))) fits

    -- so the struct may be stepped
    pub is_state : IsState a t
    is_state = state_back a t (facts z).few_processes (length-map k.states (λ (x : ProcessState). x.0) ∙ long) faults.0

    module _ (u : Composed) (u-long : length (numbers u.states) ≡ 4) (e : composed_of a.processes u ≡ compose.step (architecture_of a) tables now_on d) where
      -- it is the step of the choice
      steps : composed_of a.processes u ≡ compose.step (architecture_of a) (chosen (architecture_of a) tables) now_on d
      steps = e ∙ step_chosen (architecture_of a) tables f now_on faults.0 d

      -- and leads to a composed state
      pub new_state : IsState a u
      new_state = step_state a z t (chosen (architecture_of a) tables) d f is_state faults.1 u u-long steps

      -- its label and the desk are those due
      pub step_due : record { answer = Ok (compose.label (architecture_of a) tables (composed_of a.processes u)); desk = showing k (composed_of a.processes u) } ≡ answer_due
      unfolding step_by refuse◌when◌else◌
      step_due =
          let c = chosen (architecture_of a) tables in
          ap (λ (l : ℕ). record { answer = Ok l; desk = showing k (composed_of a.processes u) })
          (label_chosen (architecture_of a) tables f (composed_of a.processes u) (state_in a u (facts z).few_processes new_state))
          ∙ ap (λ (v : compose.Composed). record { answer = Ok (compose.label (architecture_of a) c v); desk = showing k v })
          (steps ∙ ap (λ (v : compose.Composed). compose.step (architecture_of a) c v d) (sym on_a_desk))
          ∙ tested fits
