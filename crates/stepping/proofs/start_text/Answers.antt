-- There is room for the line of the initial composed state, and its label is that of the choice.
use Rattle.std.proofs.Common.{◌≡◌, List, [], ◌∷◌, ℕ, ◌≤◌, length, take, ap, arith, ◌∙◌}
use Rattle.model.specs.Ascii.{ascii}
use Rattle.model.specs.Compose as compose
use Rattle.model.specs.Compose.{label}
use Rattle.model.specs.Choice.{chosen}
use Rattle.architecture.specs.Struct.{architecture_of}
use Rattle.architecture.proofs.ProcessesOfArrays.{facts}
use Rattle.composition.specs.Struct.{numbers, composed_of}
use Rattle.composition.proofs.StructIsModelState.{state_in, chosen_long}
use Rattle.composition.proofs.ChoiceAtFront.{label_chosen}
use Rattle.template.proofs.FilledShort.{longest, whole_text}
use Rattle.replay.specs.Run.{with_states}
use Rattle.stepping.specs.Lines.{start_text}
use Rattle.stepping.proofs.LinesShort.{line_short}
use Rattle.stepping.proofs.start_text.Goals as goal
use Rattle.stepping.proofs.start_text.Goals.{After-label-label}

module _ (c : After-label-label) where
  -- what is written
  abbrev line : List ℕ
  line = with_states (ascii "start label % states") (c.label-label.result ∷ []) (take c.args.a.processes (numbers c.initial-t.result.states))

  -- it is what is due
  line_is : let a = c.args.a in line ≡ start_text (architecture_of a) (chosen (architecture_of a) c.args.tables.now)
  unfolding start_text
  line_is =
      let a = c.args.a in
      let i = c.initial-t in
      let t = composed_of a.processes i.result in
      let own = label_chosen (architecture_of a) c.args.tables.now c.requires.tables t (state_in a i.result (facts c.requires.proper).few_processes i.ensures.state) in
      ap (λ (l : ℕ). with_states (ascii "start label % states") (l ∷ []) t.states) (c.label-label.ensures ∙ own)
      ∙ ap (λ (u : compose.Composed). with_states (ascii "start label % states") (label (architecture_of a) (chosen (architecture_of a) c.args.tables.now) u ∷ []) u.states) i.ensures.result_value

  short : length line ≤ 64
  unfolding longest
  short =
      let a = c.args.a in
      let i = c.initial-t in
      line_short (architecture_of a) (composed_of a.processes i.result) c.requires.proper.proper (state_in a i.result (facts c.requires.proper).few_processes i.ensures.state)
      (ascii "start label % states") (c.label-label.result ∷ []) (omega (arith, c.label-label.type_inv), tt) (omega arith)

pub label-label-requires-clause-a_in_bounds : goal.label-label-requires-clause-a_in_bounds
label-label-requires-clause-a_in_bounds c = chosen_long (architecture_of c.args.a) c.args.tables.now c.requires.tables

pub put_with_states-requires-clause-states_in_bounds : goal.put_with_states-requires-clause-states_in_bounds
put_with_states-requires-clause-states_in_bounds c = omega (arith, short (goal.at.put_with_states-requires-clause-states_in_bounds c).After-label-label)

pub returns : goal.returns
returns c =
    let l = (goal.at.returns c).After-label-label in
    rw (line_is l) at (whole_text {text = line l} c.put_with_states.ensures c.put_with_states.auto.text (omega (arith, short l)))
