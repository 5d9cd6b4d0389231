-- The edges that leave a state, from edge i on: of those behind it one more where edge i leaves it, as a count.
use mathlib.Core.Path.{◌≡◌, refl, sym, ap, ◌∙◌}
use Prim.Native.Nat.{ℕ, ◌+◌, ◌<◌}
use lib.Dec.{eqb}
use lib.ListN.{length, drop}
use Rattle.theory.specs.Lists.{one}
use Rattle.model.specs.Join.{leaving}
use Rattle.automaton.specs.declared.Automaton.{Automaton}
use Rattle.automaton.specs.Struct.{edge_in, first_in}
use Rattle.joining.proofs.JoinFacts as facts

pub leaving_turn : (q : ℕ) (u : Automaton) (i n : ℕ) → i < u.edges → n ≡ one (eqb (edge_in u i).from q)
    → length (leaving q (drop i (first_in u u.edges))) ≡ n + length (leaving q (drop (i + 1) (first_in u u.edges)))
leaving_turn q u i n l e = facts.leaving_turn q u i (edge_in u i) refl l ∙ ap (λ (m : ℕ). m + length (leaving q (drop (i + 1) (first_in u u.edges)))) (sym e)
