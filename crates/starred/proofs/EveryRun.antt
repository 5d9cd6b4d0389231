-- Each run is one, and what is none is none.
use mathlib.Core.Path.{◌≡◌, refl, sym, subst, ◌∙◌}
use mathlib.Core.Bool.{true, true≢false}
use mathlib.Core.List.{[], ◌∷◌}
use mathlib.Core.Option.{some}
use Prim.Native.Nat.{ℕ, ◌/◌}
use native.Mathlib.Omega.{arith}
use lib.ListN.{get_elem?}
use Rattle.theory.proofs.DepthFirst.{empty}
use Rattle.model.specs.Sheet.{Edge}
use Rattle.model.specs.SheetFile.{sheet_bytes}
use Rattle.model.specs.Compose.{label, step, T}
use Rattle.model.specs.RunGraph.{vertex, automaton_state, composed_state, vertices, start, rejects, met, Taken, Takes, arrived, taking, IsLasso}
use Rattle.model.specs.Calls.{front, annotate_of, step_bytes, AnnotatePath}
use Rattle.starred.specs.Runs.{forced, turning, asks, by, still, RunsPinned}

-- ---- runs
forced_lasso : IsLasso forced still (by 1 1 ∷ by 0 2 ∷ []) (by 0 3 ∷ [])
unfolding vertex automaton_state composed_state vertices start rejects met label step
forced_lasso = record {
  at = 4;
  rejecting = refl;
  reached = taking {u = 3} {k = by 1 1} (record { along = _; numbered = refl; is_met = refl; possible = omega arith; leads = refl })
      (taking {u = 4} {k = by 0 2} (record { along = _; numbered = refl; is_met = refl; possible = omega arith; leads = refl }) arrived);
  back = taking {u = 4} {k = by 0 3} (record { along = _; numbered = refl; is_met = refl; possible = omega arith; leads = refl }) arrived;
  turns = omega arith;
  short = omega arith;
}

-- round in F by direction 1
round : Takes (turning 1) still 1 (by 1 0) 1
unfolding vertex automaton_state composed_state met label step
round = record { along = _; numbered = refl; is_met = refl; possible = omega arith; leads = refl }

turning_lasso : IsLasso (turning 1) still [] (by 1 0 ∷ [])
unfolding vertices start rejects
turning_lasso = record { at = 1; rejecting = refl; reached = arrived; back = taking round arrived; turns = omega arith; short = omega arith }

longest_lasso : IsLasso (turning 1) still (by 1 0 ∷ by 1 0 ∷ []) (by 1 0 ∷ by 1 0 ∷ [])
unfolding vertices start rejects
longest_lasso = record {
  at = 1;
  rejecting = refl;
  reached = taking round (taking round arrived);
  back = taking round (taking round arrived);
  turns = omega arith;
  short = omega arith;
}

-- ---- what is none
-- the edge of a step is the one of its number, and met
is_met : (e : Edge) (k : Taken) {v w : ℕ} → get_elem? forced.automaton.edges k.edge ≡ some e → Takes forced still v k w
    → met e (automaton_state forced.architecture v) (label forced.architecture still (composed_state forced.architecture v)) ≡ true
is_met e k {v} p t =
    let q : some t.along ≡ some e = sym t.numbered ∙ p in
    let z : t.along ≡ e = cc in
    subst (λ (x : Edge). met x (automaton_state forced.architecture v) (label forced.architecture still (composed_state forced.architecture v)) ≡ true) z t.is_met

pub every_run : RunsPinned
unfolding sheet_bytes front annotate_of step_bytes AnnotatePath automaton_state composed_state vertices rejects met label
every_run = record {
  forced_run = record { stem = by 1 1 ∷ by 0 2 ∷ []; cycle = by 0 3 ∷ []; is_lasso = forced_lasso; stem_long = refl; cycle_long = refl; written = refl };
  no_stem = record { stem = []; cycle = by 1 0 ∷ []; is_lasso = turning_lasso; stem_long = refl; cycle_long = refl; written = refl };
  no_loop = refl;
  refused = refl;
  path_is_short = refl;
  path_long = refl;
  short_without_loop = refl;
  path_before_annotation = refl;
  annotation_behind_path = refl;
  edge_not_met = λ w t. true≢false (sym (is_met (asks 0 1) (by 1 0) refl t));
  edge_elsewhere = λ w t. true≢false (sym (is_met (asks 1 2) (by 1 2) refl t));
  no_such_edge = λ w t. let e = t.numbered in let z : ◌≡◌ {A = ℕ} 0 1 = cc in omega arith;
  impossible = λ w t. omega (arith, t.possible);
  as_long_as_may_be = longest_lasso;
  no_turn = λ l. omega (arith, l.turns);
  not_rejecting = λ ks l. true≢false (sym l.rejecting ∙ empty (l.at / T (turning 0).architecture));
  too_long = λ l. omega (arith, l.short);
}
