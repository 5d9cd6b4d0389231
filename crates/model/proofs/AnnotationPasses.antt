-- The annotation of a choice that keeps the sheet is valid, also at the front of a longer buffer, and also where the start's entries are not
-- counted.
use mathlib.Core.Path.{◌≡◌, sym, ◌∙◌}
use mathlib.Core.Logic.{◌↔◌}
use mathlib.Core.List.{List}
use Prim.Native.Nat.{ℕ, ◌*◌, ◌≤◌, ◌<◌}
use native.Mathlib.Omega.{arith}
use lib.ListN.{length, drop, get_or, length-append, get_or-append}
use Rattle.theory.proofs.ListLaws.{one_le}
use Rattle.theory.proofs.AnnotationLaws.{valid_exists}
use Rattle.theory.proofs.ValidLaws.{annotation_test}
use Rattle.model.specs.Mask.{count}
use Rattle.model.specs.Sheet.{Sheet, ProperSheet}
use Rattle.model.specs.Compose.{T}
use Rattle.model.specs.Choice.{IsTables}
use Rattle.model.specs.RunGraph.{vertices, start, rejects, start_rejections, Reachable, Keeps, blank, Valid}
use Rattle.model.specs.Computed.{annotation_from, annotation, valid}
use Rattle.model.specs.Calls.{front}
use Rattle.model.proofs.RunGraphSteps.{start_lt, step_lt, graph_finite}
use Rattle.model.proofs.ComputedTests.{loop_to, loop_from, valid_to, valid_from, valid_exactly}
use Rattle.model.proofs.AnnotationExact.{counted_whole, rejecting_at_most, annotates}

-- ---- only the numbers of the vertices count
pub same_valid : (s : Sheet) (c : List ℕ) → ProperSheet s → IsTables s.architecture c → (f g : ℕ → ℕ) → ((v : ℕ) → v < vertices s → f v ≡ g v) → Valid s c f → Valid s c g
same_valid s c good choice f g same h = record {
  starts = λ e. h.starts (same _ (start_lt s c good) ∙ e);
  spreads = λ {v} {w} l n p e. h.spreads l (λ q. n (sym (same v l) ∙ q)) p (same w (step_lt s c good choice v w p) ∙ e);
  rises = λ {v} {w} l n p. omega (arith, h.rises l (λ q. n (sym (same v l) ∙ q)) p, same v l, same w (step_lt s c good choice v w p));
}

-- ---- counted from 0 or 1 at the start
pub start_rejections_few : (s : Sheet) → start_rejections s ≤ 1
unfolding start_rejections
start_rejections_few s = one_le (rejects s (start s))

module _ (s : Sheet) (c : List ℕ) (k₀ : ℕ) where
  -- at the front of a buffer: as long as is asked, and the same numbers
  pub front_long : (ann : List ℕ) → vertices s ≤ length (front (annotation_from k₀ s c) ann)
  unfolding front
  front_long ann = omega (arith, counted_whole k₀ s c, length-append (annotation_from k₀ s c) (drop (length (annotation_from k₀ s c)) ann))

  pub front_number : (ann : List ℕ) (v : ℕ) → v < vertices s → get_or (annotation_from k₀ s c) v blank ≡ get_or (front (annotation_from k₀ s c) ann) v blank
  unfolding front
  front_number ann v l = sym (get_or-append (annotation_from k₀ s c) (drop (length (annotation_from k₀ s c)) ann) blank v (omega (arith, counted_whole k₀ s c)))

  module _ (good : ProperSheet s) (choice : IsTables s.architecture c) (kept : Keeps s c) (few : k₀ ≤ 1) where
    counted_valid : Valid s c (λ v. get_or (annotation_from k₀ s c) v blank)
    unfolding valid annotation_from
    counted_valid =
        (valid_exactly s c good choice (annotation_from k₀ s c)).0
        ((annotation_test k₀ blank (graph_finite s c good choice) (omega (arith, rejecting_at_most s c good))).1 (λ o. kept (loop_from s c good choice o)))

    pub front_valid : (ann : List ℕ) → Valid s c (λ v. get_or (front (annotation_from k₀ s c) ann) v blank)
    front_valid ann =
        same_valid s c good choice (λ v. get_or (annotation_from k₀ s c) v blank) (λ v. get_or (front (annotation_from k₀ s c) ann) v blank) (front_number ann) counted_valid

-- a choice keeps the sheet exactly where a valid annotation exists, and then one exists whose numbers are at most T times the rejecting states
module _ (s : Sheet) (c : List ℕ) (good : ProperSheet s) (choice : IsTables s.architecture c) where
  pub valid_exactly_where_kept : ((num : ℕ → ℕ) × Valid s c num) ↔ Keeps s c
  valid_exactly_where_kept =
      let paper = valid_exists {blank = blank} (graph_finite s c good choice) (omega (arith, rejecting_at_most s c good)) in (
        λ a o. paper.0 (a.0, valid_to s c good choice a.0 a.1) (loop_to s c good choice o),
        λ kept. let a = paper.1 (λ o. kept (loop_from s c good choice o)) in (a.0, valid_from s c good choice a.0 a.1),
      )

  pub valid_bounded : Keeps s c → (num : ℕ → ℕ) × Valid s c num × ((v : ℕ) → Reachable s c v → num v ≤ T s.architecture * count s.automaton.rejecting)
  unfolding annotation
  valid_bounded kept = (
    λ v. get_or (annotation s c) v blank,
    counted_valid s c (start_rejections s) good choice kept (start_rejections_few s),
    (annotates s c good choice kept).bounded,
  )
