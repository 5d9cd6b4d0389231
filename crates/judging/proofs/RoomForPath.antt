-- Whether there is room for the path, and what is due of it by the answer: `loop` says that a rejecting loop is reachable, and only then is a run due.
use mathlib.Core.Path.{◌≡◌, refl, sym, ap, subst, ◌∙◌}
use mathlib.Core.Bool.{Bool, true, false}
use mathlib.Core.List.{List}
use Prim.Native.Nat.{ℕ, ◌*◌, ◌<◌, ◌≤◌}
use native.Mathlib.Omega.{arith}
use borrow.Author.Tests.{lt-ltb, le-ltb}
use lib.ListN.{length}
use Rattle.model.specs.declared.Refusal.{Refusal}
use Rattle.model.specs.declared.Refusal.TheVariants.{AnnotationBufferTooShort, PathBufferTooShort}
use Rattle.model.specs.declared.Finding.TheVariants.{Yes, No}
use Rattle.model.specs.Sheet.{Sheet, ProperSheet}
use Rattle.model.specs.Reading.{Reading, refused, proper, refuse◌when◌else◌}
use Rattle.model.specs.Choice.{IsTables}
use Rattle.model.specs.RunGraph.{vertices, RejectingLoop}
use Rattle.model.specs.Computed.{loops}
use Rattle.model.specs.Calls.{annotation_short, path_short, Chosen, room_for, rooms_for, annotated_by, annotated, AfterPath, path_left, WritesLasso, PathBy, PathFor}
use Rattle.judging.specs.declared.Annotated.{Annotated}
use Rattle.judging.specs.declared.Annotated.TheVariants.{Keeps, Loop}
use Rattle.judging.specs.Answers.{verdict_of, after_path}
use Rattle.lasso.specs.declared.Lengths.{Lengths}
use Rattle.model.proofs.ComputedTests.{loops_exactly}
use Rattle.model.proofs.Refusing.{stop, go}
use Rattle.std.specs.Prelude.{Result, Ok, Err}
use Rattle.model.specs.declared.Finding.{Finding}

-- ---- room
module _ (s : Sheet) (c ann path : List ℕ) (size : ℕ) (is : size ≡ vertices s) where
  pub path_is_short : length path < 4 * size → rooms_for s c ann path ≡ refused PathBufferTooShort
  unfolding rooms_for path_short
  path_is_short h = stop _ _ (lt-ltb _ _ (rw is at h))

  pub path_long : 4 * size ≤ length path → rooms_for s c ann path ≡ room_for s c ann
  unfolding rooms_for path_short
  path_long h = go _ _ (le-ltb _ _ (rw is at h))

-- ---- the answer, by the two tests
module _ (s : Sheet) (c ann : List ℕ) where
  abbrev x : Chosen
  x = record { sheet = s; choice = c }

  -- `loop`: the annotation has room, and the test of loops passes
  looped : (short loop : Bool) → loops s c ≡ loop → (annotated (refuse◌when◌else◌ AnnotationBufferTooShort short (proper x)) ann).answer ≡ Ok No → (short ≡ false) × (loops s c ≡ true)
  unfolding refuse◌when◌else◌ annotated annotated_by
  looped true loop l e = let z : ◌≡◌ {A = ℕ} 0 1 = cc in absurd (omega arith)
  looped false true l e = (refl, l)
  looped false false l e =
      let q : (annotated_by x false ann).answer ≡ Ok No = ap (λ (b : Bool). (annotated_by x b ann).answer) (sym l) ∙ e in
      let z : ◌≡◌ {A = ℕ} 0 1 = cc in
      absurd (omega arith)

  module _ (said : (annotated (room_for s c ann) ann).answer ≡ Ok No) where
    both : (annotation_short s ann ≡ false) × (loops s c ≡ true)
    unfolding room_for
    both = looped (annotation_short s ann) (loops s c) refl said

    pub loop_reached : ProperSheet s → IsTables s.architecture c → RejectingLoop s c
    loop_reached good choice = (loops_exactly s c good choice).0 both.1

    pub run_due : {path : List ℕ} {after : AfterPath} → WritesLasso x path after → PathFor (room_for s c ann) path after
    unfolding room_for refuse◌when◌else◌ PathFor PathBy
    run_due w = rw (both.0, both.1) w

  -- any other answer leaves the path
  left_by : (short loop : Bool) (path : List ℕ) → loops s c ≡ loop → ¬ ((annotated (refuse◌when◌else◌ AnnotationBufferTooShort short (proper x)) ann).answer ≡ Ok No)
      → PathFor (refuse◌when◌else◌ AnnotationBufferTooShort short (proper x)) path (path_left path)
  unfolding refuse◌when◌else◌ annotated annotated_by PathFor PathBy
  left_by true loop path l n = refl
  left_by false true path l n = absurd (n (rw l refl))
  left_by false false path l n = rw l refl

  pub path_left_lem : (path : List ℕ) → ¬ ((annotated (room_for s c ann) ann).answer ≡ Ok No) → PathFor (room_for s c ann) path (path_left path)
  unfolding room_for
  path_left_lem path n = left_by (annotation_short s ann) (loops s c) path refl n

-- ---- what is due of a call: the answer, the annotation and the path
pub record Due (k : Reading Chosen) (ann path : List ℕ) (r : Result Annotated Refusal) (ann' path' : List ℕ) : Type 0 where
  pub answer : verdict_of r ≡ (annotated k ann).answer
  pub annotation : ann' ≡ (annotated k ann).annotation
  pub run : PathFor k path (after_path r path')

-- a refusal
pub due_refused : {q : Refusal} {k : Reading Chosen} (ann path : List ℕ) → k ≡ refused q → Due k ann path (Err q) ann path
unfolding annotated PathFor
due_refused {q} {k} ann path e = subst (λ (k : Reading Chosen). Due k ann path (Err q) ann path) (sym e) (record { answer = refl; annotation = refl; run = refl })

module _ (s : Sheet) (c ann path : List ℕ) {ann' : List ℕ} (a : ann' ≡ (annotated (room_for s c ann) ann).annotation) where
  -- a refusal where the tables are annotated
  pub due_err : (q : Refusal) → Err q ≡ (annotated (room_for s c ann) ann).answer → Due (room_for s c ann) ann path (Err q) ann' path
  due_err q e = record { answer = e; annotation = a; run = path_left_lem s c ann path (λ h. let z : Err q ≡ Ok No = e ∙ h in let y : ◌≡◌ {A = ℕ} 0 1 = cc in omega arith) }

  -- an annotation
  pub due_keeps : Ok Yes ≡ (annotated (room_for s c ann) ann).answer → Due (room_for s c ann) ann path (Ok Keeps) ann' path
  due_keeps e = record { answer = e; annotation = a; run = path_left_lem s c ann path (λ h. let z : Ok Yes ≡ Ok No = e ∙ h in let y : ◌≡◌ {A = ℕ} 0 1 = cc in omega arith) }

  -- `loop`
  pub due_run : {path' : List ℕ} (lengths : Lengths) → Ok No ≡ (annotated (room_for s c ann) ann).answer
      → WritesLasso (record { sheet = s; choice = c }) path (record { stem = lengths.stem; cycle = lengths.cycle; path = path' }) → Due (room_for s c ann) ann path (Ok (Loop lengths)) ann' path'
  due_run lengths e w = record { answer = e; annotation = a; run = run_due s c ann (sym e) w }
