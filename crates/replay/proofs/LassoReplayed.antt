-- The lasso that annotate writes can be replayed, and the replay is right: where `round` stands the run has come to the lasso's vertex, and at the end it is
-- back there.
use mathlib.Core.Path.{◌≡◌, refl, sym, ap, ap₂, ◌∙◌}
use mathlib.Core.List.{List, [], ◌∷◌, ◌++◌, append_assoc}
use mathlib.Core.Option.{some}
use Prim.Native.Nat.{ℕ, zero, suc, ◌*◌, ◌<◌}
use native.Mathlib.Nat.{mul-add-mod_self_right, mod-eq_of_lt}
use native.Mathlib.Omega.{arith}
use lib.ListN.{length, get_or, drop, get_elem?, length-append}
use lib.Seq.{take_at, drop_at}
use Rattle.model.specs.Sheet.{Edge, Sheet, ProperSheet}
use Rattle.model.specs.Compose.{Composed, T, number, composed, step}
use Rattle.model.specs.Choice.{IsTables}
use Rattle.model.specs.RunGraph.{vertex, composed_state, start, Taken, Takes, Follows, arrived, taking}
use Rattle.model.specs.Calls.{front, Chosen, step_bytes, AfterPath, WritesLasso}
use Rattle.model.proofs.ComposedNumbers.{IsState, number_lt, composed_number}
use Rattle.model.proofs.LassoLaws.{bytes_length, bytes_append}
use Rattle.replay.specs.Run.{Vertex, start_of, nowhere, onward, after, stem_of, cycle_of, Possible, none, also, HasRun}
use Rattle.replay.proofs.RunShort.{InRun, start_in, onward_in, after_in}

-- ---- what has a number in a list
numbered_below : {A : Type 0} (xs : List A) (n : ℕ) {x : A} → get_elem? xs n ≡ some x → n < length xs
numbered_below [] n e = let z : ◌≡◌ {A = ℕ} 0 1 = cc in absurd (omega arith)
numbered_below (y ∷ xs) zero e = omega arith
numbered_below (y ∷ xs) (suc n) e = omega (arith, numbered_below xs n e)

numbered_at : {A : Type 0} (xs : List A) (n : ℕ) (d : A) {x : A} → get_elem? xs n ≡ some x → get_or xs n d ≡ x
numbered_at [] n d e = let z : ◌≡◌ {A = ℕ} 0 1 = cc in absurd (omega arith)
numbered_at (y ∷ xs) zero d e = cc
numbered_at (y ∷ xs) (suc n) d e = numbered_at xs n d e

-- ---- steps that are followed
-- they are possible
follows_possible : {s : Sheet} {c : List ℕ} {v w : ℕ} {ks : List Taken} → Follows s c v ks w → Possible s (step_bytes ks)
unfolding step_bytes
follows_possible arrived = none
follows_possible {s} (taking {k = k} t f) = also t.possible (numbered_below s.automaton.edges k.edge t.numbered) (follows_possible f)

-- the number of a vertex
abbrev pub number_of : Sheet → Vertex → ℕ
number_of s v = vertex s.architecture v.automaton v.composed

module _ (s : Sheet) (good : ProperSheet s) (c : List ℕ) (choice : IsTables s.architecture c) where
  -- and back from the number
  composed_is : (q : ℕ) (t : Composed) → IsState s.architecture t → composed_state s.architecture (vertex s.architecture q t) ≡ t
  unfolding composed_state vertex
  composed_is q t w =
      let a = s.architecture in
      ap (composed a) (mul-add-mod_self_right q (T a) (number a t) ∙ mod-eq_of_lt (number_lt a w)) ∙ composed_number a t w

  takes_onward : (v : Vertex) {n w : ℕ} {k : Taken} → n ≡ number_of s v → InRun s v → Takes s c n k w → w ≡ number_of s (onward s c v k.direction k.edge)
  unfolding onward
  takes_onward v {k = k} e i t =
      t.leads
      ∙ ap₂ (λ (x : Edge) (y : Composed). vertex s.architecture x.to (step s.architecture c y k.direction))
      (sym (numbered_at s.automaton.edges k.edge nowhere t.numbered))
      (ap (composed_state s.architecture) e ∙ composed_is v.automaton v.composed i.composed_in)

  -- their bytes lead to the same vertex
  follows_after : (v : Vertex) {n w : ℕ} {ks : List Taken} → n ≡ number_of s v → InRun s v → Follows s c n ks w → w ≡ number_of s (after s c v (step_bytes ks))
  unfolding after step_bytes
  follows_after v e i arrived = e
  follows_after v e i (taking {k = k} t f) =
      follows_after (onward s c v k.direction k.edge) (takes_onward v e i t)
      (onward_in s good c choice v k.direction k.edge i t.possible (numbered_below s.automaton.edges k.edge t.numbered)) f

-- ---- the lasso in the path
module _ (x : Chosen) (path : List ℕ) (p : AfterPath) (w : WritesLasso x path p) where
  stem_length : length (step_bytes w.stem) ≡ 2 * p.stem
  stem_length = omega (arith, bytes_length w.stem, w.stem_long)

  cycle_length : length (step_bytes w.cycle) ≡ 2 * p.cycle
  cycle_length = omega (arith, bytes_length w.cycle, w.cycle_long)

  rest : List ℕ
  rest = drop (length (step_bytes (w.stem ++ w.cycle))) path

  path_is : p.path ≡ step_bytes w.stem ++ (step_bytes w.cycle ++ rest)
  unfolding front rest
  path_is = w.written ∙ ap (λ (l : List ℕ). l ++ rest) (bytes_append w.stem w.cycle) ∙ append_assoc (step_bytes w.stem) (step_bytes w.cycle) rest

  stem_is : stem_of p.stem p.path ≡ step_bytes w.stem
  stem_is = rw path_is (take_at (step_bytes w.stem) (step_bytes w.cycle ++ rest) (2 * p.stem) stem_length)

  cycle_is : cycle_of p.stem p.cycle p.path ≡ step_bytes w.cycle
  cycle_is =
      rw (path_is, drop_at (step_bytes w.stem) (step_bytes w.cycle ++ rest) (2 * p.stem) stem_length)
      (take_at (step_bytes w.cycle) rest (2 * p.cycle) cycle_length)

  pub lasso_run : HasRun x.sheet p.stem p.cycle p.path
  lasso_run = record {
    long = omega (
      arith,
      ap length path_is,
      length-append (step_bytes w.stem) (step_bytes w.cycle ++ rest),
      length-append (step_bytes w.cycle) rest,
      stem_length,
      cycle_length,
    );
    stem_possible = rw stem_is (follows_possible w.is_lasso.reached);
    cycle_possible = rw cycle_is (follows_possible w.is_lasso.back);
  }

  -- ---- the replay is right
  module _ (good : ProperSheet x.sheet) (choice : IsTables x.sheet.architecture x.choice) where
    -- the vertex that is shown before `round`
    abbrev pub turn : Vertex
    turn = after x.sheet x.choice (start_of x.sheet) (stem_of p.stem p.path)

    pub stem_replayed : number_of x.sheet turn ≡ w.is_lasso.at
    unfolding start start_of
    stem_replayed = rw stem_is (sym (follows_after x.sheet good x.choice choice (start_of x.sheet) refl (start_in x.sheet good x.choice choice) w.is_lasso.reached))

    -- the vertex that is shown last
    pub cycle_replayed : number_of x.sheet (after x.sheet x.choice turn (cycle_of p.stem p.cycle p.path)) ≡ w.is_lasso.at
    cycle_replayed =
        let s = x.sheet in
        let c = x.choice in
        let there = after_in s good c choice (start_of s) lasso_run.stem_possible (start_in s good c choice) in
        rw cycle_is (sym (follows_after s good c choice turn (sym stem_replayed) there w.is_lasso.back))
