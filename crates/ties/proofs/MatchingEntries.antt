-- The entries of two processes of one shape match, one by one.
use mathlib.Core.Path.{subst}
use mathlib.Core.List.{List, [], ◌∷◌, ◌++◌}
use Prim.Native.Nat.{ℕ, zero, suc, ◌^◌, ◌<◌}
use native.Mathlib.Omega.{arith}
use lib.ListN.{length, get_or, replicate}
use Rattle.model.specs.Mask.{count}
use Rattle.model.specs.Sheet.{Process, SameShape}
use Rattle.model.specs.Compose.{process_length}
use Rattle.model.specs.Choice.{Entry, next, row, times}
use Rattle.model.proofs.Places.{own, own_length}
use Rattle.ties.specs.Unpack.{Matches, masks, states}

-- entries that match, one by one
data AllMatch : List Entry → List Entry → Type 0 where
  none : AllMatch [] []
  more : {e f : Entry} {es fs : List Entry} → Matches e f → AllMatch es fs → AllMatch (e ∷ es) (f ∷ fs)

match_at : {es fs : List Entry} → AllMatch es fs → (j : ℕ) (d : Entry) → j < length es → Matches (get_or es j d) (get_or fs j d)
match_at none j d l = absurd (omega arith)
match_at (more a r) zero d l = a
match_at (more a r) (suc j) d l = match_at r j d (omega arith)

replicate_match : (n : ℕ) {e f : Entry} → Matches e f → AllMatch (replicate n e) (replicate n f)
replicate_match zero a = none
replicate_match (suc n) a = more a (replicate_match n a)

append_match : {es fs es' fs' : List Entry} → AllMatch es fs → AllMatch es' fs' → AllMatch (es ++ es') (fs ++ fs')
append_match none b = b
append_match (more a r) b = more a (append_match r b)

times_match : (n : ℕ) {es fs : List Entry} → AllMatch es fs → AllMatch (times n es) (times n fs)
unfolding times
times_match zero a = none
times_match (suc n) a = append_match a (times_match n a)

row_match : (p q : Process) → SameShape p q → AllMatch (row p) (row q)
unfolding row
row_match p q h =
    more (masks h.outputs)
    (subst (λ (n : ℕ). AllMatch (replicate (2 ^ count p.inputs) (next p.bound)) (replicate (2 ^ n) (next q.bound))) h.inputs
    (replicate_match (2 ^ count p.inputs) (subst (λ (b : ℕ). Matches (next p.bound) (next b)) h.bounds states)))

pub own_match : (p q : Process) (j : ℕ) (d : Entry) → SameShape p q → j < process_length p → Matches (get_or (own p) j d) (get_or (own q) j d)
own_match p q j d h l =
    match_at (subst (λ (b : ℕ). AllMatch (own p) (times b (row q))) h.bounds (times_match p.bound (row_match p q h))) j d (omega (arith, own_length p))
