-- The test for 14, one part after the other; where it fails, the desk holds a composed state, and the direction is one.
use mathlib.Core.Path.{◌≡◌}
use mathlib.Core.Bool.{true, false}
use mathlib.Core.List.{List, [], ◌∷◌}
use Prim.Native.Nat.{ℕ, ◌^◌, ◌<◌, ◌≤◌}
use native.Mathlib.Omega.{arith}
use lib.ListN.{length}
use borrow.Author.Tests.{leb-false}
use Rattle.model.specs.Sheet.{Process, Architecture}
use Rattle.model.specs.Compose.{Composed}
use Rattle.model.specs.Desk.{too_high, desk_fault}
use Rattle.model.proofs.ProperSheet.{or-false, below_bit}
use Rattle.model.proofs.FaultsExact.{not_beyond, is_beyond}
use Rattle.model.proofs.ComposedNumbers.{InBounds, nobody, also_in, IsState}

module _ (a : Architecture) (t : Composed) (d : ℕ) where
  -- the direction
  pub direction_out : 2 ^ a.environment ≤ d → true ≡ desk_fault a t d
  unfolding desk_fault
  direction_out l = rw (is_beyond d a.environment l)

  module _ (in-direction : d < 2 ^ a.environment) where
    -- the mask
    pub mask_out : 2 ^ a.environment ≤ t.environment → true ≡ desk_fault a t d
    unfolding desk_fault
    mask_out l = rw (not_beyond d a.environment in-direction, is_beyond t.environment a.environment l)

    -- the states
    pub masks_in : t.environment < 2 ^ a.environment → too_high a.processes t.states ≡ desk_fault a t d
    unfolding desk_fault
    masks_in l = rw (not_beyond d a.environment in-direction, not_beyond t.environment a.environment l)

-- no state is too high
all_in : (ps : List Process) (xs : List ℕ) → length xs ≡ length ps → too_high ps xs ≡ false → InBounds ps xs
unfolding too_high
all_in [] [] e f = nobody
all_in [] (x ∷ xs) e f = absurd (omega arith)
all_in (p ∷ ps) [] e f = absurd (omega arith)
all_in (p ∷ ps) (x ∷ xs) e f = let h = or-false _ _ f in also_in (leb-false _ _ h.0) (all_in ps xs (omega arith) h.1)

-- nothing misfits
pub faultless : (a : Architecture) (t : Composed) (d : ℕ) → length t.states ≡ length a.processes → desk_fault a t d ≡ false → IsState a t × (d < 2 ^ a.environment)
unfolding desk_fault
faultless a t d e f =
    let h = or-false _ _ f in
    let g = or-false _ _ h.1 in
    (record { environment_in = below_bit _ _ g.0; states_in = all_in a.processes t.states e g.1 }, below_bit d a.environment h.0)
