-- `automata::rejecting` meets its contract: neither shift loses a bit.
use Prim.Native.Nat.{◌+◌, ◌*◌, ◌%◌, ◌^◌}
use mathlib.Core.Path.{◌≡◌}
use native.Mathlib.Omega.{arith}
use lib.Pow.{shl_exact}
use borrow.Author.Rules.{rules}
use Rattle.joining.proofs.JoinFacts.{own, states_few, mask_few}
use Rattle.joining.proofs.automata.rejecting.Statement.{statement}
use Rattle.joining.proofs.automata.rejecting.Tie as tie

-- `let second = 1 + u.states`
add-second : tie.Need-overflow_add-second
add-second c = let b = c.before in omega (arith, states_few b.args.u b.args.w b.requires)

-- `(w.rejecting << second) + u.rejecting * 2`
cast-result : tie.Need-overflow_cast-result
cast-result c = search rules

-- the first shift
shifted : (b : tie.Start) → b.args.w.rejecting * 2 ^ (1 + b.args.u.states) % 65536 ≡ b.args.w.rejecting * 2 ^ (1 + b.args.u.states)
shifted b = shl_exact b.args.w.states (1 + b.args.u.states) 16 (own b.requires.second).rejecting_known (omega (arith, states_few b.args.u b.args.w b.requires))

-- `(w.rejecting << second) + u.rejecting * 2`
shl-result : tie.Need-overflow_shl-result
shl-result c = let b = c.before.before in omega (arith, states_few b.args.u b.args.w b.requires, (own b.requires.second).some_states)

-- `(w.rejecting << second) + u.rejecting * 2`
mul-result : tie.Need-overflow_mul-result
mul-result c = let b = c.before.before.before in omega (arith, mask_few b.args.u b.args.w b.requires)

-- `(w.rejecting << second) + u.rejecting * 2`
add-result : tie.Need-overflow_add-result
add-result c = let b = c.before.before.before in omega (arith, mask_few b.args.u b.args.w b.requires, shifted b)

-- `(w.rejecting << second) + u.rejecting * 2`
returns : tie.Need-returns
returns c = omega (arith, shifted c.before.before.before)

pub rejecting_spec : {M : Type 1} → statement M
rejecting_spec = tie.close (tie.spec add-second cast-result shl-result mul-result add-result returns)
