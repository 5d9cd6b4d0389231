-- The count of composed states: with one process more, and how large it can be at most.
use mathlib.Core.Path.{◌≡◌, refl, sym, ap, ◌∙◌}
use mathlib.Core.List.{List, [], ◌∷◌, ◌++◌, Memᴰ}
use Prim.Native.Nat.{ℕ, ◌*◌, ◌^◌, ◌≤◌}
use native.Mathlib.Nat.{mul_comm, mul_assoc, mul-le-mul, pow-le-pow_right, pow-suc, one-mul}
use native.Mathlib.Omega.{arith}
use lib.Pow.{pow_mono}
use lib.ListN.{length}
use Rattle.model.specs.Sheet.{Process, Architecture, composed_states, ProperFront}

pub composed_more : (e : ℕ) (ps : List Process) (p : Process) → composed_states e (ps ++ (p ∷ [])) ≡ composed_states e ps * p.bound
unfolding composed_states
composed_more e [] p = mul_comm p.bound (2 ^ e)
composed_more e (q ∷ ps) p = ap (λ (n : ℕ). q.bound * n) (composed_more e ps p) ∙ sym (mul_assoc q.bound (composed_states e ps) p.bound)

-- each process makes at most 4 of one
fours : (e : ℕ) (ps : List Process) → ((p : Process) → Memᴰ p ps → p.bound ≤ 4) → composed_states e ps ≤ 4 ^ length ps * 2 ^ e
unfolding composed_states
fours e [] few = omega (arith, one-mul (2 ^ e))
fours e (p ∷ ps) few =
    let rest = mul-le-mul (few p (Memᴰ.head refl)) (fours e ps (λ q m. few q (Memᴰ.tail m))) in
    omega (arith, rest, mul_assoc 4 (4 ^ length ps) (2 ^ e), ap (λ (n : ℕ). n * 2 ^ e) (pow-suc 4 (length ps)), ap (λ (n : ℕ). n * 2 ^ e) (mul_comm 4 (4 ^ length ps)))

-- 4 processes of 4 states, and 4 variables of the environment
pub composed_few : (a : Architecture) → ProperFront a → composed_states a.environment a.processes ≤ 4096
composed_few a z =
    let processes = pow-le-pow_right {n = 4} (omega arith) {i = length a.processes} {j = 4} z.few_processes in
    let environment = pow_mono {i = a.environment} {j = 4} z.few_environment in
    omega (arith, fours a.environment a.processes (λ p m. (z.processes_proper p m).few_states), mul-le-mul processes environment)
