-- The annotation of a choice that keeps the sheet is the one that 01 describes.
use mathlib.Core.Path.{◌≡◌, refl, sym, ap, ◌∙◌}
use mathlib.Core.Bool.{Bool}
use mathlib.Core.List.{List}
use Prim.Native.Nat.{ℕ, zero, suc, ◌+◌, ◌*◌, ◌/◌, ◌%◌, ◌^◌, ◌≤◌, ◌<◌}
use native.Mathlib.Nat.{mul_comm, mul-le-mul_left, mod-lt, suc-mul, pow-suc, div-div-eq-div-mul, div-one, add-mul, add-zero, add-suc, zero-mul}
use native.Mathlib.Omega.{arith}
use lib.Dec.{eqb}
use lib.Arith.{digits_div}
use lib.ListN.{length}
use lib.Count.{ones, ones_step}
use Rattle.theory.specs.Lists.{one}
use Rattle.theory.specs.Lists
use Rattle.theory.specs.Graph.{rejecting_vertices}
use Rattle.theory.proofs.ListLaws.{count_le}
use Rattle.theory.proofs.AnnotationLaws.{annotation_length}
use Rattle.model.specs.Mask.{bit, count}
use Rattle.model.specs.Sheet.{Sheet, ProperSheet}
use Rattle.model.specs.Compose.{T}
use Rattle.model.specs.Choice.{IsTables}
use Rattle.model.specs.RunGraph.{vertices, automaton_state, rejects, start_rejections, Keeps, blank}
use Rattle.model.specs.Computed.{run_graph, annotation_from, annotation}
use Rattle.model.specs.Demands.{Annotates}
use Rattle.model.proofs.ComposedNumbers.{T-pos}
use Rattle.model.proofs.RunGraphSteps.{vertices_few}
use Rattle.model.proofs.ComputedTests.{most_rejections, blank_elsewhere, few_rejections}

-- ---- its length, counted from any number at the start
pub counted_whole : (k₀ : ℕ) (s : Sheet) (c : List ℕ) → length (annotation_from k₀ s c) ≡ vertices s
unfolding annotation_from run_graph
counted_whole k₀ s c = annotation_length (run_graph s c) k₀ blank

pub annotation_whole : (s : Sheet) (c : List ℕ) → length (annotation s c) ≡ vertices s
unfolding annotation
annotation_whole s c = counted_whole (start_rejections s) s c

-- ---- how many vertices reject
one_bit : (r : ℕ) → r < 2 → one (eqb r 1) ≡ r
unfolding one
one_bit zero l = refl
one_bit (suc zero) l = refl
one_bit (suc (suc r)) l = absurd (omega arith)

bit_half : (m n : ℕ) → bit m (suc n) ≡ bit (m / 2) n
unfolding bit
bit_half m n = ap (λ (x : ℕ). eqb (x % 2) 1) (ap (λ (x : ℕ). m / x) (pow-suc 2 n ∙ mul_comm (2 ^ n) 2) ∙ sym (div-div-eq-div-mul m 2 (2 ^ n)))

-- the lowest bit apart
bits_half : (m n : ℕ) → Lists.count (bit m) (suc n) ≡ m % 2 + Lists.count (bit (m / 2)) n
unfolding Lists.count bit
bits_half m zero = omega (arith, one_bit (m / 2 ^ 0 % 2) (mod-lt (m / 2 ^ 0) (omega arith)), ap (λ (x : ℕ). x % 2) (div-one m))
bits_half m (suc n) = omega (arith, bits_half m n, ap one (bit_half m n))

bits_le : (n m : ℕ) → Lists.count (bit m) n ≤ ones m
unfolding Lists.count
bits_le zero m = omega arith
bits_le (suc n) m = omega (arith, bits_half m n, bits_le n (m / 2), ones_step m)

module _ (m t : ℕ) (pos : 0 < t) where
  rejecting : ℕ → Bool
  rejecting v = bit m (v / t)

  -- r of the t vertices of state q
  row : (q r : ℕ) → r ≤ t → Lists.count rejecting (q * t + r) ≡ Lists.count rejecting (q * t) + r * one (bit m q)
  unfolding Lists.count rejecting
  row q zero l = ap (Lists.count rejecting) (add-zero (q * t)) ∙ omega arith
  row q (suc r) l =
      ap (Lists.count rejecting) (add-suc (q * t) r)
      ∙ omega (arith, row q r (omega arith), ap (λ (x : ℕ). one (bit m x)) (digits_div q (lt r l)), suc-mul r (one (bit m q)))
    where
      lt : (r : ℕ) → suc r ≤ t → r < t
      lt r l = l

  -- all vertices of the states below q
  rows : (q : ℕ) → Lists.count rejecting (q * t) ≡ Lists.count (bit m) q * t
  unfolding Lists.count
  rows zero = ap (Lists.count rejecting) (zero-mul t) ∙ omega arith
  rows (suc q) =
      ap (Lists.count rejecting) (suc-mul q t)
      ∙ omega (arith, row q t (omega arith), rows q, add-mul (one (bit m q)) (Lists.count (bit m) q) t, mul_comm t (one (bit m q)))

-- no number exceeds T times the rejecting states
rejecting_few : (s : Sheet) (c : List ℕ) → ProperSheet s → rejecting_vertices (run_graph s c) ≤ T s.architecture * count s.automaton.rejecting
unfolding rejecting_vertices run_graph vertices rejects automaton_state count rejecting
rejecting_few s c good =
    omega (
      arith,
      rows s.automaton.rejecting (T s.architecture) (T-pos s.architecture good.architecture) s.automaton.states,
      mul_comm (Lists.count (bit s.automaton.rejecting) s.automaton.states) (T s.architecture),
      mul-le-mul_left (T s.architecture) (bits_le s.automaton.states s.automaton.rejecting),
    )

-- the numbers stay far below blank
pub rejecting_at_most : (s : Sheet) (c : List ℕ) → ProperSheet s → rejecting_vertices (run_graph s c) ≤ 4096
unfolding rejecting_vertices run_graph
rejecting_at_most s c good = omega (arith, count_le (run_graph s c).rejects (vertices s), vertices_few s good)

pub annotates : (s : Sheet) (c : List ℕ) → ProperSheet s → IsTables s.architecture c → Keeps s c → Annotates s c (annotation s c)
unfolding annotation
annotates s c good choice kept = record {
  whole = annotation_whole s c;
  most = most_rejections s c good choice kept;
  numbered = λ v r. omega (arith, few_rejections s c good choice kept v r, rejecting_at_most s c good);
  others = blank_elsewhere s c good choice kept (start_rejections s);
  bounded = λ v r. omega (arith, few_rejections s c good choice kept v r, rejecting_few s c good);
}
