-- How long the texts of numbers, of processes and of edges are together, where each has at most so many bytes.
use mathlib.Core.Path.{refl}
use mathlib.Core.Bool.{Bool, true, false}
use mathlib.Core.List.{List, [], ◌∷◌, Memᴰ}
use Prim.Native.Nat.{ℕ, zero, suc, ◌+◌, ◌*◌, ◌^◌, ◌<◌, ◌≤◌}
use native.Mathlib.Nat.{suc-mul}
use native.Mathlib.Omega.{arith}
use lib.Pow.{pow_mono}
use lib.ListN.{length, length-append}
use Rattle.model.specs.Mask.{if}
use Rattle.model.specs.Sheet.{Process, Architecture, Edge, ProperProcess, ProperFront, ProperEdge, ProperEdges}
use Rattle.model.specs.Compose.{process_length}
use Rattle.model.proofs.ProperSheet.{prompts_few}
use Rattle.template.proofs.FilledShort.{longest, filled_short}
use Rattle.text.specs.Rows.{each_from, each_process, edge_text, edges_text}

module _ (one : ℕ → List ℕ) (m limit : ℕ) (short : (x : ℕ) → x < limit → length (one x) ≤ m) where
  pub from_short : (n x : ℕ) → x + n ≤ limit → length (each_from one n x) ≤ n * m
  unfolding each_from
  from_short zero x h = omega arith
  from_short (suc n) x h =
      omega (arith, length-append (one x) (each_from one n (suc x)), short x (omega arith), from_short n (suc x) (omega arith), suc-mul n m)

module _ {P : Process → Type 0} (one : ℕ → Process → ℕ → List ℕ) (m limit : ℕ) (short : (i : ℕ) (p : Process) (at : ℕ) → i < limit → P p → length (one i p at) ≤ m) where
  pub processes_short : (i : ℕ) (ps : List Process) (at : ℕ) → ((p : Process) → Memᴰ p ps → P p) → i + length ps ≤ limit → length (each_process one i ps at) ≤ length ps * m
  unfolding each_process
  processes_short i [] at g h = omega arith
  processes_short i (p ∷ ps) at g h =
      omega (
        arith,
        length-append (one i p at) (each_process one (suc i) ps (at + process_length p)),
        short i p at (omega arith) (g p (Memᴰ.head refl)),
        processes_short (suc i) ps (at + process_length p) (λ q m. g q (Memᴰ.tail m)) (omega arith),
        suc-mul (length ps) m,
      )

-- a process's fields have at most 3 digits each
pub record Small (v e : ℕ) (p : Process) : Type 0 where
  pub own : ProperProcess v e p
  pub prompts : p.prompts ≤ p.inputs

pub all_small : {a : Architecture} → ProperFront a → (p : Process) → Memᴰ p a.processes → Small a.variables a.environment p
all_small f p m = record { own = f.processes_proper p m; prompts = prompts_few f.prompts_proper p m }

-- an edge's states and masks have at most 3 digits; the template of neither kind grows beyond m
module _ {v states : ℕ} (few : v ≤ 8) (known : states ≤ 16) (ed ex : List ℕ) (m : ℕ) (ed-short : longest 2 ed ≤ m) (ex-short : longest 2 ex ≤ m) where
  kind_short : (unless : Bool) → longest 2 (if unless ex ed) ≤ m
  unfolding if
  kind_short true = ex-short
  kind_short false = ed-short

  edge_short : (e : Edge) → ProperEdge v states e → length (edge_text ed ex e) ≤ m
  unfolding edge_text
  edge_short e own =
      let masks : 2 ^ v ≤ 256 = pow_mono {i = v} {j = 8} few in
      let short = filled_short 2 (if e.unless ex ed) (e.from ∷ e.to ∷ e.on ∷ e.off ∷ [])
      (omega (arith, own.from_known), (omega (arith, own.to_known), (omega (arith, own.on_known), (omega (arith, own.off_known), tt)))) in
      omega (arith, short, kind_short e.unless)

  pub edges_short : (es : List Edge) → ProperEdges v states es → length (edges_text ed ex es) ≤ length es * m
  unfolding edges_text
  edges_short [] g = omega arith
  edges_short (e ∷ es) g =
      omega (
        arith,
        length-append (edge_text ed ex e) (edges_text ed ex es),
        edge_short e (g e (Memᴰ.head refl)),
        edges_short es (λ q m. g q (Memᴰ.tail m)),
        suc-mul (length es) m,
      )
