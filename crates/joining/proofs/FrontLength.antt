-- How many bytes the records before AU have: five, five or six for each process by its kind, and four for each tie. A sheet begins with them.
use mathlib.Core.Path.{◌≡◌, refl, sym, ap, ◌∙◌}
use mathlib.Core.Bool.{Bool, true, false}
use mathlib.Core.List.{List, [], ◌∷◌, ◌++◌, append_assoc}
use Prim.Native.Nat.{ℕ, ◌+◌, ◌*◌, ◌≤◌}
use native.Mathlib.Numerals.{add-one}
use native.Mathlib.Omega.{arith}
use lib.ListN.{length, take, length-append}
use lib.Seq.{take_at}
use Rattle.model.specs.Mask.{if}
use Rattle.model.specs.Sheet as model
use Rattle.model.specs.Sheet.{Tie}
use Rattle.model.specs.Reading.{EN}
use Rattle.model.specs.SheetFile.{process_bytes, processes_bytes, ties_bytes, tie_bytes, front_bytes, automaton_bytes, records_bytes, sheet_bytes}
use Rattle.model.proofs.RecordAt.{process_long}
use Rattle.model.proofs.RecordMore.{processes_more}
use Rattle.architecture.specs.declared.Architecture.{Architecture}
use Rattle.architecture.specs.Struct.{process_in, processes_of, first_in, architecture_of}
use Rattle.architecture.proofs.ProcessesOfArrays.{ties_count}

-- one process more
pub process_turn : (a : Architecture) (i n : ℕ) → n ≡ if (process_in a i).prompted 6 5
    → length (processes_bytes (first_in a (i + 1))) ≡ length (processes_bytes (first_in a i)) + n
unfolding processes_of
process_turn a i n e =
    rw (add-one i) (
    ap length (processes_more (first_in a i) (process_in a i))
    ∙ length-append (processes_bytes (first_in a i)) (process_bytes (process_in a i))
    ∙ omega (arith, process_long (process_in a i), e)
    )

-- it is short
pub process_few : (prompted : Bool) → if prompted 6 5 ≤ 6
unfolding if
process_few true = omega arith
process_few false = omega arith

ties_long : (ts : List Tie) → length (ties_bytes ts) ≡ 4 * length ts
unfolding ties_bytes tie_bytes
ties_long [] = refl
ties_long (t ∷ ts) = omega (arith, length-append (tie_bytes t) (ties_bytes ts), ties_long ts)

front_long : (a : model.Architecture) → length (front_bytes a) ≡ 5 + length (processes_bytes a.processes) + 4 * length a.ties
unfolding front_bytes
front_long a = omega (arith, length-append (0x41 ∷ 0x52 ∷ a.variables ∷ a.environment ∷ a.root ∷ processes_bytes a.processes) (ties_bytes a.ties), ties_long a.ties)

-- all of them
pub front_whole : (a : Architecture) → length (front_bytes (architecture_of a)) ≡ 5 + 4 * a.ties + length (processes_bytes (first_in a a.processes))
unfolding architecture_of
front_whole a = omega (arith, front_long (architecture_of a), ties_count a)

-- ---- the bytes of a sheet begin with them
module _ (s : model.Sheet) (b : List ℕ) (n : ℕ) (is : b ≡ sheet_bytes s) (long : n ≡ length (front_bytes s.architecture)) where
  pub front_taken : take n b ≡ front_bytes s.architecture
  unfolding sheet_bytes records_bytes
  front_taken =
      let front = front_bytes s.architecture in
      ap (take n) (is ∙ append_assoc front (automaton_bytes s.automaton) EN) ∙ take_at front (automaton_bytes s.automaton ++ EN) n (sym long)

  pub front_fits : n ≡ length (take n b)
  front_fits = long ∙ ap length (sym front_taken)
