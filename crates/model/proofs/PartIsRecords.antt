-- The part of process i is all of its records, and nothing else.
use mathlib.Core.Path.{◌≡◌, refl, sym, ap, ◌∙◌, subst}
use mathlib.Core.List.{List, [], ◌∷◌, ◌++◌, append_assoc}
use Prim.Native.Nat.{ℕ, zero, suc, ◌+◌, ◌*◌, ◌<◌}
use native.Mathlib.Nat.{suc-mul, add-zero, add-suc, suc-add, zero-add}
use native.Mathlib.Omega.{arith}
use lib.ListN.{length, replicate, length-append, length-replicate}
use Rattle.model.specs.Sheet.{Process, Architecture}
use Rattle.model.specs.Reading.{byte, EN}
use Rattle.model.specs.Compose.{row_length}
use Rattle.model.specs.Book.{Slot, due, entry, records, all_records, form, records_length, part_start, part_end}

pub records_length_lem : (i : ℕ) (p : Process) (n x : ℕ) → length (records i p n x) ≡ n * (4 + row_length p)
unfolding records
records_length_lem i p zero x = omega arith
records_length_lem i p (suc n) x =
    omega (
      arith,
      length-append (replicate (row_length p) entry) (records i p n (suc x)),
      length-replicate (row_length p) entry,
      records_length_lem i p n (suc x),
      suc-mul n (4 + row_length p),
    )

-- the form has the records of process i from `part_start` to `part_end`
pub record HasPart (slots : List Slot) (ps : List Process) (number i : ℕ) : Type 0 where
  pub process : Process
  pub before : List Slot
  pub after : List Slot
  pub whole : slots ≡ before ++ records number process process.bound 0 ++ after
  pub starts : length before ≡ part_start ps i
  pub ends : length before + length (records number process process.bound 0) ≡ part_end ps i

all_parts : (j : ℕ) (ps : List Process) (i : ℕ) → i < length ps → HasPart (all_records j ps) ps (j + i) i
unfolding all_records part_start part_end records_length
all_parts j [] i l = absurd (omega arith)
all_parts j (p ∷ ps) zero l = record {
  process = p;
  before = [];
  after = all_records (suc j) ps;
  whole = ap (λ (n : ℕ). records n p p.bound 0 ++ all_records (suc j) ps) (sym (add-zero j));
  starts = refl;
  ends = omega (arith, records_length_lem (j + 0) p p.bound 0);
}
all_parts j (p ∷ ps) (suc i) l = more (all_parts (suc j) ps i (omega arith))
  where
    more : HasPart (all_records (suc j) ps) ps (suc j + i) i → HasPart (records j p p.bound 0 ++ all_records (suc j) ps) (p ∷ ps) (j + suc i) (suc i)
    more h =
        let own : List Slot = records j p p.bound 0 in
        let rest : List Slot = records (suc j + i) h.process h.process.bound 0 in
        subst (λ (n : ℕ). HasPart (records j p p.bound 0 ++ all_records (suc j) ps) (p ∷ ps) n (suc i)) (suc-add j i ∙ sym (add-suc j i)) record {
          process = h.process;
          before = own ++ h.before;
          after = h.after;
          whole = ap (λ (l : List Slot). own ++ l) h.whole ∙ sym (append_assoc own (h.before ++ rest) h.after) ∙ ap (λ (l : List Slot). l ++ h.after) (sym (append_assoc own h.before rest));
          starts = omega (arith, length-append own h.before, records_length_lem j p p.bound 0, h.starts);
          ends = omega (arith, length-append own h.before, records_length_lem j p p.bound 0, h.ends);
        }

pub part_right : (a : Architecture) (i : ℕ) → i < length a.processes → HasPart (form a) a.processes i i
unfolding form
part_right a i l = more (subst (λ (n : ℕ). HasPart (all_records 0 a.processes) a.processes n i) (zero-add i) (all_parts 0 a.processes i l))
  where
    end : List Slot
    end = due (byte EN 0) ∷ due (byte EN 1) ∷ []

    more : HasPart (all_records 0 a.processes) a.processes i i → HasPart (all_records 0 a.processes ++ end) a.processes i i
    more h = record {
      process = h.process;
      before = h.before;
      after = h.after ++ end;
      whole = ap (λ (l : List Slot). l ++ end) h.whole ∙ append_assoc (h.before ++ records i h.process h.process.bound 0) h.after end;
      starts = h.starts;
      ends = h.ends;
    }
