-- Reading on behind what was read: a step and then the rest is the reading of the whole.
use mathlib.Core.Path.{◌≡◌, refl, sym, ap, ◌∙◌}
use mathlib.Core.Bool.{Bool, true, false, ◌||◌}
use mathlib.Core.List.{List}
use Prim.Native.Nat.{ℕ, zero, suc, ◌+◌, ◌-◌, ◌<◌, ◌≤◌}
use native.Mathlib.Omega.{arith}
use Rattle.model.specs.declared.Refusal.{Refusal}
use Rattle.model.specs.declared.Refusal.TheVariants.{SheetTooShort, BadProcess, BadTie, BadPrompt}
use Rattle.model.specs.Mask.{if, share}
use Rattle.model.specs.Sheet.{Process, Architecture, outputs_of}
use Rattle.model.specs.Reading.{Reading, refused, proper, refuse◌when◌else◌, ◌then◌, short, process_marked, tie_marked, process_at, process_size, tie_at}
use Rattle.model.specs.Reading.{taken, field_fault, pr_fault, prompt_fault, tie_fault, Front, read_process, read_processes, read_tie, read_ties}
use Rattle.model.proofs.Refusing.{then_refused, then_read}
use Rattle.architecture.specs.Struct.{architecture_of}
use Rattle.sheet.specs.declared.FrontRead.{FrontRead}
use Rattle.sheet.specs.Struct.{front_in, FrontKnown}
use Rattle.sheet.specs.Steps.{process_from, tie_from}
use Rattle.sheet.proofs.OwnedOutputs.{taken_is}

-- a refusal stays, whatever follows
pub refuse_then : {A B : Type 0} (r : Refusal) (t : Bool) (m : Reading A) (f : A → Reading B) → (refuse◌when◌else◌ r t m then f) ≡ refuse◌when◌else◌ r t (m then f)
unfolding refuse◌when◌else◌ ◌then◌
refuse_then r true m f = refl
refuse_then r false m f = refl

-- ---- records of one kind
-- a step at each mark, at most k of them
pub record Repeats (marks : Architecture → ℕ → Bool) (step : Architecture → ℕ → Reading Front) (many : ℕ → Architecture → ℕ → Reading Front) : Type 0 where
  pub last : (a : Architecture) (i : ℕ) → many 0 a i ≡ proper record { architecture = a; end = i }
  pub more : (k : ℕ) (a : Architecture) (i : ℕ)
      → many (suc k) a i ≡ if (marks a i) (step a i then λ f. many k f.architecture f.end) (proper record { architecture = a; end = i })

module _ {marks : Architecture → ℕ → Bool} {step : Architecture → ℕ → Reading Front} {many : ℕ → Architecture → ℕ → Reading Front} (R : Repeats marks step many) where
  pub repeats_none : (a : Architecture) (i k : ℕ) → marks a i ≡ false → many k a i ≡ proper record { architecture = a; end = i }
  unfolding if
  repeats_none a i zero h = R.last a i
  repeats_none a i (suc k) h = R.more k a i ∙ rw h

  pub repeats_turn : (a : Architecture) (i m n : ℕ) → n < m → marks a i ≡ true → many (m - n) a i ≡ (step a i then λ f. many (m - (n + 1)) f.architecture f.end)
  unfolding if
  repeats_turn a i m n l h = let e : m - n ≡ suc (m - (n + 1)) = omega arith in rw e (R.more (m - (n + 1)) a i ∙ rw h)

-- what the loop over them keeps, `count` of them behind the first front: reading on behind f is reading from the first on
pub record RecordsRead (b : List ℕ) (many : ℕ → Architecture → ℕ → Reading Front) (most count : ℕ) (first f : FrontRead) : Type 0 where
  pub known : FrontKnown b f
  pub rest : many (most - count) (architecture_of f.architecture) f.end ≡ many most (architecture_of first.architecture) first.end

module _ {marks : Architecture → ℕ → Bool} {step : Architecture → ℕ → Reading Front} {many : ℕ → Architecture → ℕ → Reading Front} (R : Repeats marks step many)
    {b : List ℕ} {most count : ℕ} {first f : FrontRead} (i : RecordsRead b many most count first f) where
  abbrev here : Architecture
  here = architecture_of f.architecture

  abbrev all : Reading Front
  all = many most (architecture_of first.architecture) first.end

  -- no mark, or enough of them: what was read is all
  pub reads_none : marks here f.end ≡ false → proper (front_in f) ≡ all
  reads_none h = sym (repeats_none R here f.end (most - count) h) ∙ i.rest

  pub reads_enough : most ≤ count → proper (front_in f) ≡ all
  reads_enough h =
      let none : most - count ≡ 0 = omega arith in
      sym (ap (λ (k : ℕ). many k here f.end) none ∙ R.last here f.end) ∙ i.rest

  -- a step at a mark
  abbrev rest : Front → Reading Front
  rest x = many (most - (count + 1)) x.architecture x.end

  module _ (room : count < most) (h : marks here f.end ≡ true) where
    stepped : (step here f.end then rest) ≡ all
    stepped = sym (repeats_turn R here f.end most count room h) ∙ i.rest

    pub reads_refused : (r : Refusal) → refused r ≡ step here f.end → refused r ≡ all
    reads_refused r e = sym (then_refused rest (sym e)) ∙ stepped

    pub reads_on : (g : FrontRead) → proper (front_in g) ≡ step here f.end → FrontKnown b g → RecordsRead b many most (count + 1) first g
    reads_on g e known = record { known = known; rest = sym (then_read rest (sym e)) ∙ stepped }

-- one record of two tests, and then what follows it
tested_then : (r q : Refusal) (t u : Bool) (x : Front) (f : Front → Reading Front)
    → (refuse◌when◌else◌ r t (refuse◌when◌else◌ q u (proper x)) then f) ≡ refuse◌when◌else◌ r t (refuse◌when◌else◌ q u (f x))
unfolding ◌then◌
tested_then r q t u x f = refuse_then r t _ f ∙ ap (refuse◌when◌else◌ r t) (refuse_then q u (proper x) f)

module _ (b : List ℕ) where
  -- processes
  pub processes_repeat : Repeats (λ a i. process_marked b i) (λ a i. process_from a b i) (λ k a i. read_processes k a b i)
  unfolding read_processes read_process process_from
  processes_repeat = record {
    last = λ a i. refl;
    more = λ k a i.
        let next : Front → Reading Front = λ f. read_processes k f.architecture b f.end in
        ap (λ (x : Reading Front). if (process_marked b i) x (proper record { architecture = a; end = i }))
        (sym (refuse_then SheetTooShort (short b i (process_size b i)) _ next
        ∙ ap (refuse◌when◌else◌ SheetTooShort (short b i (process_size b i)))
        (tested_then BadProcess BadPrompt (pr_fault a (process_at b i)) (prompt_fault a.processes (process_at b i)) _ next)));
  }

  -- ties
  pub ties_repeat : Repeats (λ a i. tie_marked a b i) (λ a i. tie_from a b i) (λ k a i. read_ties k a b i)
  unfolding read_ties read_tie tie_from
  ties_repeat = record {
    last = λ a i. refl;
    more = λ k a i.
        ap (λ (x : Reading Front). if (tie_marked a b i) x (proper record { architecture = a; end = i }))
        (sym (tested_then SheetTooShort BadTie (short b i 4) (tie_fault a.processes (tie_at b i)) _ (λ f. read_ties k f.architecture b f.end)));
  }

-- what is wrong with a process: a field, or else an output that the mask of all outputs has
module _ (a : Architecture) (p : Process) where
  pub field_stops : field_fault a.variables a.environment p ≡ true → pr_fault a p ≡ true
  unfolding pr_fault
  field_stops h = ap (λ (t : Bool). t || taken a.processes p) h

  pub mask_decides : field_fault a.variables a.environment p ≡ false → pr_fault a p ≡ share p.outputs (outputs_of a.processes)
  unfolding pr_fault
  mask_decides h = ap (λ (t : Bool). t || taken a.processes p) h ∙ sym (taken_is a.processes p)
