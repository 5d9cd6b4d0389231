-- Where the sheet is refused with 2 to 7 or 15, the bytes up to the position that is told end with the first faulty record. A front that is faulty begins with a
-- faulty record; no shorter front is faulty, so that this record is all of it; and it decides the refusal, whatever follows.
use mathlib.Core.Path.{◌≡◌, refl, sym, ap, ◌∙◌, subst}
use mathlib.Core.Bool.{true, true≢false}
use mathlib.Core.List.{List, [], ◌++◌, append-nil}
use Prim.Native.Nat.{ℕ, ◌≤◌, ◌<◌}
use native.Mathlib.Omega.{arith}
use native.Mathlib.Decide.{dec_lt}
use lib.ListN.{length, take, drop, length-append, length-take, take-append-drop}
use lib.Seq.{take_all, take_at, take-take}
use Rattle.model.specs.declared.Refusal.{Refusal}
use Rattle.model.specs.declared.Refusal.TheVariants.{SheetTooShort}
use Rattle.model.specs.SheetFile.{Bytes, Faulty, BeginsFaulty}
use Rattle.model.specs.Calls.{check_of}
use Rattle.model.proofs.Damage.{bytes_take}
use Rattle.model.proofs.DemandOne.{first_demand}
use Rattle.cause.specs.Fault.{faulty, FaultEnds}
use Rattle.std.specs.Prelude.{Result, Ok, Err, ⊤}

-- a refusal that is not the first
other : (r : Refusal) → faulty (Err r) ≡ true → ¬ (r ≡ SheetTooShort)
unfolding faulty
other r t e = true≢false (sym t ∙ ap (λ (x : Refusal). faulty (Err x)) e)

-- a row that begins with a faulty record is refused so
begun : (p rest : List ℕ) (r : Refusal) → Faulty p r → check_of (p ++ rest) ≡ check_of p
begun p rest r f = first_demand.rest_is_ignored p rest [] r f ∙ ap check_of (append-nil p)

pub first_fault : (sheet : List ℕ) (r : Refusal) (n : ℕ) → Bytes sheet → faulty (Err r) ≡ true → check_of sheet ≡ Err r
    → FaultEnds sheet n → Faulty (take n sheet) r
unfolding faulty
first_fault sheet r n bytes t e f = by (check_of (take n sheet)) refl (is_faulty (dec_lt n (length sheet)))
  where
    -- the front is faulty: all of the sheet is, where it is not shorter
    is_faulty : Dec (n < length sheet) → faulty (check_of (take n sheet)) ≡ true
    is_faulty (yes h) = f.ends h
    is_faulty (no h) = ap (λ (l : List ℕ). faulty (check_of l)) (take_all n sheet (omega arith)) ∙ ap faulty e ∙ t

    -- no shorter front is, so that the faulty record is all of it
    all : (r' : Refusal) → check_of (take n sheet) ≡ Err r' → faulty (Err r') ≡ true → (b : BeginsFaulty (take n sheet) r') → b.faulty ≡ take n sheet
    all r' e' t' b = whole (dec_lt (length b.faulty) n)
      where
        long : length b.faulty ≤ n
        long = omega (arith, ap length b.whole, length-append b.faulty b.rest, length-take n sheet)

        own : take (length b.faulty) (take n sheet) ≡ b.faulty
        own = ap (take (length b.faulty)) b.whole ∙ take_at b.faulty b.rest (length b.faulty) refl

        shorter : take (length b.faulty) sheet ≡ b.faulty
        shorter = sym (take-take (length b.faulty) n sheet long) ∙ own

        refused_so : check_of b.faulty ≡ Err r'
        refused_so = sym (begun b.faulty b.rest r' b.fault) ∙ ap check_of (sym b.whole) ∙ e'

        whole : Dec (length b.faulty < n) → b.faulty ≡ take n sheet
        whole (yes h) = absurd (true≢false (sym t' ∙ ap faulty (sym refused_so) ∙ ap (λ (l : List ℕ). faulty (check_of l)) (sym shorter) ∙ f.before (length b.faulty) h))
        whole (no h) = sym own ∙ take_all (length b.faulty) (take n sheet) (omega (arith, length-take n sheet))

    by : (k : Result ⊤ Refusal) → check_of (take n sheet) ≡ k → faulty (check_of (take n sheet)) ≡ true → Faulty (take n sheet) r
    by (Ok done) e' t' = absurd (true≢false (sym t' ∙ ap faulty e'))
    by (Err r') e' t' =
        let u : faulty (Err r') ≡ true = sym (ap faulty e') ∙ t' in
        let b : BeginsFaulty (take n sheet) r' = (first_demand.fault_exactly (take n sheet) r' (bytes_take sheet n bytes) (other r' u)).0 e' in
        let is : Faulty (take n sheet) r' = subst (λ (l : List ℕ). Faulty l r') (all r' e' u b) b.fault in
        let same : Err r' ≡ Err r = sym e' ∙ sym (begun (take n sheet) (drop n sheet) r' is) ∙ ap check_of (take-append-drop n sheet) ∙ e in
        let q : r' ≡ r = cc in
        subst (Faulty (take n sheet)) q is
