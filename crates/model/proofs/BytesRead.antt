-- A row of bytes from position i on: a whole record there is its mark, its fields and the row behind it; and a mark is told by its two bytes.
use mathlib.Core.Path.{◌≡◌, refl, sym, ◌∙◌}
use mathlib.Core.Bool.{Bool, true, false, ◌||◌, true≢false}
use mathlib.Core.Logic.{◌⊎◌, ⊎_elim}
use mathlib.Core.List.{List, [], ◌∷◌, ◌++◌, append_assoc}
use Prim.Native.Nat.{ℕ, suc, ◌+◌, ◌≤◌, ◌<◌}
use native.Mathlib.Numerals.{add-one}
use native.Mathlib.Omega.{arith}
use lib.Dec.{eqb}
use lib.ListN.{length, drop, length-drop}
use lib.Seq.{drop-cons}
use borrow.Author.Tests.{ltb-true, ltb-false, le-ltb, eqb-true, eq-eqb, not-true}
use Rattle.theory.proofs.Bools.{and_is, or_is}
use Rattle.model.specs.Mask.{if}
use Rattle.model.specs.Reading.{byte, short, marked, process_marked, edge_marked, PR, PM, ED, EX}
use Rattle.model.specs.SheetFile.{process_mark, edge_mark}
use Rattle.model.proofs.ProperSheet.{or-false}

-- w, and then v: what is written so far, and the record behind it
pub row_longer : (w v x y b : List ℕ) → b ≡ w ++ x → x ≡ v ++ y → b ≡ w ++ v ++ y
row_longer w v x y b p q = p ∙ rw (append_assoc w v y, q)

module _ (b : List ℕ) (i : ℕ) where
  -- one byte, j behind i
  pub drop_byte : (j : ℕ) → i + j < length b → drop (i + j) b ≡ byte b (i + j) ∷ drop (i + (j + 1)) b
  drop_byte j l =
      let e : i + (j + 1) ≡ suc (i + j) = omega arith in
      rw e (drop-cons b (i + j) 0 l)

  -- two bytes, a mark
  pub drop_mark : i + 2 ≤ length b → drop i b ≡ byte b i ∷ byte b (i + 1) ∷ drop (i + 2) b
  drop_mark l =
      let e₁ : drop (i + 1) b ≡ byte b (i + 1) ∷ drop (i + 2) b = drop_byte 1 (omega arith) in
      drop-cons b i 0 (omega arith) ∙ rw (← add-one i, e₁)

  -- two fields behind the mark
  pub drop_two : i + 4 ≤ length b → drop (i + 2) b ≡ byte b (i + 2) ∷ byte b (i + 3) ∷ drop (i + 4) b
  drop_two l =
      let e₂ : drop (i + 2) b ≡ byte b (i + 2) ∷ drop (i + 3) b = drop_byte 2 (omega arith) in
      let e₃ : drop (i + 3) b ≡ byte b (i + 3) ∷ drop (i + 4) b = drop_byte 3 (omega arith) in
      cc

  -- three fields behind the mark
  pub drop_three : i + 5 ≤ length b → drop (i + 2) b ≡ byte b (i + 2) ∷ byte b (i + 3) ∷ byte b (i + 4) ∷ drop (i + 5) b
  drop_three l =
      let e : drop (i + 4) b ≡ byte b (i + 4) ∷ drop (i + 5) b = drop_byte 4 (omega arith) in
      let e₂ = drop_two (omega arith) in
      cc

  -- four fields behind the mark
  pub drop_four : i + 6 ≤ length b → drop (i + 2) b ≡ byte b (i + 2) ∷ byte b (i + 3) ∷ byte b (i + 4) ∷ byte b (i + 5) ∷ drop (i + 6) b
  drop_four l =
      let e : drop (i + 5) b ≡ byte b (i + 5) ∷ drop (i + 6) b = drop_byte 5 (omega arith) in
      let e₃ = drop_three (omega arith) in
      cc

  -- where n bytes from i on are too many, fewer than m are left at j, n - m behind i
  pub left_short : (n j m : ℕ) → short b i n ≡ true → i + n ≤ j + m → 0 < m → length (drop j b) < m
  unfolding short
  left_short n j m e l some = omega (arith, length-drop j b, ltb-true (length b) (i + n) e)

  pub is_whole : (n : ℕ) → short b i n ≡ false → i + n ≤ length b
  unfolding short
  is_whole n e = ltb-false _ _ e

  -- the two bytes at i
  abbrev pub mark_at : List ℕ
  mark_at = byte b i ∷ byte b (i + 1) ∷ []

  module _ (x y : ℕ) where
    -- a mark that stands at i
    pub mark_stands : marked b i (x ∷ y ∷ []) ≡ true → drop i b ≡ (x ∷ y ∷ []) ++ drop (i + 2) b
    unfolding marked
    mark_stands e =
        let h₁ = (and_is _ (eqb (byte b (i + 1)) y)).0 e in
        let h₂ = (and_is _ (eqb (byte b i) x)).0 h₁.0 in
        let first : byte b i ≡ x = eqb-true _ _ h₂.1 in
        let second : byte b (i + 1) ≡ y = eqb-true _ _ h₁.1 in
        drop_mark (is_whole 2 (not-true _ h₂.0)) ∙ rw (first, second)

    -- a mark that does not
    pub mark_differs : i + 2 ≤ length b → marked b i (x ∷ y ∷ []) ≡ false → ¬ (mark_at ≡ x ∷ y ∷ [])
    unfolding marked short
    mark_differs l e h =
        let first : byte b i ≡ x = cc in
        let second : byte b (i + 1) ≡ y = cc in
        let whole : short b i 2 ≡ false = le-ltb _ _ l in
        let e₁ : eqb (byte b i) x ≡ true = eq-eqb _ _ first in
        let e₂ : eqb (byte b (i + 1)) y ≡ true = eq-eqb _ _ second in
        let on : marked b i (x ∷ y ∷ []) ≡ true = rw (whole, e₁, e₂) in
        true≢false (sym on ∙ e)

  -- the mark of a process that stands at i, of its kind
  pub process_mark_stands : process_marked b i ≡ true → drop i b ≡ process_mark (marked b i PM) ++ drop (i + 2) b
  unfolding process_marked process_mark if
  process_mark_stands = by (marked b i PM) refl
    where
      by : (prompted : Bool) → marked b i PM ≡ prompted → (marked b i PR || prompted) ≡ true → drop i b ≡ process_mark prompted ++ drop (i + 2) b
      by true m e = mark_stands 0x50 0x4D m
      by false m e = mark_stands 0x50 0x52 (⊎_elim (λ h. h) (λ h. absurd (true≢false (sym h))) ((or_is (marked b i PR) false).0 e))

  -- and one that does not
  pub process_mark_differs : i + 2 ≤ length b → process_marked b i ≡ false → ¬ ((mark_at ≡ PR) ⊎ (mark_at ≡ PM))
  unfolding process_marked
  process_mark_differs l e h = let n = or-false (marked b i PR) (marked b i PM) e in ⊎_elim (mark_differs 0x50 0x52 l n.0) (mark_differs 0x50 0x4D l n.1) h

  -- the mark of an edge that stands at i, of its kind
  pub edge_mark_stands : edge_marked b i ≡ true → drop i b ≡ edge_mark (marked b i EX) ++ drop (i + 2) b
  unfolding edge_marked edge_mark
  edge_mark_stands = by (marked b i EX) refl
    where
      by : (unless : Bool) → marked b i EX ≡ unless → (marked b i ED || unless) ≡ true → drop i b ≡ edge_mark unless ++ drop (i + 2) b
      by true m e = mark_stands 0x45 0x58 m
      by false m e = mark_stands 0x45 0x44 (⊎_elim (λ h. h) (λ h. absurd (true≢false (sym h))) ((or_is (marked b i ED) false).0 e))

  -- and one that does not
  pub edge_mark_differs : i + 2 ≤ length b → edge_marked b i ≡ false → ¬ ((mark_at ≡ ED) ⊎ (mark_at ≡ EX))
  unfolding edge_marked
  edge_mark_differs l e h = let n = or-false (marked b i ED) (marked b i EX) e in ⊎_elim (mark_differs 0x45 0x44 l n.0) (mark_differs 0x45 0x58 l n.1) h
