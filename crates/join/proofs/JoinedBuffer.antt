-- What join left in a buffer with room for every sheet: a refusal is that of the two sheets, since 8 never comes, and a length is that of both as one, which stands at the front.
use mathlib.Core.Path.{◌≡◌, refl, sym, ap, ◌∙◌}
use mathlib.Core.List.{List}
use Prim.Native.Nat.{ℕ, ◌≤◌}
use native.Mathlib.Omega.{arith}
use lib.ListN.{length, take, drop}
use lib.Seq.{take_at}
use borrow.Author.Tests.{le-ltb}
use Rattle.model.specs.declared.Refusal.{Refusal}
use Rattle.model.specs.declared.Refusal.TheVariants.{BufferTooShort}
use Rattle.model.specs.Reading.{Reading, refused, proper, ◌then◌}
use Rattle.model.specs.SheetFile.{longest_sheet}
use Rattle.model.specs.Join.{join_bytes}
use Rattle.model.specs.Calls.{front, AfterSheet, room_for_sheet, wrote_sheet, join_of}
use Rattle.model.proofs.Refusing.{go}
use Rattle.model.proofs.Joining.{joined_short}
use Rattle.text.specs.Text.{text_or_refused}
use Rattle.join.specs.Printed.{printed}
use Rattle.std.specs.Prelude.{Ok, Err}

module _ (first second sheet : List ℕ) (room : longest_sheet ≤ length sheet) where
  -- nothing is refused for want of room
  roomy : join_of first second sheet ≡ wrote_sheet (join_bytes first second) sheet
  unfolding join_of room_for_sheet ◌then◌
  roomy = ap (λ (k : Reading (List ℕ)). wrote_sheet k sheet) (by (join_bytes first second) refl)
    where
      by : (k : Reading (List ℕ)) → join_bytes first second ≡ k → (k then λ new. room_for_sheet new sheet) ≡ k
      by (refused r) e = refl
      by (proper new) e = go BufferTooShort _ (le-ltb (length sheet) (length new) (omega (arith, joined_short first second new e)))

  pub was_refused : (r : Refusal) → Err r ≡ (join_of first second sheet).answer → join_bytes first second ≡ refused r
  unfolding wrote_sheet
  was_refused r e = by (join_bytes first second) (e ∙ ap (λ (x : AfterSheet). x.answer) roomy)
    where
      by : (k : Reading (List ℕ)) → Err r ≡ (wrote_sheet k sheet).answer → k ≡ refused r
      by (refused q) e = let z : q ≡ r = cc in ap refused z
      by (proper new) e = let z : ◌≡◌ {A = ℕ} 0 1 = cc in absurd (omega arith)

  module _ (n : ℕ) (left : List ℕ) (answer : Ok n ≡ (join_of first second sheet).answer) (is : left ≡ (join_of first second sheet).sheet) where
    -- the sheet that was written
    record Wrote : Type 0 where
      new : List ℕ
      joined : join_bytes first second ≡ proper new
      long : n ≡ length new
      held : left ≡ front new sheet

    wrote : Wrote
    unfolding wrote_sheet
    wrote = by (join_bytes first second) refl (answer ∙ ap (λ (x : AfterSheet). x.answer) roomy) (is ∙ ap (λ (x : AfterSheet). x.sheet) roomy)
      where
        by : (k : Reading (List ℕ)) → join_bytes first second ≡ k → Ok n ≡ (wrote_sheet k sheet).answer → left ≡ (wrote_sheet k sheet).sheet → Wrote
        by (refused q) j e h = let z : ◌≡◌ {A = ℕ} 0 1 = cc in absurd (omega arith)
        by (proper new) j e h = let z : n ≡ length new = cc in record { new = new; joined = j; long = z; held = h }

    pub is_printed : take n left ≡ printed first second
    unfolding printed text_or_refused front
    is_printed =
        let w = wrote in
        ap (take n) w.held ∙ take_at w.new (drop (length w.new) sheet) n (sym w.long) ∙ sym (ap text_or_refused w.joined)

    pub is_short : n ≤ longest_sheet
    is_short = let w = wrote in omega (arith, w.long, joined_short first second w.new w.joined)
