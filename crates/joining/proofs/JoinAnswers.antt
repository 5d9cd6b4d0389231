-- What joining two proper sheets answers and writes, by its tests in order.
use mathlib.Core.Path.{◌≡◌, ap, ◌∙◌}
use mathlib.Core.Bool.{true, false}
use mathlib.Core.List.{List, ◌++◌}
use Prim.Native.Nat.{ℕ, ◌+◌, ◌*◌, ◌<◌, ◌≤◌}
use native.Mathlib.Omega.{arith}
use lib.ListN.{length, length-append}
use borrow.Author.Tests.{lt-ltb, le-ltb}
use Rattle.model.specs.declared.Refusal.{Refusal}
use Rattle.model.specs.declared.Refusal.TheVariants.{BufferTooShort, FrontsDiffer, JoinTooLarge}
use Rattle.model.specs.Sheet.{Sheet}
use Rattle.model.specs.Reading.{Reading, refused, proper, EN, ◌then◌}
use Rattle.model.specs.SheetFile.{front_bytes, states_bytes, edges_bytes, automaton_bytes, records_bytes, sheet_bytes}
use Rattle.model.specs.Join.{join_automata, join_sheets, fronts_differ, is_too_large, join_for}
use Rattle.model.specs.Calls.{front, AfterSheet, room_for_sheet, wrote_sheet}
use Rattle.model.proofs.Refusing.{stop, go, then_refused, then_read}
use Rattle.model.proofs.RecordAt.{edges_long}
use Rattle.std.specs.Prelude.{Ok, Err}

-- how long a sheet is: eight bytes, and six for each edge, behind the records before AU
pub sheet_long : (s : Sheet) → length (sheet_bytes s) ≡ length (front_bytes s.architecture) + 8 + 6 * length s.automaton.edges
unfolding sheet_bytes records_bytes automaton_bytes states_bytes
sheet_long s =
    let f = front_bytes s.architecture in
    let u = s.automaton in
    omega (
      arith,
      length-append (f ++ automaton_bytes u) EN,
      length-append f (automaton_bytes u),
      length-append (states_bytes u) (edges_bytes u.edges),
      edges_long u.edges,
    )

module _ (s t : Sheet) (sheet : List ℕ) where
  -- what is due
  abbrev due : AfterSheet
  due = wrote_sheet (join_for s t then λ new. room_for_sheet new sheet) sheet

  -- a refusal
  left : (r : Refusal) → (join_for s t then λ new. room_for_sheet new sheet) ≡ refused r → due ≡ record { answer = Err r; sheet = sheet }
  unfolding wrote_sheet
  left r e = ap (λ (k : Reading (List ℕ)). wrote_sheet k sheet) e

  pub differing : fronts_differ s.architecture t.architecture ≡ true → due ≡ record { answer = Err FrontsDiffer; sheet = sheet }
  unfolding join_for
  differing e = left FrontsDiffer (then_refused _ (stop FrontsDiffer _ e))

  module _ (same : fronts_differ s.architecture t.architecture ≡ false) where
    pub too_large : is_too_large (join_automata s.automaton t.automaton) ≡ true → due ≡ record { answer = Err JoinTooLarge; sheet = sheet }
    unfolding join_for
    too_large e = left JoinTooLarge (then_refused _ (go FrontsDiffer _ same ∙ stop JoinTooLarge _ e))

    module _ (fits : is_too_large (join_automata s.automaton t.automaton) ≡ false) where
      joins : join_for s t ≡ proper (sheet_bytes (join_sheets s t))
      unfolding join_for
      joins = go FrontsDiffer _ same ∙ go JoinTooLarge _ fits

      pub too_short : length sheet < length (sheet_bytes (join_sheets s t)) → due ≡ record { answer = Err BufferTooShort; sheet = sheet }
      unfolding room_for_sheet
      too_short l = left BufferTooShort (then_read _ joins ∙ stop BufferTooShort _ (lt-ltb _ _ l))

      pub written : length (sheet_bytes (join_sheets s t)) ≤ length sheet
          → due ≡ record { answer = Ok (length (sheet_bytes (join_sheets s t))); sheet = front (sheet_bytes (join_sheets s t)) sheet }
      unfolding room_for_sheet wrote_sheet
      written l = ap (λ (k : Reading (List ℕ)). wrote_sheet k sheet) (then_read _ joins ∙ go BufferTooShort _ (le-ltb _ _ l))
