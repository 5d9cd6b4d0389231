-- Two sheets as one: what is written is read as both, with the machines of either, and tables keep it exactly where they keep both.
use mathlib.Core.Path.{◌≡◌, refl, sym, ap, ◌∙◌, subst}
use mathlib.Core.Logic.{◌⊎◌, inl, inr, ◌↔◌, ⊎_elim}
use mathlib.Core.List.{List, ◌++◌}
use Prim.Native.Nat.{ℕ, ◌≤◌}
use lib.ListN.{length, get_or}
use borrow.Author.Tests.{le-ltb}
use Rattle.model.specs.declared.Refusal.TheVariants.{BufferTooShort, FrontsDiffer, JoinTooLarge}
use Rattle.model.specs.Sheet.{Architecture, Automaton, Sheet, ProperArchitecture, ProperAutomaton, ProperSheet}
use Rattle.model.specs.Reading.{Reading, proper, EN, read_sheet}
use Rattle.model.specs.SheetFile.{front_bytes, automaton_bytes, records_bytes, sheet_bytes, longest_sheet}
use Rattle.model.specs.Join.{join_automata, join_sheets, join_for, join_bytes}
use Rattle.model.specs.Choice.{IsChoice}
use Rattle.model.specs.RunGraph.{RejectingLoop, Keeps}
use Rattle.model.specs.Book.{book_of, read_book}
use Rattle.model.specs.Calls.{front, AfterFind, find_sheet, find_of, gave, read_of, room_for_sheet, wrote_sheet, join_of}
use Rattle.model.specs.Refusals.{Fitting}
use Rattle.model.specs.Demands.{Joins, FirstOfBoth, Joining}
use Rattle.model.proofs.Refusing.{go, then_read}
use Rattle.model.proofs.ProperSheet.{passes, goes_on, same_proper, sheet_proper, sheet_short}
use Rattle.model.proofs.SheetReads.{sheet_reads}
use Rattle.model.proofs.DemandThree.{third_demand}
use Rattle.model.proofs.JoinRefusals.{one_front, fitting}
use Rattle.model.proofs.JoinedAutomata.{joined_proper}
use Rattle.model.proofs.JoinedRuns.{loops_either}
use Rattle.std.specs.Prelude.{Ok}
use Rattle.model.specs.declared.Found.TheVariants.{Nothing}

-- ---- records before AU that are the same bytes are the same
module _ (a b : Architecture) (same : front_bytes a ≡ front_bytes b) where
  same_variables : a.variables ≡ b.variables
  unfolding front_bytes
  same_variables = ap (λ (l : List ℕ). get_or l 2 0) same

  -- written behind them, one automaton is read with either
  pub same_architecture : ProperArchitecture a → (u : Automaton) → ProperSheet record { architecture = b; automaton = u } → a ≡ b
  unfolding sheet_bytes records_bytes
  same_architecture good u proper-b =
      let proper_a : ProperSheet record { architecture = a; automaton = u } = record {
        architecture = good;
        automaton = subst (λ (n : ℕ). ProperAutomaton n u) (sym same_variables) proper-b.automaton;
      } in
      ap (λ (s : Sheet). s.architecture)
      (same_proper _ _ (sym (sheet_reads _ proper_a) ∙ ap (λ (f : List ℕ). read_sheet (f ++ automaton_bytes u ++ EN)) same ∙ sheet_reads _ proper-b))

module _ {first second joined : List ℕ} {s t : Sheet} (joins : Joins first second joined s t) where
  -- ---- what was tested
  record Tested : Type 0 where
    same_front : front_bytes s.architecture ≡ front_bytes t.architecture
    fits : Fitting (join_automata s.automaton t.automaton)
    is : sheet_bytes (join_sheets s t) ≡ joined

  tested : Tested
  unfolding join_bytes join_for
  tested =
      let e : join_for s t ≡ proper joined = sym (then_read _ joins.is_first ∙ then_read _ joins.is_second) ∙ joins.is_joined in
      let h₁ = passes FrontsDiffer _ _ e in
      let h₂ = passes JoinTooLarge _ _ h₁.1 in
      record { same_front = (one_front s.architecture t.architecture).0 h₁.0; fits = (fitting (join_automata s.automaton t.automaton)).0 h₂.0; is = same_proper _ _ h₂.1 }

  -- ---- the machines are one
  proper_s : ProperSheet s
  proper_s = sheet_proper first s joins.is_first

  proper_t : ProperSheet t
  proper_t = sheet_proper second t joins.is_second

  machines : s.architecture ≡ t.architecture
  machines = same_architecture s.architecture t.architecture tested.same_front proper_s.architecture t.automaton proper_t

  -- the second sheet, with the architecture of the first
  abbrev t' : Sheet
  t' = record { architecture = s.architecture; automaton = t.automaton }

  second_is : t' ≡ t
  second_is = λ i. record { architecture = machines i; automaton = t.automaton }

  proper_t' : ProperSheet t'
  proper_t' = subst ProperSheet (sym second_is) proper_t

  proper_joined : ProperSheet (join_sheets s t)
  unfolding join_sheets
  proper_joined = record {
    architecture = proper_s.architecture;
    automaton = joined_proper s.automaton t.automaton proper_s.automaton proper_t'.automaton tested.fits;
  }

  read_joined : read_sheet joined ≡ proper (join_sheets s t)
  read_joined = ap read_sheet (sym tested.is) ∙ sheet_reads (join_sheets s t) proper_joined

  short : length joined ≤ longest_sheet
  short = sheet_short joined (join_sheets s t) read_joined

  -- ---- tables
  either : (c : List ℕ) → IsChoice s.architecture c → RejectingLoop (join_sheets s t) c ↔ (RejectingLoop s c ⊎ RejectingLoop t c)
  unfolding join_sheets
  either c choice =
      subst (λ (x : Sheet). RejectingLoop (join_sheets s t) c ↔ (RejectingLoop s c ⊎ RejectingLoop x c)) second_is
      (loops_either s.architecture c proper_s.architecture choice.tables s.automaton t.automaton proper_s proper_t' proper_joined)

  both : (c : List ℕ) → IsChoice s.architecture c → Keeps (join_sheets s t) c ↔ (Keeps s c × Keeps t c)
  both c choice =
      let e = either c choice in
      (λ keeps. (λ o. keeps (e.1 (inl o)), λ o. keeps (e.1 (inr o))), λ keeps o. ⊎_elim keeps.0 keeps.1 (e.0 o))

  -- a book is read by the architecture alone
  book_read : (sheet book : List ℕ) (x : Sheet) → read_sheet sheet ≡ proper x → read_of sheet book ≡ gave (read_book x.architecture book)
  unfolding read_of
  book_read sheet book x e = ap gave (then_read _ e)

  -- ---- find
  module _ (book ann : List ℕ) (room : find_sheet joined book ann ≡ proper (join_sheets s t)) where
    none_exactly : ((find_of joined book ann).answer ≡ Ok Nothing) ↔ ((c : List ℕ) → IsChoice s.architecture c → RejectingLoop s c ⊎ RejectingLoop t c)
    unfolding join_sheets
    none_exactly =
        let found = (third_demand joined book ann (join_sheets s t) room).none_exactly in
        (λ q c choice. (either c choice).0 (found.0 q c choice), λ h. found.1 (λ c choice. (either c choice).1 (h c choice)))

    otherwise : ¬ ((find_of joined book ann).answer ≡ Ok Nothing) → (c : List ℕ) × FirstOfBoth s t c × ((find_of joined book ann).book ≡ front (book_of s.architecture c) book)
    unfolding join_sheets
    otherwise n =
        let r = (third_demand joined book ann (join_sheets s t) room).otherwise n in
        let c = r.0 in
        let f = r.2 in
        let keeps = (both c f.is_choice).0 f.keeps in
        (c, record { is_choice = f.is_choice; keeps_first = keeps.0; keeps_second = keeps.1; first = λ d choice b. (either d choice).0 (f.first d choice b) }, ap (λ (x : AfterFind). x.book) r.4)

  pub all_joined : Joining first second joined s t joins
  unfolding join_of wrote_sheet room_for_sheet join_sheets
  all_joined = record {
    read_joined = read_joined;
    short = short;
    written = λ sheet l. ap (λ (k : Reading (List ℕ)). wrote_sheet k sheet) (then_read _ joins.is_joined ∙ go BufferTooShort _ (le-ltb _ _ l));
    same_machines = (refl, machines);
    same_books = λ book.
        let own = book_read joined book (join_sheets s t) read_joined in
        (own ∙ sym (book_read first book s joins.is_first), own ∙ ap (λ (a : Architecture). gave (read_book a book)) machines ∙ sym (book_read second book t joins.is_second));
    loops_either = either;
    keeps_both = both;
    none_exactly = none_exactly;
    otherwise = otherwise;
  }

-- wherever bytes are given, they are no more than 433
pub joined_short : (first second joined : List ℕ) → join_bytes first second ≡ proper joined → length joined ≤ longest_sheet
unfolding join_bytes
joined_short first second joined e =
    let h₁ = goes_on (read_sheet first) _ e in
    let h₂ = goes_on (read_sheet second) _ h₁.2 in
    short {first = first} {second = second} {joined = joined} record { is_first = h₁.1; is_second = h₂.1; is_joined = e }
