-- A book is read as a choice exactly when it is the writing of that choice, and refused exactly as 10 and 11 say.
use mathlib.Core.Path.{◌≡◌, refl, sym, ap, ◌∙◌, subst}
use mathlib.Core.Bool.{Bool, true, false, ◌&&◌, not, true≢false}
use mathlib.Core.Logic.{◌⊎◌, inl, inr, ◌↔◌}
use mathlib.Core.List.{List, [], ◌∷◌, append-nil}
use Prim.Native.Nat.{ℕ}
use lib.ListN.{length, take, drop, take-append-drop}
use borrow.Author.Tests.{not-true, not-false}
use Rattle.theory.proofs.Bools.{bool_cases, and_is}
use Rattle.model.specs.declared.Refusal.{Refusal}
use Rattle.model.specs.declared.Refusal.TheVariants.{BadBook, BadEntry}
use Rattle.model.specs.Sheet.{Architecture}
use Rattle.model.specs.Reading.{Reading, refused, proper, refuse◌when◌else◌}
use Rattle.model.specs.Choice.{Entry, entries, may, Fits, done, also, IsChoice, fits, keeps_ties, chosen}
use Rattle.model.specs.Book.{form, holes, book_of, well_formed, entries_in, book_fault, entry_fault, read_book}
use Rattle.model.specs.Refusals.{Formed, BookRefused, not_formed, no_choice}
use Rattle.model.proofs.ProperSheet.{passes, same_proper}
use Rattle.model.proofs.Refusing.{stop, go, refused_when, refused≢proper}
use Rattle.model.proofs.FitsTest.{fits_length, fits_front, fits_right}
use Rattle.model.proofs.TiesTest.{keeps_ties_is, keeps_chosen}
use Rattle.model.proofs.BookInverse.{filled_well, filled_entries, read_filled, read_length, holes_form}

-- ---- the test of the entries
fits_choice : {es : List Entry} {c : List ℕ} → Fits es c → fits es c ≡ true
fits_choice {es} {c} f = subst (λ (l : List ℕ). fits es l ≡ true) (append-nil c) (fits_front [] f)

-- what is behind the entries is not looked at
fits_taken : (es : List Entry) (c : List ℕ) → fits es c ≡ true → Fits es (take (length es) c)
unfolding fits
fits_taken [] c t = done
fits_taken (e ∷ es) [] t = absurd (true≢false (sym t))
fits_taken (e ∷ es) (v ∷ c) t = let h : (may e v ≡ true) × (fits es c ≡ true) = (and_is (may e v) (fits es c)).0 t in also h.0 (fits_taken es c h.1)

fits_take : (es : List Entry) (c : List ℕ) → fits es c ≡ fits es (take (length es) c)
unfolding fits
fits_take [] c = refl
fits_take (e ∷ es) [] = refl
fits_take (e ∷ es) (v ∷ c) = ap (λ (t : Bool). may e v && t) (fits_take es c)

module _ (a : Architecture) where
  -- 11 is given exactly when the tables do not begin with a choice
  pub chosen_faultless : (tables : List ℕ) → IsChoice a (chosen a tables) → entry_fault a tables ≡ false
  unfolding entry_fault
  chosen_faultless tables choice =
      ap not
      ((and_is (fits (entries a) tables) (keeps_ties a tables)).1 (
        subst (λ (l : List ℕ). fits (entries a) l ≡ true) (take-append-drop (length (entries a)) tables) (fits_front (drop (length (entries a)) tables) choice.tables),
        sym (keeps_chosen a tables) ∙ (keeps_ties_is a (chosen a tables)).1 choice.ties,
      ))

  pub faultless_chosen : (tables : List ℕ) → entry_fault a tables ≡ false → IsChoice a (chosen a tables)
  unfolding entry_fault
  faultless_chosen tables e =
      let h = (and_is (fits (entries a) tables) (keeps_ties a tables)).0 (not-false _ e) in
      record { tables = fits_taken (entries a) tables h.0; ties = (keeps_ties_is a (chosen a tables)).0 (keeps_chosen a tables ∙ h.1) }

  -- what is behind the entries is not looked at
  pub fault_chosen : (tables : List ℕ) → entry_fault a tables ≡ entry_fault a (chosen a tables)
  unfolding entry_fault
  fault_chosen tables = λ j. not (fits_take (entries a) tables j && sym (keeps_chosen a tables) j)

  pub chosen_faulty : (tables : List ℕ) → ¬ IsChoice a (chosen a tables) → entry_fault a tables ≡ true
  chosen_faulty tables n = by (bool_cases (entry_fault a tables))
    where
      by : (entry_fault a tables ≡ true) ⊎ (entry_fault a tables ≡ false) → entry_fault a tables ≡ true
      by (inl e) = e
      by (inr e) = absurd (n (faultless_chosen tables e))

  holes_of : (c : List ℕ) → length c ≡ length (entries a) → length c ≡ holes (form a)
  holes_of c l = l ∙ sym (holes_form a)

  -- ---- the form of a book
  well_formed_lem : (book : List ℕ) → well_formed (form a) book ≡ true → Formed a book (entries_in (form a) book)
  unfolding book_of
  well_formed_lem book w = record { all_entries = read_length (form a) book w ∙ holes_form a; is_book = read_filled (form a) book w }

  formed_well : (book c : List ℕ) → Formed a book c → well_formed (form a) book ≡ true
  unfolding book_of
  formed_well book c f = subst (λ (b : List ℕ). well_formed (form a) b ≡ true) f.is_book (filled_well (form a) c)

  formed_entries : (book c : List ℕ) → Formed a book c → entries_in (form a) book ≡ c
  unfolding book_of
  formed_entries book c f = ap (entries_in (form a)) (sym f.is_book) ∙ filled_entries (form a) c (holes_of c f.all_entries)

  -- of a book that is formed, reading asks only whether its entries are a choice
  formed_read : (book c : List ℕ) → Formed a book c → read_book a book ≡ refuse◌when◌else◌ BadEntry (entry_fault a c) (proper c)
  unfolding read_book book_fault
  formed_read book c f =
      go BadBook _ (ap not (formed_well book c f))
      ∙ ap (λ (l : List ℕ). refuse◌when◌else◌ BadEntry (entry_fault a l) (proper l)) (formed_entries book c f)

  choice_tested : (c : List ℕ) → length c ≡ length (entries a) → (entry_fault a c ≡ false) ↔ IsChoice a c
  unfolding entry_fault
  choice_tested c l = (
    λ e. let h = (and_is (fits (entries a) c) (keeps_ties a c)).0 (not-false _ e) in record { tables = fits_right (entries a) c l h.0; ties = (keeps_ties_is a c).0 h.1 },
    λ choice. ap not ((and_is (fits (entries a) c) (keeps_ties a c)).1 (fits_choice choice.tables, (keeps_ties_is a c).1 choice.ties)),
  )

  -- ---- a book that is read is the writing of its choice
  pub choice_formed : (book c : List ℕ) → IsChoice a c → book_of a c ≡ book → Formed a book c
  choice_formed book c choice e = record { all_entries = fits_length choice.tables; is_book = e }

  pub choice_read : (book c : List ℕ) → IsChoice a c → book_of a c ≡ book → read_book a book ≡ proper c
  choice_read book c choice e = formed_read book c (choice_formed book c choice e) ∙ go BadEntry _ ((choice_tested c (fits_length choice.tables)).1 choice)

  pub read_choice : (book c : List ℕ) → read_book a book ≡ proper c → IsChoice a c × (book_of a c ≡ book)
  unfolding read_book book_fault
  read_choice book c e =
      let h₁ = passes BadBook (book_fault a book) _ e in
      let h₂ = passes BadEntry (entry_fault a (entries_in (form a) book)) _ h₁.1 in
      let f : Formed a book (entries_in (form a) book) = well_formed_lem book (not-false _ h₁.0) in
      subst (λ (l : List ℕ). IsChoice a l × (book_of a l ≡ book)) (same_proper _ c h₂.1) ((choice_tested _ f.all_entries).0 h₂.0, f.is_book)

  -- ---- 10 and 11
  pub book_refused : (book : List ℕ) (r : Refusal) → read_book a book ≡ refused r → BookRefused a book r
  unfolding read_book book_fault
  book_refused book r e = by (refused_when BadBook (book_fault a book) _ r e)
    where
      inner : Reading (List ℕ)
      inner = refuse◌when◌else◌ BadEntry (entry_fault a (entries_in (form a) book)) (proper (entries_in (form a) book))

      entry_by : Formed a book (entries_in (form a) book)
          → ((entry_fault a (entries_in (form a) book) ≡ true) × (BadEntry ≡ r)) ⊎ ((entry_fault a (entries_in (form a) book) ≡ false) × (proper (entries_in (form a) book) ≡ refused r))
          → BookRefused a book r
      entry_by f (inl h) = subst (BookRefused a book) h.1
          (no_choice (entries_in (form a) book) f (λ choice. true≢false (sym h.0 ∙ (choice_tested _ f.all_entries).1 choice)))
      entry_by f (inr h) = absurd (refused≢proper r _ (sym h.1))

      by : ((book_fault a book ≡ true) × (BadBook ≡ r)) ⊎ ((book_fault a book ≡ false) × (inner ≡ refused r)) → BookRefused a book r
      by (inl h) = subst (BookRefused a book) h.1 (not_formed (λ c f. true≢false (sym (formed_well book c f) ∙ not-true _ h.0)))
      by (inr h) = entry_by (well_formed_lem book (not-false _ h.0)) (refused_when BadEntry (entry_fault a (entries_in (form a) book)) _ r h.1)

  pub refused_book : (book : List ℕ) (r : Refusal) → BookRefused a book r → read_book a book ≡ refused r
  unfolding read_book book_fault
  refused_book book r (not_formed n) = stop BadBook _ (ap not (by (bool_cases (well_formed (form a) book))))
    where
      by : (well_formed (form a) book ≡ true) ⊎ (well_formed (form a) book ≡ false) → well_formed (form a) book ≡ false
      by (inl w) = absurd (n _ (well_formed_lem book w))
      by (inr w) = w
  refused_book book r (no_choice c f n) = formed_read book c f ∙ stop BadEntry _ (by (bool_cases (entry_fault a c)))
    where
      by : (entry_fault a c ≡ true) ⊎ (entry_fault a c ≡ false) → entry_fault a c ≡ true
      by (inl e) = e
      by (inr e) = absurd (n ((choice_tested c f.all_entries).0 e))
