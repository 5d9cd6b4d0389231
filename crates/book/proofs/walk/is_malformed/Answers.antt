-- The length is tested first, and then the pairs of a word and a byte; their test is that of the slots.
use Rattle.std.proofs.Common.{List, ℕ, Bool, ◌≡◌, ◌≤◌, zero, suc, true, false, not, ◌&&◌, ◌||◌, [], ◌∷◌, map, take, length, refl, sym, ap, ◌∙◌, arith, rules, tests}
use Rattle.std.specs.List.{list_any, zip}
use Rattle.std.proofs.lemmas.Iterator.{YieldsList-from_slice, YieldsList-from_zip}
use Rattle.std.proofs.lemmas.Iterator.Search.{any_from_yields_List}
use Rattle.model.specs.Book.{well_formed}
use Rattle.layout.specs.Slots.{slot_of, slots_of}
use Rattle.book.proofs.OneSlotMore.{wrong_length, slots_length, well_cons}
use Rattle.book.proofs.walk.is_malformed.Goals as goal

pub returns-then-book-n : goal.returns-then-book-n
returns-then-book-n c =
    let long = slots_length c.args.slots.now c.args.n c.requires in
    sym (ap not (wrong_length (slots_of c.args.slots.now c.args.n) c.args.book.now (λ e. omega arith)))

wrong : ℕ × ℕ → Bool
wrong p = not (well_formed (slot_of p.0 ∷ []) (p.1 ∷ []))

not_and : (a b : Bool) → (not a || not b) ≡ not (a && b)
not_and true b = refl
not_and false b = refl

some_wrong : (n : ℕ) (words book : List ℕ) → n ≤ length words → length book ≡ n → list_any wrong (zip (take n words) book) ≡ not (well_formed (map slot_of (take n words)) book)
unfolding wrong well_formed
some_wrong zero words [] h e = refl
some_wrong zero words (b ∷ book) h e = absurd (omega arith)
some_wrong (suc n) [] book h e = absurd (omega arith)
some_wrong (suc n) (w ∷ words) [] h e = absurd (omega arith)
some_wrong (suc n) (w ∷ words) (b ∷ book) h e =
    ap (λ t. wrong (w, b) || t) (some_wrong n words book (omega arith) (omega arith))
    ∙ not_and _ (well_formed (map slot_of (take n words)) book)
    ∙ ap not (sym (well_cons (slot_of w) (map slot_of (take n words)) b book))

pub returns : goal.returns
unfolding wrong
returns c =
    any_from_yields_List wrong c.any.new.self _ _ c.any.ensures.ran
    (YieldsList-from_zip (YieldsList-from_slice (take c.args.n c.args.slots.now) cc) (YieldsList-from_slice c.args.book.now cc))
    (λ x b q k. search (rules, tests))
    ∙ some_wrong c.args.n c.args.slots.now c.args.book.now c.requires (omega arith)
