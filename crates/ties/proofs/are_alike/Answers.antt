-- The test of the places is that of the two tables.
use Rattle.std.proofs.Common.{ℕ, ◌≡◌, ◌+◌, ◌&&◌, zero, suc, eqb, refl, ap, ◌∙◌, arith, rules, tests}
use Rattle.std.specs.List.{list_all, range_with_len}
use Rattle.std.proofs.lemmas.Iterator.{YieldsList-from_range}
use Rattle.std.proofs.lemmas.Iterator.Search.{all_from_yields_List}
use Rattle.theory.specs.Lists.{tab, same}
use Rattle.ties.specs.Tables.{packed_in}
use Rattle.ties.proofs.are_alike.Goals as goal

-- the places from the k-th on
by_place : (h : ℕ → ℕ) (left right n k : ℕ) → list_all (λ j. eqb (h (left + j)) (h (right + j))) (range_with_len k n) ≡ same (tab h n (left + k)) (tab h n (right + k))
unfolding same tab
by_place h left right zero k = refl
by_place h left right (suc n) k =
    let el : left + (k + 1) ≡ suc (left + k) = omega arith in
    let er : right + (k + 1) ≡ suc (right + k) = omega arith in
    ap (λ b. eqb (h (left + k)) (h (right + k)) && b) (rw (el, er) at (by_place h left right n (k + 1)))

pub returns : goal.returns
returns c =
    let h = packed_in c.args.kinds.now c.args.tables.now in
    let el : c.args.left + 0 ≡ c.args.left = omega arith in
    let er : c.args.right + 0 ≡ c.args.right = omega arith in
    all_from_yields_List (λ j. eqb (h (c.args.left + j)) (h (c.args.right + j))) c.all.new.self _ _ c.all.ensures.ran
    (YieldsList-from_range 0 c.args.n c.args.n (cc) (omega arith))
    (λ x b q k. search (rules, tests))
    ∙ rw (el, er) at (by_place h c.args.left c.args.right c.args.n 0)
