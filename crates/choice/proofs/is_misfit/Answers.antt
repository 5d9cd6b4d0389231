-- The test of the pairs of a word and a value is that of the entries.
use Rattle.std.proofs.Common.{ℕ, ◌≡◌, ◌≤◌, zero, suc, Bool, true, false, not, ◌&&◌, ◌||◌, List, [], ◌∷◌, map, take, length, refl, ap, ◌∙◌, arith, rules}
use borrow.Author.Tests.{tests}
use Rattle.std.specs.List.{list_any, zip}
use Rattle.std.proofs.lemmas.Iterator.{YieldsList-from_slice, YieldsList-from_zip}
use Rattle.std.proofs.lemmas.Iterator.Search.{any_from_yields_List}
use Rattle.model.specs.Choice.{may, fits}
use Rattle.choice.specs.Kinds.{kind_of}
use Rattle.choice.proofs.is_misfit.Goals as goal

abbrev misfit : ℕ × ℕ → Bool
misfit p = not (may (kind_of p.0) p.1)

not_and : (a b : Bool) → (not a || not b) ≡ not (a && b)
not_and true b = refl
not_and false b = refl

misfits : (n : ℕ) (kinds tables : List ℕ) → n ≤ length kinds → n ≤ length tables
    → list_any misfit (zip (take n kinds) (take n tables)) ≡ not (fits (map kind_of (take n kinds)) tables)
unfolding fits
misfits zero kinds tables h l = refl
misfits (suc n) [] tables h l = absurd (omega arith)
misfits (suc n) (k ∷ kinds) [] h l = absurd (omega arith)
misfits (suc n) (k ∷ kinds) (v ∷ tables) h l =
    ap (λ b. misfit (k, v) || b) (misfits n kinds tables (omega arith) (omega arith)) ∙ not_and (may (kind_of k) v) (fits (map kind_of (take n kinds)) tables)

pub returns : goal.returns
returns c =
    any_from_yields_List misfit c.any.new.self _ _ c.any.ensures.ran
    (YieldsList-from_zip (YieldsList-from_slice (take c.args.n c.args.kinds.now) cc) (YieldsList-from_slice (take c.args.n c.args.tables.now) cc))
    (λ x b q k. search (rules, tests))
    ∙ misfits c.args.n c.args.kinds.now c.args.tables.now c.requires.0 c.requires.1
