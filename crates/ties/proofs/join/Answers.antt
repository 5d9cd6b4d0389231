-- The closure gives each process what `instead` does.
use Rattle.std.proofs.Common.{List, ℕ, ◌≡◌, ◌+◌, ◌<◌, ◌≤◌, zero, suc, map, length, get_or, refl, sym, ap₂, ◌∙◌, arith, rules}
use Rattle.std.proofs.lemmas.List.{length-map, get_or-map, ext_get_or}
use Rattle.std.specs.Array.{MapsFrom}
use Rattle.std.specs.Fn.{Called}
use denote.Param.Members.{Mut}
use native.Mathlib.Decide.{ℕ_discrete}
use Rattle.ties.specs.Leaders as lead
use Rattle.ties.proofs.join.Goals as goal

-- calls that leave the closure as it was, and of x answer h x, give h of each number
module _ {F : Type 0} (g : Mut F (ℕ × Unit {0}) ℕ) (h : ℕ → ℕ) (f : F) (answers : (x y : ℕ) (q : F) → Called g f (x, tt) y q → (q ≡ f) × (y ≡ h x)) (xs ys : List ℕ) where
  each : (n i : ℕ) (p : F) → p ≡ f → MapsFrom g p xs ys i n → (k : ℕ) → i ≤ k → k < i + n → get_or ys k 0 ≡ h (get_or xs k 0)
  each zero i p e m k l b = absurd (omega arith)
  each (suc n) i p e m k l b =
      let here = answers m.1 m.2 m.0 (rw e at m.5) in
      elim (ℕ_discrete k i) [
        | yes same ↦ cc (same, m.3.1 0, m.4.1 0, here.1)
        | no other ↦ each n (i + 1) m.0 here.0 m.6 k (omega arith) (omega arith)
      ]

pub returns : goal.returns
unfolding lead.join
returns c =
    let old = c.args.old in
    let new = c.map.result in
    let f : ℕ → ℕ = lead.instead c.max-high.result c.min-low.result in
    let long : length old ≡ 4 = omega arith in
    let at = each _ f _ (λ x y q k. search rules) old new 4 0 _ refl c.map.ensures.items.each in
    let is : new ≡ map f old =
    ext_get_or 0 new (map f old) (c.map.ensures.items.long ∙ sym (length-map old f ∙ long))
    (λ k h. at k (omega arith) (omega (arith, c.map.ensures.items.long)) ∙ sym (get_or-map f old k 0 0 (omega (arith, c.map.ensures.items.long)))) in
    is ∙ ap₂ (λ x y. map (lead.instead x y) old) c.max-high.ensures c.min-low.ensures
