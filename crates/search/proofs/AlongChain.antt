-- A group is settled along its chain: before k, the next entry of the group, all is done, and from k on all is as it was.
use mathlib.Core.Path.{◌≡◌, refl, sym, ◌∙◌}
use mathlib.Core.List.{List}
use Prim.Native.Nat.{ℕ, ◌≤◌, ◌<◌}
use native.Mathlib.Decide.{ℕ_discrete, dec_lt}
use native.Mathlib.Omega.{arith}
use lib.ListN.{length, get_or, set, length-set}
use lib.Seq.{get_or-set_same, get_or-set_other, ext_get_or}
use Rattle.ties.specs.Groups.{set_group, NextInGroup}
use Rattle.ties.proofs.SetGroup.{settled_long, settled_there, settled_elsewhere}

pub record SetTo (f : ℕ → ℕ) (leaders : List ℕ) (l k : ℕ) (old new : List ℕ) : Type 0 where
  pub long : length new ≡ length old
  pub done : (j : ℕ) → j < k → get_or new j 0 ≡ get_or (set_group f leaders l old) j 0
  pub left : (j : ℕ) → k ≤ j → get_or new j 0 ≡ get_or old j 0

module _ (f : ℕ → ℕ) (leaders : List ℕ) (l : ℕ) (old : List ℕ) where
  -- what is not of the group is as it was
  outside : (j : ℕ) → ¬ ((j < length leaders) × (get_or leaders j 0 ≡ l)) → get_or old j 0 ≡ get_or (set_group f leaders l old) j 0
  outside j d = sym (settled_elsewhere f leaders l old j d)

  -- no leader is behind its entry, so that none of the group is before l
  pub set_none : ((k : ℕ) → k < length leaders → get_or leaders k 0 ≤ k) → SetTo f leaders l l old old
  set_none low = record { long = refl; done = λ j h. outside j (λ g. omega (arith, low j g.0, g.1)); left = λ j h. refl }

  pub set_more : (k w : ℕ) (new : List ℕ) → k < length leaders → k < length old → get_or leaders k 0 ≡ l → NextInGroup leaders k w → SetTo f leaders l k old new
      → SetTo f leaders l w old (set new k (f k))
  set_more k w new h small own N S = record {
    long = length-set new k (f k) ∙ S.long;
    done = λ j g. elim (ℕ_discrete j k) [
      | yes e ↦ rw e (get_or-set_same new k (f k) 0 (omega (arith, S.long)) ∙ sym (settled_there f leaders l old k h small own))
      | no ne ↦ get_or-set_other new k j (f k) 0 ne ∙ elim (dec_lt j k) [
        | yes b ↦ S.done j b
        | no b ↦ S.left j (omega arith) ∙ outside j (λ i. N.between j (omega arith) g (i.1 ∙ sym own))
      ]
    ];
    left = λ j g. get_or-set_other new k j (f k) 0 (λ e. omega (arith, N.after)) ∙ S.left j (omega (arith, N.after));
  }

  -- at the end of the chain
  pub set_all : (k : ℕ) (new : List ℕ) → length leaders ≤ k → SetTo f leaders l k old new → new ≡ set_group f leaders l old
  set_all k new end S =
      ext_get_or 0 new (set_group f leaders l old) (S.long ∙ sym (settled_long f leaders l old))
      (λ j h. elim (dec_lt j k) [ yes b ↦ S.done j b | no b ↦ S.left j (omega arith) ∙ outside j (λ i. omega (arith, i.0)) ])
