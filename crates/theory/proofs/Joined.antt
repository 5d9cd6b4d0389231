-- A graph whose start has copies of the steps of two others' starts, and that has the two side by side otherwise: its paths of one step or more are theirs,
-- with the same entries into rejecting vertices, and so it has a rejecting loop exactly where one of them has.
use mathlib.Core.Path.{◌≡◌, sym, ap, ◌∙◌, subst}
use mathlib.Core.Bool.{Bool}
use mathlib.Core.Logic.{◌⊎◌, inl, inr, ⊎_elim, ◌↔◌}
use Prim.Native.Nat.{ℕ, ◌+◌, ◌<◌}
use Rattle.theory.specs.Lists.{one}
use Rattle.theory.specs.Graph.{Graph, Step, Finite, Reaches, stop, go, Reaches⁺, last, more, Reachable, RejectingLoop}
use Rattle.theory.proofs.Paths.{reaches_append, reaches⁺_reaches, reaches⁺_first}

-- ---- paths of one step or more
-- Onward g v k: such a path from the start to v, with k entries into rejecting vertices from its first step on
pub data Onward (g : Graph) : ℕ → ℕ → Type 0 where
  once : {v : ℕ} → Step g g.start v → Onward g v (one (g.rejects v))
  then : {v w k : ℕ} → Onward g v k → Step g v w → Onward g w (k + one (g.rejects w))

pub onward_inside : {g : Graph} {v k : ℕ} → Finite g → Onward g v k → v < g.size
onward_inside fin (once s) = fin.stays fin.starts s
onward_inside fin (then p s) = fin.stays (onward_inside fin p) s

pub onward_reach : {g : Graph} {v k : ℕ} → Onward g v k → Reachable g v
onward_reach (once s) = go s stop
onward_reach (then p s) = reaches_append (onward_reach p) (go s stop)

onward_reaches : {g : Graph} {v w k : ℕ} → Onward g v k → Reaches g v w → (m : ℕ) × Onward g w m
onward_reaches {k = k} p stop = (k, p)
onward_reaches p (go s q) = onward_reaches (then p s) q

-- what is reached, and from there by one step or more
pub reach_onward : {g : Graph} {v w : ℕ} → Reachable g v → Reaches⁺ g v w → (m : ℕ) × Onward g w m
reach_onward stop q = let r = reaches⁺_first q in onward_reaches (once r.1) r.2
reach_onward (go s p) q = onward_reaches (once s) (reaches_append p (reaches⁺_reaches q))

-- ---- one graph in another
-- g stands in h, vertex v as f v: there h has the steps of g and no others, and its start has a copy of each step of g's start
pub record Copied (h g : Graph) (f : ℕ → ℕ) : Type 0 where
  pub one_to_one : {v w : ℕ} → f v ≡ f w → v ≡ w
  pub opens : {u : ℕ} → Step g g.start u → Step h h.start (f u)
  pub steps : {v u : ℕ} → v < g.size → Step g v u → Step h (f v) (f u)
  pub back : {v w : ℕ} → v < g.size → Step h (f v) w → (u : ℕ) × (w ≡ f u) × Step g v u
  pub agree : (v : ℕ) → v < g.size → g.rejects v ≡ h.rejects (f v)

-- a path of g leads to the vertex that stands as w
pub record In (g : Graph) (f : ℕ → ℕ) (w k : ℕ) : Type 0 where
  pub vertex : ℕ
  pub is : w ≡ f vertex
  pub path : Onward g vertex k

module _ {h g : Graph} {f : ℕ → ℕ} (fin : Finite g) (c : Copied h g f) where
  -- a path of g is one of h, with the same entries
  pub copy : {v k : ℕ} → Onward g v k → Onward h (f v) k
  copy (once {v = v} s) = subst (Onward h (f v)) (ap one (sym (c.agree v (fin.stays fin.starts s)))) (once (c.opens s))
  copy (then {v = v} {w = w} {k = k} p s) =
      let l : v < g.size = onward_inside fin p in
      subst (Onward h (f w)) (ap (λ (b : Bool). k + one b) (sym (c.agree w (fin.stays l s)))) (then (copy p) (c.steps l s))

  -- as a step of h comes from one of g, so do the entries
  entered : {v u w : ℕ} → v < g.size → Step g v u → w ≡ f u → one (g.rejects u) ≡ one (h.rejects w)
  entered {u = u} l s e = ap one (c.agree u (fin.stays l s) ∙ ap h.rejects (sym e))

  -- a path that opens with a step of g
  opened : {w : ℕ} → (u : ℕ) × (w ≡ f u) × Step g g.start u → In g f w (one (h.rejects w))
  opened r = record { vertex = r.0; is = r.1; path = subst (Onward g r.0) (entered fin.starts r.2 r.1) (once r.2) }

  -- goes on in it
  further : {v w k : ℕ} → In g f v k → Step h v w → In g f w (k + one (h.rejects w))
  further {w = w} {k} i s =
      let l : i.vertex < g.size = onward_inside fin i.path in
      let r = c.back l (subst (λ (x : ℕ). Step h x w) i.is s) in
      record { vertex = r.0; is = r.1; path = subst (λ (n : ℕ). Onward g r.0 (k + n)) (entered l r.2 r.1) (then i.path r.2) }

  reaches⁺_copy : {v w : ℕ} → v < g.size → Reaches⁺ g v w → Reaches⁺ h (f v) (f w)
  reaches⁺_copy l (last s) = last (c.steps l s)
  reaches⁺_copy l (more s q) = more (c.steps l s) (reaches⁺_copy (fin.stays l s) q)

  reaches⁺_back : {x w : ℕ} → Reaches⁺ h x w → (v : ℕ) → v < g.size → x ≡ f v → (u : ℕ) × (w ≡ f u) × Reaches⁺ g v u
  reaches⁺_back {w = w} (last s) v l e = let r = c.back l (subst (λ (x : ℕ). Step h x w) e s) in (r.0, r.1, last r.2)
  reaches⁺_back {w = w} (more {u = y} s q) v l e =
      let r = c.back l (subst (λ (x : ℕ). Step h x y) e s) in
      let t : (u : ℕ) × (w ≡ f u) × Reaches⁺ g r.0 u = reaches⁺_back q r.0 (fin.stays l r.2) r.1 in
      (t.0, t.1, more r.2 t.2)

  -- a loop of g is one of h: it is gone round once, so that the way to it has a step
  pub loop_copy : RejectingLoop g → RejectingLoop h
  loop_copy o =
      let p = reach_onward o.reached o.back in
      let l : o.at < g.size = onward_inside fin p.1 in
      record { at = f o.at; rejecting = sym (c.agree o.at l) ∙ o.rejecting; reached = onward_reach (copy p.1); back = reaches⁺_copy l o.back }

  -- and a loop of h that a path of g leads to is one of g
  loop_back : (o : RejectingLoop h) {k : ℕ} → In g f o.at k → RejectingLoop g
  loop_back o i =
      let l : i.vertex < g.size = onward_inside fin i.path in
      let r : (u : ℕ) × (o.at ≡ f u) × Reaches⁺ g i.vertex u = reaches⁺_back o.back i.vertex l i.is in
      record {
        at = i.vertex;
        rejecting = c.agree i.vertex l ∙ ap h.rejects (sym i.is) ∙ o.rejecting;
        reached = onward_reach i.path;
        back = subst (Reaches⁺ g i.vertex) (c.one_to_one (sym r.1 ∙ i.is)) r.2;
      }

-- ---- two graphs in a third
-- both stand in h, and its start has no steps but their copies
pub record Joined (h g₁ g₂ : Graph) (f₁ f₂ : ℕ → ℕ) : Type 0 where
  pub first : Copied h g₁ f₁
  pub second : Copied h g₂ f₂
  pub only : {w : ℕ} → Step h h.start w → ((u : ℕ) × (w ≡ f₁ u) × Step g₁ g₁.start u) ⊎ ((u : ℕ) × (w ≡ f₂ u) × Step g₂ g₂.start u)

module _ {h g₁ g₂ : Graph} {f₁ f₂ : ℕ → ℕ} (fin₁ : Finite g₁) (fin₂ : Finite g₂) (j : Joined h g₁ g₂ f₁ f₂) where
  -- a path of h is one of the two, with the same entries
  pub parted : {w k : ℕ} → Onward h w k → In g₁ f₁ w k ⊎ In g₂ f₂ w k
  parted (once s) = ⊎_elim (λ r. inl (opened fin₁ j.first r)) (λ r. inr (opened fin₂ j.second r)) (j.only s)
  parted (then p s) = ⊎_elim (λ i. inl (further fin₁ j.first i s)) (λ i. inr (further fin₂ j.second i s)) (parted p)

  loop_parted : RejectingLoop h → RejectingLoop g₁ ⊎ RejectingLoop g₂
  loop_parted o = ⊎_elim (λ i. inl (loop_back fin₁ j.first o i)) (λ i. inr (loop_back fin₂ j.second o i)) (parted (reach_onward o.reached o.back).1)

  -- h has a rejecting loop exactly where one of the two has
  pub loops_joined : RejectingLoop h ↔ (RejectingLoop g₁ ⊎ RejectingLoop g₂)
  loops_joined = (loop_parted, λ o. ⊎_elim (loop_copy fin₁ j.first) (loop_copy fin₂ j.second) o)
