-- The next entry of each group, from the last entry to the first: for each leader the first place seen, of those from k on.
use mathlib.Core.Path.{◌≡◌, refl, sym, ap, ◌∙◌}
use mathlib.Core.List.{List}
use Prim.Native.Nat.{ℕ, ◌-◌, ◌≤◌, ◌<◌}
use native.Mathlib.Omega.{arith}
use native.Mathlib.Decide.{ℕ_discrete}
use lib.ListN.{length, get_or, set, take, replicate, length-set, length-replicate, get_or-replicate}
use lib.Seq.{get_or-take, get_or-set_same, get_or-set_other, length-take-le}
use Rattle.ties.specs.Groups.{NextInGroup, LeadersInside}

-- of the places from k on, w is the first whose leader is l, or the end where there is none
pub record FirstSeen (n : ℕ) (leaders : List ℕ) (k l w : ℕ) : Type 0 where
  pub above : k ≤ w
  pub inside : w ≤ n
  pub is : w < n → get_or leaders w 0 ≡ l
  pub before : (j : ℕ) → k ≤ j → j < w → ¬ (get_or leaders j 0 ≡ l)

-- the places from k on have their followers, and `last` has the first place seen of each leader
pub record Back (n : ℕ) (leaders followers last : List ℕ) (k : ℕ) : Type 0 where
  pub inside : k ≤ n
  pub followers_long : length followers ≡ 272
  pub last_long : length last ≡ 272
  pub done : (i : ℕ) → k ≤ i → i < n → NextInGroup (take n leaders) i (get_or followers i 0)
  pub seen : (l : ℕ) → l < 272 → FirstSeen n leaders k l (get_or last l 0)

module _ (n : ℕ) (leaders : List ℕ) where
  -- at first nothing is seen
  pub back_none : (followers : List ℕ) → length followers ≡ 272 → Back n leaders followers (replicate 272 n) n
  back_none followers long = record {
    inside = omega arith;
    followers_long = long;
    last_long = length-replicate {A = ℕ} 272 n;
    done = λ i h l. absurd (omega arith);
    seen = λ l h. rw (get_or-replicate {A = ℕ} 272 l n 0 h)
        record { above = omega arith; inside = omega arith; is = λ g. absurd (omega arith); before = λ j g b. absurd (omega arith) };
  }

  module _ (long : length leaders ≡ 272) (few : n ≤ 272) (inside : LeadersInside n leaders) (followers last : List ℕ) (k : ℕ) (pos : 0 < k) (B : Back n leaders followers last k) where
    -- the place, its leader and the place that was seen
    abbrev here : ℕ
    here = k - 1

    abbrev leader : ℕ
    leader = get_or leaders here 0

    abbrev w : ℕ
    w = get_or last leader 0

    here_in : here < n
    here_in = omega (arith, B.inside)

    leader_inside : leader < 272
    leader_inside = inside here here_in

    first : FirstSeen n leaders k leader w
    first = B.seen leader leader_inside

    taken : (j : ℕ) → j < n → get_or (take n leaders) j 0 ≡ get_or leaders j 0
    taken j h = get_or-take n leaders j 0 h

    next : NextInGroup (take n leaders) here w
    next =
        let end : length (take n leaders) ≡ n = length-take-le n leaders (omega arith) in
        record {
          after = omega (arith, first.above);
          inside = omega (arith, first.inside, end);
          same = λ l. let h : w < n = omega (arith, end) in taken w h ∙ first.is h ∙ sym (taken here here_in);
          between = λ j h l q. first.before j (omega arith) l (sym (taken j (omega (arith, first.inside))) ∙ q ∙ taken here here_in);
        }

    pub back_more : Back n leaders (set followers here w) (set last leader here) here
    back_more = record {
      inside = omega (arith, B.inside);
      followers_long = length-set followers here w ∙ B.followers_long;
      last_long = length-set last leader here ∙ B.last_long;
      done = λ i h l. follower i h l (ℕ_discrete i here);
      seen = λ l h. again l h (ℕ_discrete l leader);
    }
      where
        follower : (i : ℕ) → here ≤ i → i < n → Dec (i ≡ here) → NextInGroup (take n leaders) i (get_or (set followers here w) i 0)
        follower i h l (yes e) = rw (e, get_or-set_same followers here w 0 (omega (arith, B.followers_long, here_in))) next
        follower i h l (no d) = rw (get_or-set_other followers here i w 0 d) (B.done i (omega arith) l)

        again : (l : ℕ) → l < 272 → Dec (l ≡ leader) → FirstSeen n leaders here l (get_or (set last leader here) l 0)
        again l h (yes e) = rw (e, get_or-set_same last leader here 0 (omega (arith, B.last_long, leader_inside)))
            record { above = omega arith; inside = omega (arith, here_in); is = λ _. refl; before = λ j g b. absurd (omega arith) }
        again l h (no d) =
            let F = B.seen l h in
            rw (get_or-set_other last leader l here 0 d)
            record {
              above = omega (arith, F.above);
              inside = F.inside;
              is = F.is;
              before = λ j g b. elim (ℕ_discrete j here) [
                | yes e ↦ λ q. d (sym (sym (ap (λ (x : ℕ). get_or leaders x 0) e) ∙ q))
                | no ne ↦ F.before j (omega arith) b
              ];
            }
