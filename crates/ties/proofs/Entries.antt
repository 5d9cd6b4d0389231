-- Tables keep the ties exactly where each entry has the packed value of its leader.
use mathlib.Core.Path.{◌≡◌, refl, sym, ap, ◌∙◌}
use mathlib.Core.Logic.{◌↔◌}
use mathlib.Core.List.{List, [], ◌∷◌, ◌++◌}
use Prim.Native.Nat.{ℕ, zero, suc, ◌+◌, ◌≤◌, ◌<◌}
use native.Mathlib.Omega.{arith}
use lib.ListN.{length, get_or, length-append, get_or-append}
use lib.Seq.{get_or-append-add, ext_get_or}
use Rattle.theory.specs.Lists.{from, tab}
use Rattle.theory.proofs.ListLaws.{tab_from, from_long, from_at}
use Rattle.model.specs.Sheet.{Process, Architecture, SameShape, ProperTies, process_no}
use Rattle.model.specs.Compose.{process_length}
use Rattle.model.specs.Choice.{next, entries, rows, begins, length_of, entry_at, packed_at, table_of, KeepsTies}
use Rattle.model.proofs.Places.{own, own_length, Place, place_of, place_inside, entry_there, length_is, shape_itself, shape_turn, shape_chain, shape_length, begins_rise}
use Rattle.ties.specs.Leaders.{leaders, entry_leaders_of, entry_leaders, AsLeaders}
use Rattle.ties.specs.Unpack.{Matches}
use Rattle.ties.proofs.Leaders.{Leads, AllThere, leaders_lead, leaders_tied, leaders_led}
use Rattle.ties.proofs.MatchingEntries.{own_match}

tab_long : (h : ℕ → ℕ) (n i : ℕ) → length (tab h n i) ≡ n
unfolding tab
tab_long h zero i = refl
tab_long h (suc n) i = ap suc (tab_long h n (suc i))

-- ---- the leaders of entries by place
leader_at : (ps qs : List Process) (ls : List ℕ) (i j : ℕ) → i < length qs → length ls ≡ length qs → j < length_of qs i
    → get_or (entry_leaders_of ps qs ls) (begins qs i + j) 0 ≡ begins ps (get_or ls i 0) + j
unfolding entry_leaders_of length_of begins
leader_at ps [] ls i j li e lj = absurd (omega arith)
leader_at ps (q ∷ qs) [] i j li e lj = absurd (omega arith)
leader_at ps (q ∷ qs) (l ∷ ls) zero j li e lj =
    ap (λ (k : ℕ). get_or (from (process_length q) (begins ps l) ++ entry_leaders_of ps qs ls) k 0) (zero_plus j)
    ∙ get_or-append (from (process_length q) (begins ps l)) (entry_leaders_of ps qs ls) 0 j (omega (arith, from_long (process_length q) (begins ps l)))
    ∙ from_at (process_length q) (begins ps l) j lj
  where
    zero_plus : (j : ℕ) → 0 + j ≡ j
    zero_plus j = omega arith
leader_at ps (q ∷ qs) (l ∷ ls) (suc i) j li e lj =
    ap (λ (k : ℕ). get_or (from (process_length q) (begins ps l) ++ entry_leaders_of ps qs ls) k 0) behind
    ∙ get_or-append-add (from (process_length q) (begins ps l)) (entry_leaders_of ps qs ls) (begins qs i + j) 0
    ∙ leader_at ps qs ls i j (omega arith) (omega arith) lj
  where
    behind : process_length q + begins qs i + j ≡ length (from (process_length q) (begins ps l)) + (begins qs i + j)
    behind = omega (arith, from_long (process_length q) (begins ps l))

leaders_long : (ps qs : List Process) (ls : List ℕ) → length ls ≡ length qs → length (entry_leaders_of ps qs ls) ≡ length (rows qs)
unfolding entry_leaders_of rows
leaders_long ps [] ls e = refl
leaders_long ps (q ∷ qs) [] e = absurd (omega arith)
leaders_long ps (q ∷ qs) (l ∷ ls) e =
    omega (
      arith,
      length-append (from (process_length q) (begins ps l)) (entry_leaders_of ps qs ls),
      length-append (own q) (rows qs),
      from_long (process_length q) (begins ps l),
      own_length q,
      leaders_long ps qs ls (omega arith),
    )

module _ (a : Architecture) (good : ProperTies a.processes a.ties) where
  abbrev ps : List Process
  ps = a.processes

  -- ---- the leaders of processes
  led : ℕ → ℕ
  led i = get_or (leaders (length ps) a.ties) i 0

  there : AllThere (length ps) a.ties
  there t m = ((good t m).left_known, (good t m).right_known)

  lead : Leads (length ps) (leaders (length ps) a.ties)
  lead = leaders_lead (length ps) a.ties there

  led_there : (i : ℕ) → i < length ps → led i < length ps
  unfolding led
  led_there i l = omega (arith, lead.low i l)

  -- a process and its leader have the same shape, and so tables of one length
  shapes : (i : ℕ) → i < length ps → SameShape (process_no ps i) (process_no ps (led i))
  unfolding led
  shapes =
      leaders_led (length ps) a.ties there (λ i j. SameShape (process_no ps i) (process_no ps j))
      record { same = λ i. shape_itself (process_no ps i); turn = λ i j h. shape_turn h; chain = λ i j k h g. shape_chain h g }
      (λ t m. (good t m).shape)

  same_length : (i j : ℕ) → i < length ps → j < length ps → SameShape (process_no ps i) (process_no ps j) → length_of ps i ≡ length_of ps j
  same_length i j li lj h = length_is ps i li ∙ shape_length (process_no ps i) (process_no ps j) h ∙ sym (length_is ps j lj)

  -- ---- the leaders of entries
  pub entry_leaders_long : length (entry_leaders a) ≡ length (entries a)
  unfolding entry_leaders entries
  entry_leaders_long = leaders_long ps ps (leaders (length ps) a.ties) lead.long

  -- the entry at a place of a process has as its leader the one at that place of the leader
  entry_leader : (i j : ℕ) → i < length ps → j < length_of ps i → get_or (entry_leaders a) (begins ps i + j) 0 ≡ begins ps (led i) + j
  unfolding entry_leaders led
  entry_leader i j li lj = leader_at ps ps (leaders (length ps) a.ties) i j li lead.long lj

  module _ (k : ℕ) (h : k < length (entries a)) where
    place : Place ps k
    unfolding entries
    place = place_of ps k h

    led_inside : place.j < length_of ps (led place.i)
    led_inside = let i = place.i in omega (arith, place.inside, same_length i (led i) place.there (led_there i place.there) (shapes i place.there))

    leader_is : get_or (entry_leaders a) k 0 ≡ begins ps (led place.i) + place.j
    leader_is = ap (λ (x : ℕ). get_or (entry_leaders a) x 0) place.is ∙ entry_leader place.i place.j place.there place.inside

    -- the entry of a place
    entry_at_lem : (i m : ℕ) → i < length ps → place.j < length_of ps i → m ≡ begins ps i + place.j → entry_at a m ≡ get_or (own (process_no ps i)) place.j (next 0)
    unfolding entries
    entry_at_lem i m li lj e = ap (λ (x : ℕ). get_or (rows ps) x (next 0)) e ∙ entry_there ps i place.j (next 0) li lj

    -- the leader is at k or before it,
    pub leader_low : get_or (entry_leaders a) k 0 ≤ k
    unfolding led
    leader_low = omega (arith, place.is, leader_is, begins_rise ps (led place.i) place.i (lead.low place.i place.there))

    -- leads itself,
    pub leader_own : get_or (entry_leaders a) (get_or (entry_leaders a) k 0) 0 ≡ get_or (entry_leaders a) k 0
    unfolding led
    leader_own =
        let i = place.i in
        ap (λ (x : ℕ). get_or (entry_leaders a) x 0) leader_is ∙ entry_leader (led i) place.j (led_there i place.there) led_inside
        ∙ ap (λ (x : ℕ). begins ps x + place.j) (lead.own i place.there) ∙ sym leader_is

    -- and has the same packed values
    pub leader_match : Matches (entry_at a (get_or (entry_leaders a) k 0)) (entry_at a k)
    leader_match =
        let i = place.i in
        let l = led_there i place.there in
        rw (entry_at_lem (led i) (get_or (entry_leaders a) k 0) l led_inside leader_is, entry_at_lem i k place.there place.inside place.is)
        (own_match (process_no ps (led i)) (process_no ps i) place.j (next 0) (shape_turn (shapes i place.there)) (omega (arith, length_is ps (led i) l, led_inside)))

  -- ---- tables by place
  module _ (c : List ℕ) where
    table_at : (i j : ℕ) → j < length_of ps i → get_or (table_of a c i) j 0 ≡ packed_at a c (begins ps i + j)
    unfolding table_of
    table_at i j l = tab_from (packed_at a c) (length_of ps i) (begins ps i) j 0 l

    table_long : (i : ℕ) → length (table_of a c i) ≡ length_of ps i
    unfolding table_of
    table_long i = tab_long (packed_at a c) (length_of ps i) (begins ps i)

    -- each process has the table of its leader
    led_tables : KeepsTies a c → (i : ℕ) → i < length ps → table_of a c i ≡ table_of a c (led i)
    unfolding led
    led_tables keeps =
        leaders_led (length ps) a.ties there (λ i j. table_of a c i ≡ table_of a c j)
        record { same = λ i. refl; turn = λ i j h. sym h; chain = λ i j k h g. h ∙ g } keeps

    agrees : KeepsTies a c → AsLeaders a c
    agrees keeps k h =
        let p = place k h in
        ap (packed_at a c) p.is ∙ sym (table_at p.i p.j p.inside) ∙ ap (λ (x : List ℕ). get_or x p.j 0) (led_tables keeps p.i p.there)
        ∙ table_at (led p.i) p.j (led_inside k h) ∙ ap (packed_at a c) (sym (leader_is k h))

    -- of entries that agree with their leaders, place j of process i
    agrees_at : AsLeaders a c → (i j : ℕ) → i < length ps → j < length_of ps i → get_or (table_of a c i) j 0 ≡ packed_at a c (begins ps (led i) + j)
    unfolding entries
    agrees_at led-by i j li lj = table_at i j lj ∙ led-by (begins ps i + j) (place_inside ps i j li lj) ∙ ap (packed_at a c) (entry_leader i j li lj)

    keeps_tied : AsLeaders a c → KeepsTies a c
    unfolding led
    keeps_tied led-by t m =
        let g = good t m in
        let same = same_length t.left t.right g.left_known g.right_known g.shape in
        ext_get_or 0 (table_of a c t.left) (table_of a c t.right) (table_long t.left ∙ same ∙ sym (table_long t.right))
        (λ j l.
        let lj : j < length_of ps t.left = omega (arith, table_long t.left) in
        agrees_at led-by t.left j g.left_known lj
        ∙ ap (λ (x : ℕ). packed_at a c (begins ps x + j)) (leaders_tied (length ps) a.ties there t m)
        ∙ sym (agrees_at led-by t.right j g.right_known (omega (arith, same))))

    -- tables keep the ties exactly where each entry has the packed value of its leader
    pub ties_are : KeepsTies a c ↔ AsLeaders a c
    ties_are = (agrees, keeps_tied)
