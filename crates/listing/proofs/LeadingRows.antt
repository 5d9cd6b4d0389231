-- The entries that lead themselves are the rows of the processes that do: the leaders of a process's entries are those of its leader's, in order.
use mathlib.Core.Path.{◌≡◌, refl, sym, ap, ◌∙◌}
use mathlib.Core.Bool.{Bool, true, false}
use mathlib.Core.List.Memᴰ
use mathlib.Core.List.{List, [], ◌∷◌, ◌++◌, Memᴰ}
use Prim.Native.Nat.{ℕ, zero, suc, ◌+◌, ◌≤◌, ◌<◌}
use native.Mathlib.Nat.{mul-le-mul}
use native.Mathlib.Omega.{arith}
use native.Mathlib.Decide.{ℕ_discrete}
use lib.Dec.{eqb}
use lib.ListN.{length, get_or, drop, drop_of_length-le}
use lib.Seq.{drop-cons}
use borrow.Author.Tests.{eq-eqb, ne_eqb}
use Rattle.theory.specs.Lists.{put, from}
use Rattle.theory.proofs.ListLaws.{from_long}
use Rattle.model.specs.Sheet.{Process, Architecture, ProperProcesses, ProperArchitecture, nobody, process_no}
use Rattle.model.specs.Compose.{process_length}
use Rattle.model.specs.Choice.{Entry, rows, entries, begins, length_of}
use Rattle.model.proofs.Places.{own, own_length, length_is, begins_rise}
use Rattle.model.proofs.ComposedNumbers.{row_pos}
use Rattle.ties.specs.Leaders.{join_all, leaders, entry_leaders_of, entry_leaders}
use Rattle.ties.proofs.Leaders.{Leads, leaders_lead}
use Rattle.ties.proofs.TablesOfArrays.{begins_first, begins_next}
use Rattle.listing.specs.Listing.{leading, once}

-- ---- those that lead themselves
module _ {A : Type 0} where
  -- they are of the list, and no more
  pub leading_has : (ls : List ℕ) (i : ℕ) (xs : List A) (x : A) → Memᴰ x (leading ls i xs) → Memᴰ x xs
  unfolding leading put
  leading_has [] i xs x m = absurd (Memᴰ.not-nil m)
  leading_has (l ∷ ls) i [] x m = absurd (Memᴰ.not-nil m)
  leading_has (l ∷ ls) i (y ∷ ys) x m = by (eqb l i) m (λ r. leading_has ls (suc i) ys x r)
    where
      by : (b : Bool) → Memᴰ x (put b y (leading ls (suc i) ys)) → (Memᴰ x (leading ls (suc i) ys) → Memᴰ x ys) → Memᴰ x (y ∷ ys)
      by true (Memᴰ.head e) more = Memᴰ.head e
      by true (Memᴰ.tail r) more = Memᴰ.tail (more r)
      by false r more = Memᴰ.tail (more r)

  pub leading_short : (ls : List ℕ) (i : ℕ) (xs : List A) → length (leading ls i xs) ≤ length xs
  unfolding leading put
  leading_short [] i xs = omega arith
  leading_short (l ∷ ls) i [] = omega arith
  leading_short (l ∷ ls) i (x ∷ xs) = by (eqb l i) (leading_short ls (suc i) xs)
    where
      by : (b : Bool) → length (leading ls (suc i) xs) ≤ length xs → length (put b x (leading ls (suc i) xs)) ≤ length (x ∷ xs)
      by true h = omega arith
      by false h = omega arith

  put_append : (b : Bool) (x : A) (xs ys : List A) → put b x (xs ++ ys) ≡ put b x xs ++ ys
  unfolding put
  put_append true x xs ys = refl
  put_append false x xs ys = refl

  leading_parts : (ks ls : List ℕ) (i : ℕ) (xs ys : List A) → length ks ≡ length xs → leading (ks ++ ls) i (xs ++ ys) ≡ leading ks i xs ++ leading ls (i + length xs) ys
  unfolding leading
  leading_parts [] ls i [] ys e = let z : i + 0 ≡ i = omega arith in rw z
  leading_parts [] ls i (x ∷ xs) ys e = absurd (omega arith)
  leading_parts (k ∷ ks) ls i [] ys e = absurd (omega arith)
  leading_parts (k ∷ ks) ls i (x ∷ xs) ys e =
      let z : i + suc (length xs) ≡ suc i + length xs = omega arith in
      rw (z, leading_parts ks ls (suc i) xs ys (omega arith)) (put_append (eqb k i) x (leading ks (suc i) xs) (leading ls (suc i + length xs) ys))

  -- all of them
  leading_own : (n i : ℕ) (xs : List A) → length xs ≡ n → leading (from n i) i xs ≡ xs
  unfolding leading from put
  leading_own zero i [] e = refl
  leading_own zero i (x ∷ xs) e = absurd (omega arith)
  leading_own (suc n) i [] e = refl
  leading_own (suc n) i (x ∷ xs) e = rw (eq-eqb i i refl, leading_own n (suc i) xs (omega arith))

  -- none, where the leaders are before them
  leading_none : (n l i : ℕ) (xs : List A) → l < i → leading (from n l) i xs ≡ []
  unfolding leading from put
  leading_none zero l i xs h = refl
  leading_none (suc n) l i [] h = refl
  leading_none (suc n) l i (x ∷ xs) h = rw (ne_eqb l i (λ q. omega arith), leading_none n (suc l) (suc i) xs (omega arith))

-- ---- the entries of a proper architecture
-- a process has entries
some_entries : {v e : ℕ} (ps : List Process) → ProperProcesses v e ps → (i : ℕ) → i < length ps → 0 < length_of ps i
unfolding length_of process_length
some_entries [] g i h = absurd (omega arith)
some_entries (p ∷ ps) g zero h = mul-le-mul (g p (Memᴰ.head refl)).some_state (row_pos p)
some_entries (p ∷ ps) g (suc i) h = some_entries ps (λ q m. g q (Memᴰ.tail m)) i (omega arith)

module _ (a : Architecture) (good : ProperArchitecture a) where
  abbrev ps : List Process
  ps = a.processes

  abbrev ls : List ℕ
  ls = leaders (length ps) a.ties

  lead : Leads (length ps) ls
  lead = leaders_lead (length ps) a.ties (λ t m. let g = good.front.ties_proper t m in (g.left_known, g.right_known))

  -- those of process i stand behind all those of the processes before it
  begins_above : (l i : ℕ) → l < i → i < length ps → begins ps l < begins ps i
  begins_above l i h k = omega (arith, begins_next ps l, some_entries ps good.front.processes_proper l (omega arith), begins_rise ps (suc l) i h)

  -- the entries of process i that lead themselves
  own_leading : (i : ℕ) → i < length ps → let l = get_or ls i 0 in let q = process_no ps i in
      (rest : List Process) → leading (from (process_length q) (begins ps l)) (begins ps i) (own q) ++ rows rest ≡ rows (put (eqb l i) q rest)
  unfolding rows put
  own_leading i h rest = by (ℕ_discrete (get_or ls i 0) i)
    where
      l : ℕ
      l = get_or ls i 0

      q : Process
      q = process_no ps i

      by : Dec (l ≡ i) → leading (from (process_length q) (begins ps l)) (begins ps i) (own q) ++ rows rest ≡ rows (put (eqb l i) q rest)
      by (yes e) = rw (eq-eqb l i e, e, leading_own (process_length q) (begins ps i) (own q) (own_length q))
      by (no n) = rw (ne_eqb l i n, leading_none (process_length q) (begins ps l) (begins ps i) (own q) (begins_above l i (omega (arith, lead.low i h)) h))

  leading_from_lem : (n i : ℕ) → n + i ≡ length ps → leading (entry_leaders_of ps (drop i ps) (drop i ls)) (begins ps i) (rows (drop i ps)) ≡ rows (leading (drop i ls) i (drop i ps))
  unfolding entry_leaders_of rows leading
  leading_from_lem zero i e = rw (drop_of_length-le ps {i = i} (omega arith), drop_of_length-le ls {i = i} (omega (arith, lead.long)))
  leading_from_lem (suc n) i e =
      let h : i < length ps = omega arith in
      let l = get_or ls i 0 in
      let q = process_no ps i in
      let next : begins ps i + length (own q) ≡ begins ps (suc i) = omega (arith, begins_next ps i, length_is ps i h, own_length q) in
      rw (drop-cons ps i nobody h, drop-cons ls i 0 (omega (arith, lead.long)))
      (leading_parts (from (process_length q) (begins ps l)) (entry_leaders_of ps (drop (suc i) ps) (drop (suc i) ls)) (begins ps i) (own q) (rows (drop (suc i) ps))
      (from_long (process_length q) (begins ps l) ∙ sym (own_length q))
      ∙ ap (λ (r : List Entry). leading (from (process_length q) (begins ps l)) (begins ps i) (own q) ++ r)
      (ap (λ (k : ℕ). leading (entry_leaders_of ps (drop (suc i) ps) (drop (suc i) ls)) k (rows (drop (suc i) ps))) next ∙ leading_from_lem n (suc i) (omega arith))
      ∙ own_leading i h (leading (drop (suc i) ls) (suc i) (drop (suc i) ps)))

  pub leading_rows : leading (entry_leaders a) 0 (entries a) ≡ rows (once a)
  unfolding entry_leaders entries
  leading_rows = ap (λ (k : ℕ). leading (entry_leaders_of ps ps ls) k (rows ps)) (sym (begins_first ps)) ∙ leading_from_lem (length ps) 0 (omega arith)

-- without ties every process leads itself
pub once_untied : (a : Architecture) → a.ties ≡ [] → once a ≡ a.processes
unfolding leaders join_all
once_untied a none = rw none (leading_own (length a.processes) 0 a.processes refl)
