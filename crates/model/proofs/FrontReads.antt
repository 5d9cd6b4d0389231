-- Reading goes through AR, the PR and PM and the SY of a proper front, and stops at the first process or tie that is none.
use mathlib.Core.Path.{◌≡◌, refl, sym, ap, ap₂, ◌∙◌, subst}
use mathlib.Core.Bool.{true, false, not}
use mathlib.Core.Logic.{◌⊎◌, inl, inr}
use mathlib.Core.List.Memᴰ
use mathlib.Core.List.{List, [], ◌∷◌, ◌++◌, append-nil, append_assoc}
use Prim.Native.Nat.{ℕ, zero, suc, ◌+◌, ◌-◌, ◌≤◌}
use native.Mathlib.Nat.{zero-add, add-zero, suc-add}
use native.Mathlib.Omega.{arith}
use lib.Dec.{eqb}
use lib.ListN.{length, length-append}
use borrow.Author.Tests.{ne_eqb}
use Rattle.theory.specs.Lists.{Pairwise, empty, before}
use Rattle.theory.proofs.ListLaws.{turn_front, turn_last}
use Rattle.model.specs.declared.Refusal.TheVariants.{SheetTooShort, WrongMark, BadArchitecture, BadProcess, BadTie, BadPrompt}
use Rattle.model.specs.Mask.{if}
use Rattle.model.specs.Sheet.{Process, Tie, Architecture, with_process, with_tie, ProperFront}
use Rattle.model.specs.Reading.{Reading, refused, proper, short, marked, process_marked, tie_marked, AR, SY, ar_fault, pr_fault, prompt_fault, tie_fault, architecture_at, process_size, Front}
use Rattle.model.specs.Reading.{read_process, read_processes, read_tie, read_ties, read_front, refuse◌when◌else◌, ◌then◌}
use Rattle.model.specs.SheetFile.{process_bytes, processes_bytes, tie_bytes, ties_bytes, front_bytes}
use Rattle.model.proofs.ProperSheet.{retied, retied_proper}
use Rattle.model.proofs.Refusing.{go}
use Rattle.model.proofs.FaultsExact.{opening_faultless, process_faultless, prompt_faultless, tie_faultless}
use Rattle.model.proofs.RecordAt.{At, behind, next, long_enough, marked_at, process_marked_is, process_marked_at, process_size_at, process_opens, process_long, written, written_same, process_at_lem, tie_at_lem}

module _ (b : List ℕ) where
  -- ---- one PR or PM
  -- what is tested and read of a whole one
  abbrev pub tests : Architecture → ℕ → ℕ → Process → Reading Front
  tests a k next p =
      refuse BadProcess when pr_fault a p else
      refuse BadPrompt when prompt_fault a.processes p else
      read_processes k (with_process a p) b next

  -- it is tested, and then the next is read
  pub process_next : (i : ℕ) (a : Architecture) (k : ℕ) (p : Process) (x : List ℕ) → At b i (process_bytes p ++ x)
      → read_processes (suc k) a b i ≡ tests a k (i + length (process_bytes p)) (written p)
  unfolding read_processes read_process if refuse◌when◌else◌
  process_next i a k p x h =
      let opened = process_opens p x h in
      let mark : process_marked b i ≡ true = process_marked_at p.prompted _ opened in
      let size : process_size b i ≡ length (process_bytes p) = process_size_at p.prompted _ opened ∙ sym (process_long p) in
      let whole : short b i (length (process_bytes p)) ≡ false = long_enough h (length (process_bytes p)) (omega (arith, length-append (process_bytes p) x)) in
      rw (mark, size, whole) (ap (tests a k (i + length (process_bytes p))) (process_at_lem p x h))

  -- one that ends too early
  pub process_short : (i : ℕ) (a : Architecture) (k : ℕ) → process_marked b i ≡ true → short b i (process_size b i) ≡ true → read_processes (suc k) a b i ≡ refused SheetTooShort
  unfolding read_processes read_process if refuse◌when◌else◌
  process_short i a k mark e = rw (mark, e)

  -- none
  pub no_such_process : (i : ℕ) (a : Architecture) (k : ℕ) → process_marked b i ≡ false → read_processes k a b i ≡ proper record { architecture = a; end = i }
  unfolding read_processes if
  no_such_process i a zero mark = refl
  no_such_process i a (suc k) mark = rw mark

-- ---- proper processes
-- what holds within a list holds within its front
pairwise_left : {A : Type 0} {R : A → A → Type 0} (xs ys : List A) → Pairwise R (xs ++ ys) → Pairwise R xs
pairwise_left [] ys p = empty
pairwise_left (x ∷ xs) ys (before h p) = before (λ y m. h y (Memᴰ.append_left ys m)) (pairwise_left xs ys p)

-- more processes
with_processes : Architecture → List Process → Architecture
with_processes a ps = record { variables = a.variables; environment = a.environment; root = a.root; processes = a.processes ++ ps; ties = a.ties }

-- a proper front without ties is proper without its last processes
fewer_proper : (a : Architecture) (ps : List Process) → a.ties ≡ [] → ProperFront (with_processes a ps) → ProperFront a
unfolding with_processes
fewer_proper a ps untied g = record {
  few_variables = g.few_variables;
  few_environment = g.few_environment;
  environment_known = g.environment_known;
  root_known = g.root_known;
  few_processes = omega (arith, g.few_processes, length-append a.processes ps);
  processes_proper = λ p m. g.processes_proper p (Memᴰ.append_left ps m);
  outputs_apart = pairwise_left a.processes ps g.outputs_apart;
  prompts_proper = turn_front a.processes ps g.prompts_proper;
  few_ties = g.few_ties;
  ties_proper = rw untied (λ t m. absurd (Memᴰ.not-nil m));
}

-- none more
none_more : (a : Architecture) → with_processes a [] ≡ a
unfolding with_processes
none_more a = λ j. record { variables = a.variables; environment = a.environment; root = a.root; processes = append-nil a.processes j; ties = a.ties }

-- one process, and then more
one_then_more : (a : Architecture) (p : Process) (ps : List Process) → with_processes (with_process a p) ps ≡ with_processes a (p ∷ ps)
unfolding with_process with_processes
one_then_more a p ps = λ j. record { variables = a.variables; environment = a.environment; root = a.root; processes = append_assoc a.processes (p ∷ []) ps j; ties = a.ties }

-- all of them, with room for k more
processes_through : (b : List ℕ) (ps : List Process) (k : ℕ) (a : Architecture) (i : ℕ) (x : List ℕ) → At b i (processes_bytes ps ++ x) → a.ties ≡ [] → ProperFront (with_processes a ps)
    → read_processes (length ps + k) a b i ≡ read_processes k (with_processes a ps) b (i + length (processes_bytes ps))
unfolding processes_bytes with_process
processes_through b [] k a i x h untied g = rw (zero-add k, add-zero i, none_more a)
processes_through b (p ∷ ps) k a i x h untied g =
    let n : ℕ = length (process_bytes p) in
    let here : At b i (process_bytes p ++ (processes_bytes ps ++ x)) = subst (At b i) (append_assoc (process_bytes p) (processes_bytes ps) x) h in
    let rest : At b (i + n) (processes_bytes ps ++ x) = next (process_bytes p) (processes_bytes ps ++ x) here in
    let g' : ProperFront (with_processes (with_process a p) ps) = rw (one_then_more a p ps) g in
    let own : ProperFront (with_process a p) = fewer_proper (with_process a p) ps untied g' in
    let same : written p ≡ p = written_same p (turn_last a.processes [] own.prompts_proper).none_of_PR in
    ap (λ (n : ℕ). read_processes n a b i) (suc-add (length ps) k)
    ∙ process_next b i a (length ps + k) p (processes_bytes ps ++ x) here
    ∙ ap (tests b a (length ps + k) (i + n)) same
    ∙ go BadProcess _ (process_faultless a p own)
    ∙ go BadPrompt _ (prompt_faultless a p own)
    ∙ processes_through b ps k (with_process a p) (i + n) x rest untied g'
    ∙ ap₂ (λ (c : Architecture) (n : ℕ). read_processes k c b n) (one_then_more a p ps) (omega (arith, length-append (process_bytes p) (processes_bytes ps)))

-- ---- AR
-- the architecture before its processes
pub opening : Architecture → Architecture
opening a = record { variables = a.variables; environment = a.environment; root = a.root; processes = []; ties = [] }

-- the ties behind these processes
unfoldable pub then_ties : List ℕ → Reading Front → Reading Front
then_ties b m = m then λ f. read_ties 3 f.architecture b f.end

-- a whole AR is tested, and then the processes and the ties are read
pub opening_next : (a : Architecture) (x b : List ℕ) → b ≡ front_bytes a ++ x
    → read_front b ≡ refuse◌when◌else◌ BadArchitecture (ar_fault a) (then_ties b (read_processes 4 (opening a) b 5))
unfolding read_front front_bytes opening ar_fault then_ties
opening_next a x b e =
    let start : At b 0 (front_bytes a ++ x) = behind [] (front_bytes a ++ x) e in
    let two : short b 0 2 ≡ false = long_enough start 2 (omega arith) in
    let five : short b 0 5 ≡ false = long_enough start 5 (omega arith) in
    let mark : marked b 0 AR ≡ true = marked_at start AR in
    go SheetTooShort _ two ∙ go WrongMark _ (ap not mark) ∙ go SheetTooShort _ five
    ∙ ap (λ (y : List ℕ). refuse◌when◌else◌ BadArchitecture (ar_fault (architecture_at y)) (then_ties b (read_processes 4 (architecture_at y) b 5))) e

-- the architecture before its ties
untie : Architecture → Architecture
untie a = retied a []

untie_same : (a : Architecture) → a.ties ≡ [] → untie a ≡ a
unfolding untie
untie_same a untied = λ j. retied a (sym untied j)

untied_proper : (a : Architecture) → ProperFront a → ProperFront (untie a)
unfolding untie
untied_proper a g = retied_proper a [] g (omega arith) (λ t m. absurd (Memᴰ.not-nil m))

-- its writing
untied_bytes : (a : Architecture) → front_bytes a ≡ front_bytes (untie a) ++ ties_bytes a.ties
unfolding front_bytes untie ties_bytes
untied_bytes a = rw (append-nil (processes_bytes a.processes))

-- AR and the processes, with room for k more
processes_front : (a : Architecture) (x b : List ℕ) (k : ℕ) → b ≡ front_bytes (untie a) ++ x → ProperFront a → length a.processes + k ≡ 4
    → read_front b ≡ then_ties b (read_processes k (untie a) b (length (front_bytes (untie a))))
unfolding front_bytes ties_bytes opening with_processes untie
processes_front a x b k e g room =
    let ar : List ℕ = 0x41 ∷ 0x52 ∷ a.variables ∷ a.environment ∷ a.root ∷ [] in
    let whole : b ≡ ar ++ (processes_bytes a.processes ++ x) = e ∙ rw (append-nil (processes_bytes a.processes)) in
    opening_next (untie a) x b e
    ∙ go BadArchitecture _ (opening_faultless (untie a) (untied_proper a g))
    ∙ ap (λ (n : ℕ). then_ties b (read_processes n (opening a) b 5)) (sym room)
    ∙ ap (then_ties b) (processes_through b a.processes k (opening a) 5 x (behind ar (processes_bytes a.processes ++ x) whole) refl (untied_proper a g))
    ∙ ap (λ (n : ℕ). then_ties b (read_processes k (untie a) b n)) (omega (arith, length-append (processes_bytes a.processes) []))

pub front_through : (a : Architecture) (x b : List ℕ) (k : ℕ) → b ≡ front_bytes a ++ x → ProperFront a → a.ties ≡ [] → length a.processes + k ≡ 4
    → read_front b ≡ then_ties b (read_processes k a b (length (front_bytes a)))
front_through a x b k e g untied room =
    let same : untie a ≡ a = untie_same a untied in
    processes_front a x b k (e ∙ ap (λ (u : Architecture). front_bytes u ++ x) (sym same)) g room
    ∙ ap (λ (u : Architecture). then_ties b (read_processes k u b (length (front_bytes u)))) same

-- ---- ties
module _ (b : List ℕ) where
  -- a whole SY is tested, and then the next is read
  pub tie_next : (i : ℕ) (a : Architecture) (k : ℕ) (t : Tie) (x : List ℕ) → At b i (tie_bytes t ++ x) → 1 ≤ length a.processes
      → read_ties (suc k) a b i ≡ refuse◌when◌else◌ BadTie (tie_fault a.processes t) (read_ties k (with_tie a t) b (i + 4))
  unfolding read_ties read_tie tie_marked tie_bytes if refuse◌when◌else◌
  tie_next i a k t x h some =
      let mark : marked b i SY ≡ true = marked_at h SY in
      let several : eqb (length a.processes) 0 ≡ false = ne_eqb (length a.processes) 0 (λ z. omega arith) in
      let whole : short b i 4 ≡ false = long_enough h 4 (omega arith) in
      rw (mark, several, whole) (ap (λ (u : Tie). refuse◌when◌else◌ BadTie (tie_fault a.processes u) (read_ties k (with_tie a u) b (i + 4))) (tie_at_lem t x h))

  -- one that ends too early
  pub tie_short : (i : ℕ) (a : Architecture) (k : ℕ) → tie_marked a b i ≡ true → short b i 4 ≡ true → read_ties (suc k) a b i ≡ refused SheetTooShort
  unfolding read_ties read_tie if refuse◌when◌else◌
  tie_short i a k mark e = rw (mark, e)

  -- none
  no_tie : (i : ℕ) (a : Architecture) (k : ℕ) → tie_marked a b i ≡ false → read_ties k a b i ≡ proper record { architecture = a; end = i }
  unfolding read_ties if
  no_tie i a zero mark = refl
  no_tie i a (suc k) mark = rw mark

-- more ties
with_ties : Architecture → List Tie → Architecture
with_ties a ts = retied a (a.ties ++ ts)

-- a proper front is proper without its last ties
fewer_ties : (a : Architecture) (ts : List Tie) → ProperFront (with_ties a ts) → ProperFront a
unfolding with_ties
fewer_ties a ts g = retied_proper (with_ties a ts) a.ties g (omega (arith, g.few_ties, length-append a.ties ts)) (λ t m. g.ties_proper t (Memᴰ.append_left ts m))

-- none more
no_ties_more : (a : Architecture) → with_ties a [] ≡ a
unfolding with_ties
no_ties_more a = λ j. retied a (append-nil a.ties j)

-- one tie, and then more
tie_then_more : (a : Architecture) (t : Tie) (ts : List Tie) → with_ties (with_tie a t) ts ≡ with_ties a (t ∷ ts)
unfolding with_tie with_ties
tie_then_more a t ts = λ j. retied a (append_assoc a.ties (t ∷ []) ts j)

-- all of them, with room for k more
ties_through : (b : List ℕ) (ts : List Tie) (k : ℕ) (a : Architecture) (i : ℕ) (x : List ℕ) → At b i (ties_bytes ts ++ x) → ProperFront (with_ties a ts)
    → read_ties (length ts + k) a b i ≡ read_ties k (with_ties a ts) b (i + length (ties_bytes ts))
unfolding ties_bytes tie_bytes with_tie
ties_through b [] k a i x h g = rw (zero-add k, add-zero i, no_ties_more a)
ties_through b (t ∷ ts) k a i x h g =
    let rest : At b (i + 4) (ties_bytes ts ++ x) = next (tie_bytes t) (ties_bytes ts ++ x) h in
    let g' : ProperFront (with_ties (with_tie a t) ts) = rw (tie_then_more a t ts) g in
    let own : ProperFront (with_tie a t) = fewer_ties (with_tie a t) ts g' in
    ap (λ (n : ℕ). read_ties n a b i) (suc-add (length ts) k)
    ∙ tie_next b i a (length ts + k) t (ties_bytes ts ++ x) h (some own)
    ∙ go BadTie _ (tie_faultless a t own)
    ∙ ties_through b ts k (with_tie a t) (i + 4) x rest g'
    ∙ ap₂ (λ (c : Architecture) (n : ℕ). read_ties k c b n) (tie_then_more a t ts) (omega arith)
  where
    -- who is tied is there
    some : ProperFront (with_tie a t) → 1 ≤ length a.processes
    some own = omega (arith, (own.ties_proper t (Memᴰ.append_right a.ties (Memᴰ.head refl))).left_known)

-- ---- the whole front
-- no further process is read: there are four, or a tie stands behind them, or another mark
abbrev pub NoProcess : List ℕ → Architecture → Type 0
NoProcess b a = (length a.processes ≡ 4) ⊎ ¬ (a.ties ≡ []) ⊎ (process_marked b (length (front_bytes a)) ≡ false)

module _ (a : Architecture) (x b : List ℕ) (e : b ≡ front_bytes a ++ x) (g : ProperFront a) (none : NoProcess b a) where
  u : Architecture
  u = untie a

  i : ℕ
  i = length (front_bytes u)

  whole : b ≡ front_bytes u ++ (ties_bytes a.ties ++ x)
  unfolding u
  whole = e ∙ ap (λ (w : List ℕ). w ++ x) (untied_bytes a) ∙ append_assoc (front_bytes (untie a)) (ties_bytes a.ties) x

  -- behind the processes stands none that would be read
  no_mark_there : (length a.processes ≡ 4) ⊎ (process_marked b i ≡ false)
  unfolding i u ties_bytes tie_bytes
  no_mark_there = by a.ties refl none (behind (front_bytes u) (ties_bytes a.ties ++ x) whole)
    where
      by : (ts : List Tie) → a.ties ≡ ts → NoProcess b a → At b i (ties_bytes ts ++ x) → (length a.processes ≡ 4) ⊎ (process_marked b i ≡ false)
      by ts is (inl full) h = inl full
      by [] is (inr (inl tied)) h = absurd (tied is)
      by [] is (inr (inr mark)) h = inr (ap (λ (c : Architecture). process_marked b (length (front_bytes c))) (untie_same a is) ∙ mark)
      by (t ∷ ts) is (inr n) h = inr (process_marked_is h)

  processes_done : read_front b ≡ read_ties 3 u b i
  unfolding then_ties ◌then◌ i u read_processes
  processes_done = by no_mark_there
    where
      few : length a.processes ≤ 4
      few = g.few_processes

      by : (length a.processes ≡ 4) ⊎ (process_marked b i ≡ false) → read_front b ≡ read_ties 3 u b i
      by (inl full) = processes_front a (ties_bytes a.ties ++ x) b 0 whole g (omega arith)
      by (inr mark) =
          processes_front a (ties_bytes a.ties ++ x) b (4 - length a.processes) whole g (omega arith)
          ∙ ap (then_ties b) (no_such_process b i u (4 - length a.processes) mark)

  -- all records, with room for k more ties
  pub ties_front : (k : ℕ) → length a.ties + k ≡ 3 → read_front b ≡ read_ties k a b (length (front_bytes a))
  unfolding u untie i with_ties
  ties_front k room =
      processes_done ∙ ap (λ (n : ℕ). read_ties n u b i) (sym room)
      ∙ ties_through b a.ties k u i x (behind (front_bytes u) (ties_bytes a.ties ++ x) whole) g
      ∙ ap (λ (n : ℕ). read_ties k a b n) (sym (ap length (untied_bytes a) ∙ length-append (front_bytes (untie a)) (ties_bytes a.ties)))

  -- with no room or no mark for another tie, it ends here
  pub front_done : (length a.ties ≡ 3) ⊎ (tie_marked a b (length (front_bytes a)) ≡ false) → read_front b ≡ proper record { architecture = a; end = length (front_bytes a) }
  unfolding read_ties
  front_done (inl full) = ties_front 0 (omega arith)
  front_done (inr mark) =
      let few : length a.ties ≤ 3 = g.few_ties in
      ties_front (3 - length a.ties) (omega arith) ∙ no_tie b (length (front_bytes a)) a (3 - length a.ties) mark
