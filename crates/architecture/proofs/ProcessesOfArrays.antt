-- The processes and the ties of an architecture's arrays are those that an architecture has, one at a time: what each adds to the entries, the rows and the composed states,
-- and the bounds that a proper architecture sets.
use mathlib.Core.Path.{◌≡◌, refl, sym, ap, ap₂, ◌∙◌}
use mathlib.Core.List.{List, [], ◌∷◌, ◌++◌, Memᴰ}
use Prim.Native.Nat.{ℕ, zero, suc, ◌+◌, ◌-◌, ◌*◌, ◌^◌, ◌<◌, ◌≤◌}
use native.Mathlib.Numerals.{add-one}
use native.Mathlib.Nat.{mul-le-mul, suc-mul, mul-le-mul_right, mul_comm, pow-suc, pow-le-pow_right}
use native.Mathlib.Omega.{arith}
use native.Mathlib.Decide.{ℕ_discrete}
use lib.Dec.{eqb, eqb-suc-zero}
use lib.Pow.{pow_mono}
use lib.ListN.{length, get_or, take, drop, set, length-append}
use lib.Seq.{get_or-set_same, get_or-set_other, get_or-take}
use Rattle.theory.proofs.ListLaws.{Grows, grown_length, grown_at, grown_has, grown_next, grown_end, grown_same}
use Rattle.model.specs.Mask.{if, count}
use Rattle.model.specs.Sheet as model
use Rattle.model.specs.Sheet.{composed_states, ProperProcess}
use Rattle.model.specs.Compose.{row_length, process_length, row_at}
use Rattle.model.specs.Choice.{row, times, rows, entries}
use Rattle.model.proofs.FitsTest.{row_length_lem}
use Rattle.model.proofs.ComposedNumbers.{times_length}
use Rattle.model.proofs.EntriesBound.{row_few}
use Rattle.architecture.specs.declared.TheConstants.{NO_PROCESS, NO_TIE}
use Rattle.architecture.specs.declared.Process.{Process}
use Rattle.architecture.specs.declared.Tie.{Tie}
use Rattle.architecture.specs.declared.Architecture.{Architecture}
use Rattle.architecture.specs.Struct.{process_of, processes_of, process_in, first_in, processes_in, tie_of, ties_of, architecture_of, Arrays, IsProper, entries_of}

-- ---- the entries of processes
pub rows_length : (ps : List model.Process) → length (rows ps) ≡ entries_of ps
unfolding rows entries_of process_length
rows_length [] = refl
rows_length (p ∷ ps) =
    length-append (times p.bound (row p)) (rows ps) ∙ ap₂ (λ (m n : ℕ). m + n) (times_length p.bound (row p) ∙ ap (λ (n : ℕ). p.bound * n) (row_length_lem p)) (rows_length ps)

-- one process more
pub entries_snoc : (ps : List model.Process) (p : model.Process) → entries_of (ps ++ (p ∷ [])) ≡ entries_of ps + process_length p
unfolding entries_of
entries_snoc [] p = omega arith
entries_snoc (q ∷ ps) p = omega (arith, entries_snoc ps p)

-- at most 4 rows
length_few : (p : model.Process) → count p.inputs ≤ 4 → p.bound ≤ 4 → process_length p ≤ 68
unfolding process_length
length_few p hi hb = mul-le-mul hb (row_few p hi)

-- the row of a state lies within the entries of its process
pub row_inside : (p : model.Process) (at x : ℕ) → x < p.bound → row_at p at x + row_length p ≤ at + process_length p
unfolding row_at process_length
row_inside p at x h = omega (arith, simp suc-mul at (mul-le-mul_right (row_length p) h))

-- ---- the processes of the arrays: f 0, f 1, ..
processes_grow : (f : ℕ → model.Process) → Grows f (λ n. processes_of n f)
unfolding processes_of
processes_grow f = record { none = refl; more = λ n. refl }

pub processes_length : (n : ℕ) (f : ℕ → model.Process) → length (processes_of n f) ≡ n
processes_length n f = grown_length (processes_grow f) n

module _ (f : ℕ → model.Process) where
  -- process j of the list is that of entry j
  pub processes_at : (n j : ℕ) (d : model.Process) → j < n → get_or (processes_of n f) j d ≡ f j
  processes_at = grown_at (processes_grow f)

  -- from j on, and from j + 1 on
  pub process_next : (n j : ℕ) → j < n → drop j (processes_of n f) ≡ f j ∷ drop (j + 1) (processes_of n f)
  process_next = grown_next (processes_grow f)

  pub processes_end : (n : ℕ) → drop n (processes_of n f) ≡ []
  processes_end = grown_end (processes_grow f)

-- one more
pub processes_more : (n : ℕ) (f g : ℕ → model.Process) → ((k : ℕ) → k < n → g k ≡ f k) → processes_of (n + 1) g ≡ processes_of n f ++ (g n ∷ [])
unfolding processes_of
processes_more n f g before = rw (add-one n, grown_same (processes_grow g) (processes_grow f) n before)

-- process k stands at k also among the first n
pub process_taken : (a : Architecture) (n k : ℕ) → k < n → process_of (get_or (take n a.process_list) k NO_PROCESS) ≡ process_in a k
process_taken a n k h = ap process_of (get_or-take n a.process_list k NO_PROCESS h)

-- a store behind the processes of a leaves those before it
pub process_stored : (a : Architecture) (p : Process) → Arrays a → a.processes < 4
    → processes_of (a.processes + 1) (λ k. process_of (get_or (set a.process_list a.processes p) k NO_PROCESS)) ≡ processes_in a ++ (process_of p ∷ [])
process_stored a p z room =
    processes_more a.processes (process_in a) _ (λ k h. let ne : k ≡ a.processes → ⊥ = λ e. omega arith in ap process_of (get_or-set_other a.process_list a.processes k p NO_PROCESS ne))
    ∙ ap (λ (q : Process). processes_in a ++ (process_of q ∷ [])) (get_or-set_same a.process_list a.processes p NO_PROCESS (omega (arith, z.processes_long)))

-- and where they end, none from there on has prompt inputs
pub prompts_stored : (a : Architecture) (p : Process) (end : ℕ) → Arrays a → a.processes < 4 → end ≡ if (eqb p.prompts 0) a.prompt_end (a.processes + 1)
    → (k : ℕ) → end ≤ k → k < a.processes + 1 → (get_or (set a.process_list a.processes p) k NO_PROCESS).prompts ≡ 0
unfolding if
prompts_stored a p end z room is k l h = by (ℕ_discrete k a.processes) p.prompts refl is
  where
    by : Dec (k ≡ a.processes) → (m : ℕ) → p.prompts ≡ m → end ≡ if (eqb m 0) a.prompt_end (a.processes + 1) → (get_or (set a.process_list a.processes p) k NO_PROCESS).prompts ≡ 0
    by d (suc m) em e = absurd (omega (arith, rw (eqb-suc-zero m) at e))
    by (yes same) zero em e = rw same (ap (λ (q : Process). q.prompts) (get_or-set_same a.process_list a.processes p NO_PROCESS (omega (arith, z.processes_long))) ∙ em)
    by (no other) zero em e = ap (λ (q : Process). q.prompts) (get_or-set_other a.process_list a.processes k p NO_PROCESS other) ∙ z.prompts_ended k (omega (arith, e)) (omega arith)

-- ---- the ties of the array
ties_grow : (ts : List Tie) → Grows (tie_of ts) (λ n. ties_of n ts)
unfolding ties_of
ties_grow ts = record { none = refl; more = λ n. refl }

pub ties_length : (n : ℕ) (ts : List Tie) → length (ties_of n ts) ≡ n
ties_length n ts = grown_length (ties_grow ts) n

-- from k on, and from k + 1 on
pub tie_next : (ts : List Tie) (n k : ℕ) → k < n → drop k (ties_of n ts) ≡ tie_of ts k ∷ drop (k + 1) (ties_of n ts)
tie_next ts = grown_next (ties_grow ts)

pub ties_end : (ts : List Tie) (n : ℕ) → drop n (ties_of n ts) ≡ []
ties_end ts = grown_end (ties_grow ts)

-- tie k is one of them
pub tie_has : (ts : List Tie) (n k : ℕ) → k < n → Memᴰ (tie_of ts k) (ties_of n ts)
tie_has ts = grown_has (ties_grow ts)

-- and it stands at k also among the first n
pub tie_taken : (ts : List Tie) (n k : ℕ) → k < n → tie_of (take n ts) k ≡ tie_of ts k
tie_taken ts n k h = ap (λ (t : Tie). record { left = t.left; right = t.right }) (get_or-take n ts k NO_TIE h)

-- a store at n leaves the entries before it
pub ties_more : (n : ℕ) (ts : List Tie) (t : Tie) → n < length ts → ties_of (n + 1) (set ts n t) ≡ ties_of n ts ++ (record { left = t.left; right = t.right } ∷ [])
unfolding ties_of
ties_more n ts t h = rw (add-one n, grown_same (ties_grow (set ts n t)) (ties_grow ts) n before, get_or-set_same ts n t NO_TIE h)
  where
    before : (k : ℕ) → k < n → tie_of (set ts n t) k ≡ tie_of ts k
    before k l = let ne : k ≡ n → ⊥ = λ e. omega arith in rw (get_or-set_other ts n k t NO_TIE ne)

-- ---- process j's part of what is made of all, from j on
module _ (f : ℕ → model.Process) (n j : ℕ) (h : j < n) where
  entries_turn : entries_of (drop j (processes_of n f)) ≡ process_length (f j) + entries_of (drop (j + 1) (processes_of n f))
  unfolding entries_of
  entries_turn = rw (process_next f n j h)

  pub states_turn : (e : ℕ) → composed_states e (drop j (processes_of n f)) ≡ (f j).bound * composed_states e (drop (j + 1) (processes_of n f))
  unfolding composed_states
  states_turn e = rw (process_next f n j h)

-- ---- what the code reads of process j
module _ (f : ℕ → model.Process) (j : ℕ) where
  -- the row's length, from the input mask
  pub row_is : (inp row : ℕ) → inp ≡ (f j).inputs → row ≡ 1 + 2 ^ count inp → row ≡ row_length (f j)
  unfolding row_length
  row_is inp row ei er = er ∙ ap (λ (m : ℕ). 1 + 2 ^ count m) ei

  -- its entries, from the bound and the row's length
  pub length_is : (bound row : ℕ) → bound ≡ (f j).bound → row ≡ row_length (f j) → bound * row ≡ process_length (f j)
  unfolding process_length
  length_is bound row eb er = ap₂ (λ (m n : ℕ). m * n) eb er

  -- where the row of its state begins
  pub from_is : (at x y row from : ℕ) → x ≡ y → row ≡ row_length (f j) → from ≡ at + x * row → from ≡ row_at (f j) at y
  unfolding row_at
  from_is at x y row from ex er ef = ef ∙ ap₂ (λ (m n : ℕ). at + m * n) ex er

  -- where the entries of the next process begin
  pub start_next : entries_of (processes_of (j + 1) f) ≡ entries_of (processes_of j f) + process_length (f j)
  unfolding processes_of
  start_next = rw (add-one j) (entries_snoc (processes_of j f) (f j))

-- how many processes there are
pub count_is : (a : Architecture) → length (architecture_of a).processes ≡ a.processes
unfolding architecture_of
count_is a = processes_length a.processes (process_in a)

-- and how many ties
pub ties_count : (a : Architecture) → length (architecture_of a).ties ≡ a.ties
unfolding architecture_of
ties_count a = ties_length a.ties a.tie_list

-- ---- what is known of a proper architecture, by the number of a process
pub record Facts (a : Architecture) : Type 0 where
  pub few_processes : a.processes ≤ 4
  pub few_environment : a.environment ≤ 4
  pub inputs_known : (i : ℕ) → i < a.processes → (process_in a i).inputs < 256
  pub outputs_known : (i : ℕ) → i < a.processes → (process_in a i).outputs < 256
  pub few_inputs : (i : ℕ) → i < a.processes → count (process_in a i).inputs ≤ 4
  pub some_state : (i : ℕ) → i < a.processes → 1 ≤ (process_in a i).bound
  pub few_states : (i : ℕ) → i < a.processes → (process_in a i).bound ≤ 4
  pub few_composed : composed_states a.environment (processes_in a) ≤ 256

module _ {a : Architecture} (z : IsProper a) where
  process_proper : (j : ℕ) → j < a.processes → ProperProcess a.variables a.environment (process_in a j)
  unfolding architecture_of
  process_proper j h = z.proper.front.processes_proper (process_in a j) (grown_has (processes_grow (process_in a)) a.processes j h)

  pub facts : Facts a
  unfolding architecture_of
  facts =
      let few = pow_mono {i = a.variables} {j = 8} z.proper.front.few_variables in
      record {
        few_processes = z.arrays.few_processes;
        few_environment = z.proper.front.few_environment;
        inputs_known = λ j h. omega (arith, few, (process_proper j h).inputs_known);
        outputs_known = λ j h. omega (arith, few, (process_proper j h).outputs_known);
        few_inputs = λ j h. (process_proper j h).few_inputs;
        some_state = λ j h. (process_proper j h).some_state;
        few_states = λ j h. (process_proper j h).few_states;
        few_composed = z.proper.few_composed;
      }

module _ (a : Architecture) (z : IsProper a) where
  pub process_few : (j : ℕ) → j < a.processes → process_length (process_in a j) ≤ 68
  process_few j h = length_few (process_in a j) ((facts z).few_inputs j h) ((facts z).few_states j h)

  -- all entries of the first j processes
  pub start_few : (j : ℕ) → j ≤ a.processes → entries_of (first_in a j) ≤ 68 * j
  unfolding processes_of entries_of
  start_few zero h = omega arith
  start_few (suc j) h =
      omega (
        arith,
        entries_snoc (first_in a j) (process_in a j),
        process_few j (omega arith),
        start_few j (omega arith),
      )

-- the entries of a choice are those of all processes
pub entries_are : (a : Architecture) → length (entries (architecture_of a)) ≡ entries_of (processes_in a)
unfolding entries architecture_of
entries_are a = rows_length (processes_in a)

-- where the entries of process j begin at `at`, its row and the rest lie within all entries
module _ (a : Architecture) (j at : ℕ) (h : j < a.processes) (known : at + entries_of (drop j (processes_in a)) ≡ entries_of (processes_in a)) where
  pub rest_within : at + process_length (process_in a j) + entries_of (drop (j + 1) (processes_in a)) ≡ entries_of (processes_in a)
  rest_within = omega (arith, entries_turn (process_in a) a.processes j h)

  pub row_within : (x : ℕ) → x < (process_in a j).bound → row_at (process_in a j) at x + row_length (process_in a j) ≤ entries_of (processes_in a)
  row_within x l = omega (arith, rest_within, row_inside (process_in a j) at x l)

  pub at_few : IsProper a → at ≤ 272
  at_few z = omega (arith, start_few a z a.processes (omega arith), (facts z).few_processes)

-- the entries of the first j processes, and of the others
pub starts_at : (a : Architecture) (j : ℕ) → j ≤ a.processes → entries_of (first_in a j) + entries_of (drop j (processes_in a)) ≡ entries_of (processes_in a)
unfolding entries_of processes_of
starts_at a zero h = omega arith
starts_at a (suc j) h =
    omega (arith, starts_at a j (omega arith), rw (add-one j) at (start_next (process_in a) j), rw (add-one j) at (entries_turn (process_in a) a.processes j h))

-- ---- products of bounds, each at most 4
pub fours_turn : (n i : ℕ) → 0 < i → i ≤ n → 4 ^ (n - (i - 1)) ≡ 4 ^ (n - i) * 4
fours_turn n i p h = let e : n - (i - 1) ≡ suc (n - i) = omega arith in rw e (pow-suc 4 (n - i))

pub fours_few : (n i : ℕ) → n ≤ 4 → 4 ^ (n - i) ≤ 256
fours_few n i h = pow-le-pow_right {n = 4} (omega arith) {i = n - i} {j = 4} (omega arith)

-- ---- the loops that go back, from process i to the one before it
module _ (f : ℕ → model.Process) (n k : ℕ) (pos : 0 < k) (h : k ≤ n) where
  pub states_back : (e total bound : ℕ) → bound ≡ (f (k - 1)).bound → total ≡ composed_states e (drop k (processes_of n f))
      → total * bound ≡ composed_states e (drop (k - 1) (processes_of n f))
  states_back e total bound eb et =
      let one : k - 1 + 1 ≡ k = omega arith in
      let t = rw one at (states_turn f n (k - 1) (omega arith) e) in
      mul_comm total bound ∙ ap₂ (λ (x y : ℕ). x * y) eb et ∙ sym t
