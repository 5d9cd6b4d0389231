-- What reading finds at a place is what is written there: with x from place i on in the row b, the tests and bytes of b at i are those of x.
use mathlib.Core.Path.{◌≡◌, refl, sym, ap, ap₂, ◌∙◌, subst}
use mathlib.Core.Bool.{Bool, true, false, ◌&&◌, ◌||◌}
use mathlib.Core.List.{List, [], ◌∷◌, ◌++◌, append_assoc}
use Prim.Native.Nat.{ℕ, ◌+◌, ◌*◌, ◌≤◌, ◌<◌}
use native.Mathlib.Nat.{add-zero}
use native.Mathlib.Omega.{arith}
use lib.Dec.{eqb}
use lib.ListN.{length, length-append}
use lib.Seq.{get_or-append-add}
use borrow.Author.Tests.{lt-ltb, le-ltb}
use Rattle.model.specs.Sheet.{Process, Tie, Edge}
use Rattle.model.specs.Mask.{if}
use Rattle.model.specs.Reading.{byte, short, marked, process_marked, edge_marked, PR, PM, ED, EX, prompts_at, process_at, process_size, tie_at, edge_at}
use Rattle.model.specs.SheetFile.{process_mark, process_bytes, tie_bytes, edge_mark, edge_bytes, edges_bytes}

-- b has x from place i on
pub record At (b : List ℕ) (i : ℕ) (x : List ℕ) : Type 0 where
  pub before : List ℕ
  pub whole : b ≡ before ++ x
  pub place : i ≡ length before

-- the place behind w
pub behind : (w x : List ℕ) {b : List ℕ} → b ≡ w ++ x → At b (length w) x
behind w x e = record { before = w; whole = e; place = refl }

-- ---- an edge is six bytes, whatever its kind, and two of them are its mark
mark_two : (unless : Bool) → edge_mark unless ≡ 0x45 ∷ byte (edge_mark unless) 1 ∷ []
unfolding edge_mark
mark_two true = refl
mark_two false = refl

pub mark_long : (unless : Bool) → length (edge_mark unless) ≡ 2
mark_long unless = ap length (mark_two unless)

edge_six : (e : Edge) → edge_bytes e ≡ 0x45 ∷ byte (edge_mark e.unless) 1 ∷ e.from ∷ e.to ∷ e.on ∷ e.off ∷ []
unfolding edge_bytes
edge_six e = ap (λ (m : List ℕ). m ++ (e.from ∷ e.to ∷ e.on ∷ e.off ∷ [])) (mark_two e.unless)

pub edge_long : (e : Edge) → length (edge_bytes e) ≡ 6
edge_long e = ap length (edge_six e)

pub edges_long : (es : List Edge) → length (edges_bytes es) ≡ 6 * length es
unfolding edges_bytes
edges_long [] = refl
edges_long (e ∷ es) = omega (arith, length-append (edge_bytes e) (edges_bytes es), edge_long e, edges_long es)

-- ---- a process is five bytes or six, and two of them are its mark
process_mark_two : (prompted : Bool) → process_mark prompted ≡ 0x50 ∷ byte (process_mark prompted) 1 ∷ []
unfolding process_mark if
process_mark_two true = refl
process_mark_two false = refl

pub process_mark_long : (prompted : Bool) → length (process_mark prompted) ≡ 2
process_mark_long prompted = ap length (process_mark_two prompted)

-- what is read of a process that is written: a PR has no prompt inputs
unfoldable pub written : Process → Process
written p = record { inputs = p.inputs; outputs = p.outputs; bound = p.bound; prompts = if p.prompted p.prompts 0; prompted = p.prompted }

pub written_same : (p : Process) → (p.prompted ≡ false → p.prompts ≡ 0) → written p ≡ p
unfolding written if
written_same p none = λ j. record { inputs = p.inputs; outputs = p.outputs; bound = p.bound; prompts = mask p.prompted refl j; prompted = p.prompted }
  where
    mask : (t : Bool) → p.prompted ≡ t → if t p.prompts 0 ≡ p.prompts
    mask true e = refl
    mask false e = sym (none e)

pub process_long : (p : Process) → length (process_bytes p) ≡ if p.prompted 6 5
unfolding process_bytes process_mark if
process_long p = by p.prompted
  where
    by : (t : Bool) → length (process_mark t ++ (p.inputs ∷ p.outputs ∷ p.bound ∷ if t (p.prompts ∷ []) [])) ≡ if t 6 5
    by true = refl
    by false = refl

-- ---- what stands at i
module _ {b : List ℕ} {i : ℕ} where
  -- the place behind the record r
  pub next : (r x : List ℕ) → At b i (r ++ x) → At b (i + length r) x
  next r x h = record {
    before = h.before ++ r;
    whole = h.whole ∙ sym (append_assoc h.before r x);
    place = omega (arith, h.place, length-append h.before r);
  }

  -- how many bytes there are
  pub length_at : {x : List ℕ} → At b i x → length b ≡ i + length x
  length_at {x} h = ap length h.whole ∙ omega (arith, h.place, length-append h.before x)

  -- the byte j behind i
  pub byte_at : {x : List ℕ} → At b i x → (j : ℕ) → byte b (i + j) ≡ byte x j
  byte_at {x} h j = rw (h.whole, h.place) (get_or-append-add h.before x j 0)

  -- fewer than n bytes are left
  pub too_short : {x : List ℕ} → At b i x → (n : ℕ) → length x < n → short b i n ≡ true
  unfolding short
  too_short h n l = lt-ltb (length b) (i + n) (omega (arith, length_at h))

  -- n bytes are left
  pub long_enough : {x : List ℕ} → At b i x → (n : ℕ) → n ≤ length x → short b i n ≡ false
  unfolding short
  long_enough h n l = le-ltb (length b) (i + n) (omega (arith, length_at h))

  -- within a mark none stands
  pub no_mark : {x : List ℕ} → At b i x → length x < 2 → (m : List ℕ) → marked b i m ≡ false
  unfolding marked
  no_mark h l m = rw (too_short h 2 l)

  pub no_process_mark : {x : List ℕ} → At b i x → length x < 2 → process_marked b i ≡ false
  unfolding process_marked
  no_process_mark h l = rw (no_mark h l PR, no_mark h l PM)

  pub no_edge_mark : {x : List ℕ} → At b i x → length x < 2 → edge_marked b i ≡ false
  unfolding edge_marked
  no_edge_mark h l = rw (no_mark h l ED, no_mark h l EX)

  -- a whole mark is told by its bytes
  pub marked_at : {y z : ℕ} {x : List ℕ} → At b i (y ∷ z ∷ x) → (m : List ℕ) → marked b i m ≡ (eqb y (byte m 0) && eqb z (byte m 1))
  unfolding marked
  marked_at {y} {z} {x} h m =
      let first : byte b i ≡ y = ap (byte b) (sym (add-zero i)) ∙ byte_at h 0 in
      let second : byte b (i + 1) ≡ z = byte_at h 1 in
      let whole : short b i 2 ≡ false = long_enough h 2 (omega arith) in
      rw (whole, first, second)

  pub process_marked_is : {y z : ℕ} {x : List ℕ} → At b i (y ∷ z ∷ x) → process_marked b i ≡ ((eqb y 0x50 && eqb z 0x52) || (eqb y 0x50 && eqb z 0x4D))
  unfolding process_marked
  process_marked_is h = ap₂ (λ (s t : Bool). s || t) (marked_at h PR) (marked_at h PM)

  -- the mark of a process tells its kind
  pub process_marked_at : (prompted : Bool) (x : List ℕ) → At b i (process_mark prompted ++ x) → process_marked b i ≡ true
  unfolding process_mark process_marked if
  process_marked_at true x h = rw (marked_at h PR, marked_at h PM)
  process_marked_at false x h = rw (marked_at h PR)

  process_kind_at : (prompted : Bool) (x : List ℕ) → At b i (process_mark prompted ++ x) → marked b i PM ≡ prompted
  unfolding process_mark if
  process_kind_at true x h = marked_at h PM
  process_kind_at false x h = marked_at h PM

  -- and with it its size
  pub process_size_at : (prompted : Bool) (x : List ℕ) → At b i (process_mark prompted ++ x) → process_size b i ≡ if prompted 6 5
  unfolding process_size if
  process_size_at prompted x h = ap (λ (t : Bool). if t 6 5) (process_kind_at prompted x h)

  -- a process opens with it
  pub process_opens : (p : Process) (x : List ℕ) → At b i (process_bytes p ++ x)
      → At b i (process_mark p.prompted ++ (p.inputs ∷ p.outputs ∷ p.bound ∷ if p.prompted (p.prompts ∷ []) [] ++ x))
  unfolding process_bytes
  process_opens p x h = subst (At b i) (append_assoc (process_mark p.prompted) (p.inputs ∷ p.outputs ∷ p.bound ∷ if p.prompted (p.prompts ∷ []) []) x) h

  -- the fields of a PR or PM
  pub process_at_lem : (p : Process) (x : List ℕ) → At b i (process_bytes p ++ x) → process_at b i ≡ written p
  unfolding process_bytes process_mark prompts_at written if
  process_at_lem p x h = by p.prompted h
    where
      by : (t : Bool) → At b i ((process_mark t ++ (p.inputs ∷ p.outputs ∷ p.bound ∷ if t (p.prompts ∷ []) [])) ++ x)
          → process_at b i ≡ record { inputs = p.inputs; outputs = p.outputs; bound = p.bound; prompts = if t p.prompts 0; prompted = t }
      by true h =
          let kind : marked b i PM ≡ true = marked_at h PM in
          let mask : prompts_at b i ≡ p.prompts = ap (λ (t : Bool). if t (byte b (i + 5)) 0) kind ∙ byte_at h 5 in
          λ j. record { inputs = byte_at h 2 j; outputs = byte_at h 3 j; bound = byte_at h 4 j; prompts = mask j; prompted = kind j }
      by false h =
          let kind : marked b i PM ≡ false = marked_at h PM in
          let mask : prompts_at b i ≡ 0 = ap (λ (t : Bool). if t (byte b (i + 5)) 0) kind in
          λ j. record { inputs = byte_at h 2 j; outputs = byte_at h 3 j; bound = byte_at h 4 j; prompts = mask j; prompted = kind j }

  -- the fields of an SY
  pub tie_at_lem : (t : Tie) (x : List ℕ) → At b i (tie_bytes t ++ x) → tie_at b i ≡ t
  unfolding tie_bytes
  tie_at_lem t x h = λ j. record { left = byte_at h 2 j; right = byte_at h 3 j }

  -- the mark of an edge tells its kind
  pub edge_marked_at : (unless : Bool) (x : List ℕ) → At b i (edge_mark unless ++ x) → edge_marked b i ≡ true
  unfolding edge_mark edge_marked
  edge_marked_at true x h = rw (marked_at h ED, marked_at h EX)
  edge_marked_at false x h = rw (marked_at h ED)

  kind_at_lem : (unless : Bool) (x : List ℕ) → At b i (edge_mark unless ++ x) → marked b i EX ≡ unless
  unfolding edge_mark
  kind_at_lem true x h = marked_at h EX
  kind_at_lem false x h = marked_at h EX

  -- an edge opens with it
  pub edge_opens : (e : Edge) (x : List ℕ) → At b i (edge_bytes e ++ x) → At b i (edge_mark e.unless ++ (e.from ∷ e.to ∷ e.on ∷ e.off ∷ x))
  unfolding edge_bytes
  edge_opens e x h = subst (At b i) (append_assoc (edge_mark e.unless) (e.from ∷ e.to ∷ e.on ∷ e.off ∷ []) x) h

  -- the fields of an ED or EX
  pub edge_at_lem : (e : Edge) (x : List ℕ) → At b i (edge_bytes e ++ x) → edge_at b i ≡ e
  edge_at_lem e x h =
      let kind : marked b i EX ≡ e.unless = kind_at_lem e.unless _ (edge_opens e x h) in
      let six = subst (λ (r : List ℕ). At b i (r ++ x)) (edge_six e) h in
      λ j. record { from = byte_at six 2 j; to = byte_at six 3 j; on = byte_at six 4 j; off = byte_at six 5 j; unless = kind j }
