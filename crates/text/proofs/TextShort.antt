-- How long the text of a found choice is at most.
use mathlib.Core.Path.{refl}
use mathlib.Core.List.Memᴰ
use mathlib.Core.List.{List, [], ◌∷◌}
use Prim.Native.Nat.{ℕ, suc, ◌+◌, ◌*◌, ◌<◌, ◌≤◌}
use native.Mathlib.Omega.{arith}
use lib.ListN.{length, get_or, drop, length-append, length-take, length-drop}
use lib.Seq.{get_or-drop}
use Rattle.theory.specs.Lists.{greatest}
use Rattle.model.specs.Ascii.{ascii}
use Rattle.model.specs.Sheet.{Process, Architecture, ProperProcess, ProperProcesses, ProperArchitecture}
use Rattle.model.specs.Compose.{row_length, row_at}
use Rattle.model.specs.SheetFile.{Bytes}
use Rattle.model.proofs.Damage.{bytes_take}
use Rattle.model.proofs.EntriesBound.{row_few}
use Rattle.template.proofs.FilledShort.{longest, filled_short}
use Rattle.text.specs.Rows.{row_of}
use Rattle.text.specs.Text.{field, fields, head, row_text, rows_text, tables_text, row_count, unblank, greatest_text, text_of}
use Rattle.text.proofs.RowsShort.{from_short, processes_short}

-- ---- rows of bytes
bytes_drop : (b : List ℕ) (n : ℕ) → Bytes b → Bytes (drop n b)
bytes_drop b n h i = rw get_or-drop (h (n + i))

pub row_bytes : (p : Process) (at : ℕ) (c : List ℕ) (x : ℕ) → Bytes c → Bytes (row_of p at c x)
row_bytes p at c x h = bytes_take (drop (row_at p at x) c) (row_length p) (bytes_drop c (row_at p at x) h)

-- a row has at most 17 entries
pub row_short : (p : Process) (at : ℕ) (c : List ℕ) (x : ℕ) {v e : ℕ} → ProperProcess v e p → length (row_of p at c x) ≤ 17
row_short p at c x g = simp length-take (omega (arith, row_few p g.few_inputs))

-- ---- tables
fields_short : (ns : List ℕ) → Bytes ns → length (fields ns) ≤ 4 * length ns
unfolding fields longest
fields_short [] h = omega arith
fields_short (n ∷ ns) h =
    let own : length (field n) ≤ 4 = filled_short 2 (ascii " #") (n ∷ []) (omega (arith, h 0), tt) in
    omega (arith, length-append (field n) (fields ns), fields_short ns (λ k. h (suc k)))

-- a row has at most 75 bytes
line_short : (i x : ℕ) (row : List ℕ) → i < 1000 → x < 1000 → Bytes row → length row ≤ 17 → length (row_text i x row) ≤ 75
unfolding row_text longest
line_short i x row hi hx h l =
    let front : length (head i x (get_or row 0 0)) ≤ 10 = filled_short 2 (ascii "# # %") (i ∷ x ∷ get_or row 0 0 ∷ []) (hi, (hx, (omega (arith, h 0), tt))) in
    simp length-append (omega (arith, fields_short (drop 1 row) (bytes_drop row 1 h), length-drop 1 row))

tables_short : {v e : ℕ} (ps : List Process) (c : List ℕ) → ProperProcesses v e ps → length ps ≤ 4 → Bytes c → length (tables_text ps c) ≤ length ps * 300
tables_short {v} {e} ps c g few h = processes_short (rows_text c) 300 4 one 0 ps 0 g (omega arith)
  where
    row : (i : ℕ) (p : Process) (at : ℕ) → i < 4 → ProperProcess v e p → (x : ℕ) → x < 4 → length (row_text i x (row_of p at c x)) ≤ 75
    row i p at hi own x hx = line_short i x (row_of p at c x) (omega arith) (omega arith) (row_bytes p at c x h) (row_short p at c x own)

    one : (i : ℕ) (p : Process) (at : ℕ) → i < 4 → ProperProcess v e p → length (rows_text c i p at) ≤ 300
    one i p at hi own = omega (arith, own.few_states, from_short (λ x. row_text i x (row_of p at c x)) 75 4 (row i p at hi own) p.bound 0 (omega (arith, own.few_states)))

count_few : {v e : ℕ} (ps : List Process) → ProperProcesses v e ps → row_count ps ≤ 4 * length ps
unfolding row_count
count_few [] g = omega arith
count_few (p ∷ ps) g = omega (arith, (g p (Memᴰ.head refl)).few_states, count_few ps (λ q m. g q (Memᴰ.tail m)))

-- ---- the lines with a number
pub greatest_short : (annotation : List ℕ) → greatest unblank annotation < 65536 → length (greatest_text annotation) ≤ 15
unfolding longest
greatest_short annotation few = filled_short 4 (ascii "greatest #\n") (greatest unblank annotation ∷ []) (omega arith, tt)

-- ---- the text: at most 16 rows between two lines
pub text_short : (a : Architecture) (c annotation : List ℕ) → ProperArchitecture a → Bytes c → greatest unblank annotation < 65536 → length (text_of a c annotation) ≤ 2048
unfolding text_of longest
text_short a c annotation g h few =
    let ps = a.processes in
    let f = g.front in
    let count = filled_short 4 (ascii "tables #\n") (row_count ps ∷ []) (omega (arith, count_few ps f.processes_proper, f.few_processes), tt) in
    simp length-append (omega (arith, count, f.few_processes, tables_short ps c f.processes_proper f.few_processes h, greatest_short annotation few))
