-- 01, "Who causes which refusal", 8 to 14, 19 and 20: what each call is refused for, in order. Each case has its own condition, and that none before it holds.
use Rattle.std.specs.Prelude.{◌≡◌, ◌⊎◌, ℕ, ◌*◌, ◌^◌, ◌≤◌, ◌<◌, length}
use mathlib.Core.List.{List, Memᴰ}
use Rattle.std.proofs.Math.Option.{some}
use Rattle.std.proofs.Math.ListN.{get_elem?}
use Rattle.model.specs.declared.Refusal.{Refusal}
use Rattle.model.specs.declared.Refusal.TheVariants.{BufferTooShort, AnnotationBufferTooShort, BadBook, BadEntry, NoSuchProcess, PathBufferTooShort, BadDirectionOrDesk, FrontsDiffer, JoinTooLarge}
use Rattle.model.specs.declared.ProcessState.{ProcessState}
use Rattle.model.specs.declared.Desk.{Desk}
use Rattle.model.specs.Numbers.{number, sheet_numbers}
use Rattle.model.specs.Sheet.{Process, Architecture, Automaton, Sheet}
use Rattle.model.specs.Reading.{refused, proper, read_sheet}
use Rattle.model.specs.SheetFile.{front_bytes, sheet_bytes}
use Rattle.model.specs.Join.{join_automata, join_sheets}
use Rattle.model.specs.Choice.{entries, IsChoice, chosen}
use Rattle.model.specs.RunGraph.{vertices}
use Rattle.model.specs.Book.{book_length, book_of}

-- the book has the length, and the marks, process and state bytes that are due; its other bytes are these entries
pub record Formed (a : Architecture) (book c : List ℕ) : Type 0 where
  pub all_entries : length c ≡ length (entries a)
  pub is_book : book_of a c ≡ book

-- 10, over the whole book, then 11
pub data BookRefused (a : Architecture) (book : List ℕ) : Refusal → Type 0 where
  not_formed : ((c : List ℕ) → ¬ Formed a book c) → BookRefused a book BadBook
  no_choice : (c : List ℕ) → Formed a book c → ¬ IsChoice a c → BookRefused a book BadEntry

-- find: the sheet's faults, then 8, then 9
pub data FindRefused (sheet book ann : List ℕ) : Refusal → Type 0 where
  by_sheet : (r : Refusal) → read_sheet sheet ≡ refused r → FindRefused sheet book ann r
  short_book : (s : Sheet) → read_sheet sheet ≡ proper s → length book < book_length s.architecture → FindRefused sheet book ann BufferTooShort
  short_annotation : (s : Sheet) → read_sheet sheet ≡ proper s → book_length s.architecture ≤ length book → length ann < vertices s
      → FindRefused sheet book ann AnnotationBufferTooShort

-- judge: the sheet's faults, then 10, 11, then 9
pub data JudgeRefused (sheet book ann : List ℕ) : Refusal → Type 0 where
  by_sheet : (r : Refusal) → read_sheet sheet ≡ refused r → JudgeRefused sheet book ann r
  by_book : (s : Sheet) (r : Refusal) → read_sheet sheet ≡ proper s → BookRefused s.architecture book r → JudgeRefused sheet book ann r
  short_annotation : (s : Sheet) (c : List ℕ) → read_sheet sheet ≡ proper s → Formed s.architecture book c → IsChoice s.architecture c → length ann < vertices s
      → JudgeRefused sheet book ann AnnotationBufferTooShort

-- annotate: the sheet's faults, then 10, 11, then 13, then 9
pub data AnnotateRefused (sheet book ann path : List ℕ) : Refusal → Type 0 where
  by_sheet : (r : Refusal) → read_sheet sheet ≡ refused r → AnnotateRefused sheet book ann path r
  by_book : (s : Sheet) (r : Refusal) → read_sheet sheet ≡ proper s → BookRefused s.architecture book r → AnnotateRefused sheet book ann path r
  short_path : (s : Sheet) (c : List ℕ) → read_sheet sheet ≡ proper s → Formed s.architecture book c → IsChoice s.architecture c → length path < 4 * vertices s
      → AnnotateRefused sheet book ann path PathBufferTooShort
  short_annotation : (s : Sheet) (c : List ℕ) → read_sheet sheet ≡ proper s → Formed s.architecture book c → IsChoice s.architecture c → 4 * vertices s ≤ length path
      → length ann < vertices s → AnnotateRefused sheet book ann path AnnotationBufferTooShort

-- write: the sheet's faults, then 11, then 8
pub data WriteRefused (sheet tables book : List ℕ) : Refusal → Type 0 where
  by_sheet : (r : Refusal) → read_sheet sheet ≡ refused r → WriteRefused sheet tables book r
  no_choice : (s : Sheet) → read_sheet sheet ≡ proper s → ¬ IsChoice s.architecture (chosen s.architecture tables) → WriteRefused sheet tables book BadEntry
  short_book : (s : Sheet) → read_sheet sheet ≡ proper s → IsChoice s.architecture (chosen s.architecture tables) → length book < book_length s.architecture
      → WriteRefused sheet tables book BufferTooShort

-- read: the sheet's faults, then 10, 11
pub data ReadRefused (sheet book : List ℕ) : Refusal → Type 0 where
  by_sheet : (r : Refusal) → read_sheet sheet ≡ refused r → ReadRefused sheet book r
  by_book : (s : Sheet) (r : Refusal) → read_sheet sheet ≡ proper s → BookRefused s.architecture book r → ReadRefused sheet book r

-- part: the sheet's faults, then 12, then 10, 11
pub data PartRefused (sheet book : List ℕ) (i : ℕ) : Refusal → Type 0 where
  by_sheet : (r : Refusal) → read_sheet sheet ≡ refused r → PartRefused sheet book i r
  no_such_process : (s : Sheet) → read_sheet sheet ≡ proper s → length s.architecture.processes ≤ i → PartRefused sheet book i NoSuchProcess
  by_book : (s : Sheet) (r : Refusal) → read_sheet sheet ≡ proper s → i < length s.architecture.processes → BookRefused s.architecture book r → PartRefused sheet book i r

-- 14: a bit outside the environment variables in the direction or in the desk's mask, or a process of the sheet in a state at or above its bound
pub data Misfits (a : Architecture) (k : Desk) (d : ℕ) : Type 0 where
  direction_out : 2 ^ a.environment ≤ d → Misfits a k d
  mask_out : 2 ^ a.environment ≤ k.environment → Misfits a k d
  state_out : (i : ℕ) (p : Process) (x : ProcessState) → get_elem? a.processes i ≡ some p → get_elem? k.states i ≡ some x → p.bound ≤ x.0 → Misfits a k d

-- step: the sheet's faults, then 10, 11, then 14
pub data StepRefused (sheet book : List ℕ) (k : Desk) (d : ℕ) : Refusal → Type 0 where
  by_sheet : (r : Refusal) → read_sheet sheet ≡ refused r → StepRefused sheet book k d r
  by_book : (s : Sheet) (r : Refusal) → read_sheet sheet ≡ proper s → BookRefused s.architecture book r → StepRefused sheet book k d r
  misfit : (s : Sheet) (c : List ℕ) → read_sheet sheet ≡ proper s → Formed s.architecture book c → IsChoice s.architecture c → Misfits s.architecture k d
      → StepRefused sheet book k d BadDirectionOrDesk

-- two proper sheets whose records before AU are the same bytes
pub record OneFront (first second : List ℕ) (s t : Sheet) : Type 0 where
  pub is_first : read_sheet first ≡ proper s
  pub is_second : read_sheet second ≡ proper t
  pub same_front : front_bytes s.architecture ≡ front_bytes t.architecture

-- the automaton is one that a sheet can have: 16 states and 64 edges at most
pub record Fitting (u : Automaton) : Type 0 where
  pub few_states : u.states ≤ 16
  pub few_edges : length u.edges ≤ 64

-- join: the first sheet's faults, the second's, then 19, then 20, then 8
pub data JoinRefused (first second sheet : List ℕ) : Refusal → Type 0 where
  by_first : (r : Refusal) → read_sheet first ≡ refused r → JoinRefused first second sheet r
  by_second : (s : Sheet) (r : Refusal) → read_sheet first ≡ proper s → read_sheet second ≡ refused r → JoinRefused first second sheet r
  other_front : (s t : Sheet) → read_sheet first ≡ proper s → read_sheet second ≡ proper t → ¬ (front_bytes s.architecture ≡ front_bytes t.architecture)
      → JoinRefused first second sheet FrontsDiffer
  too_large : (s t : Sheet) → OneFront first second s t → ¬ Fitting (join_automata s.automaton t.automaton) → JoinRefused first second sheet JoinTooLarge
  short_sheet : (s t : Sheet) → OneFront first second s t → Fitting (join_automata s.automaton t.automaton) → length sheet < length (sheet_bytes (join_sheets s t))
      → JoinRefused first second sheet BufferTooShort

-- the number is that of a fault of the sheet, or one of these
abbrev pub Among : List ℕ → Refusal → Type 0
Among ns r = Memᴰ (number r) sheet_numbers ⊎ Memᴰ (number r) ns
