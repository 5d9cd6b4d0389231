-- The text of tables looks at the entries of a choice, and at nothing behind them.
use mathlib.Core.Path.{◌≡◌, ap}
use mathlib.Core.List.{List, ◌++◌}
use Prim.Native.Nat.{ℕ}
use Rattle.model.specs.Sheet.{Sheet}
use Rattle.model.specs.Choice.{IsTables}
use Rattle.text.proofs.TextReads.{rows_front, processes_front}
use Rattle.drawing.specs.Drawing.{row_text, table_front, cluster_end, table_text, graph_text, book_text}

pub book_text_front : (c r : List ℕ) (s : Sheet) → IsTables s.architecture c → book_text s (c ++ r) ≡ book_text s c
unfolding table_text
book_text_front c r s f =
    ap (graph_text s)
    (processes_front c r table_text
    (λ i p at h. ap (λ (rows : List ℕ). table_front i p ++ rows ++ cluster_end) (rows_front c r (row_text i p.inputs p.bound) p at h)) s.architecture f)
