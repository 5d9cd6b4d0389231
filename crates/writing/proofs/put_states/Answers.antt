-- The mark, and behind it the fields.
use Rattle.std.proofs.Common.{◌≡◌, ℕ, List, ◌/◌, ◌%◌, ◌<◌, get_or, refl, arith}
use Rattle.std.specs.Int.{w16, to_le_bytes}
use Rattle.model.specs.SheetFile.{states_bytes}
use Rattle.append.proofs.Appended.{append_more}
use Rattle.automaton.specs.Struct.{automaton_of}
use Rattle.writing.proofs.put_states.Goals as goal

-- a word's two bytes
two_bytes : (n : ℕ) (bs : List ℕ) → n < 65536 → bs ≡ to_le_bytes w16 n → (get_or bs 0 0 ≡ n % 256) × (get_or bs 1 0 ≡ n / 256)
two_bytes n bs h e = rw e (refl, omega arith)

pub put_all-after_mark-requires : goal.put_all-after_mark-requires
unfolding states_bytes
put_all-after_mark-requires c = omega arith

pub put_all-requires : goal.put_all-requires
unfolding states_bytes
put_all-requires c = omega arith

pub returns : goal.returns
unfolding states_bytes automaton_of
returns c =
    let b = two_bytes c.args.u.rejecting c.to_le_bytes.result (omega arith) c.to_le_bytes.ensures in
    rw (← b.0, ← b.1) (append_more c.put_all-after_mark.ensures c.put_all.ensures)
