-- `text::refused_text`: there is room for a number of 32 bits.
use mathlib.Core.List.{[], ◌∷◌}
use Prim.Native.Nat.{◌≤◌}
use native.Mathlib.Omega.{arith}
use lib.ListN.{length}
use Rattle.model.specs.Ascii.{ascii}
use Rattle.template.proofs.FilledShort.{longest, filled_short, whole_text}
use Rattle.text.specs.Text.{refused_text}
use Rattle.text.proofs.refused_text.Goals as goal
use Rattle.text.proofs.refused_text.Goals.{After-number}

-- the text is short
short : (c : After-number) → length (refused_text c.number.result) ≤ 19
unfolding longest
short c = filled_short 9 (ascii "refused #\n") (c.number.result ∷ []) (omega (arith, c.number.type_inv), tt)

pub put_filled-requires : goal.put_filled-requires
put_filled-requires c = omega (arith, short (goal.at.put_filled-requires c).After-number)

pub returns : goal.returns
returns c = rw (← c.number.ensures) (whole_text c.put_filled.ensures c.put_filled.auto.text (omega (arith, short (goal.at.returns c).After-number)))
