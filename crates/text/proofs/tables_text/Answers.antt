-- `text::tables_text`: there is room for the text of tables of bytes.
use native.Mathlib.Omega.{arith}
use Rattle.architecture.specs.Struct.{architecture_of}
use Rattle.text.proofs.GreatestNumber.{greatest_few}
use Rattle.text.proofs.TextShort.{text_short}
use Rattle.text.proofs.tables_text.Goals as goal

pub put_text-requires-clause-annotation_in_bounds : goal.put_text-requires-clause-annotation_in_bounds
put_text-requires-clause-annotation_in_bounds c =
    let a = c.args in
    let small = greatest_few a.annotation.now (λ k. omega (arith, c.type_inv.annotation k)) in
    omega (arith, text_short (architecture_of a.a) a.tables.now a.annotation.now c.requires.proper.proper (λ k. omega (arith, c.type_inv.tables k)) small)
