-- Plain bytes between double quotes with a tab or LF behind them (Solid).
use mathlib.Core.Path.{◌∙◌}
use native.Mathlib.Omega.{arith}
use Rattle.tsv8_cells.proofs.Solid.{byte_inside, byte_is, quoted_cell}
use Rattle.tsv8_cells.proofs.simple.quoted_end.Goals as goal

pub returns-then-is_over : goal.returns-then-is_over
returns-then-is_over c =
    quoted_cell c.args.text.now c.args.q _ c.requires.0 c.requires.1 c.plains_on-e.ensures (byte_inside c.args.text.now c.plains_on-e.result c.byte_at.result c.byte_at.ensures (λ z. omega (arith, z, c.if-byte_at-ne34.false))) (byte_is c.args.text.now c.plains_on-e.result c.byte_at.result c.byte_at.ensures (λ z. omega (arith, z, c.if-byte_at-ne34.false)) ∙ c.if-byte_at-ne34.false) (c.is_over.ensures c.if-is_over.true)
