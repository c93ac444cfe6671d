-- In double quotes or bare, by the first byte (Solid).
use mathlib.Core.Path.{◌∙◌}
use native.Mathlib.Omega.{arith}
use Rattle.tsv8_cells.proofs.Solid.{byte_inside, byte_is, quoted_found, bare_found}
use Rattle.tsv8_cells.proofs.simple.of_str.Goals as goal

pub quoted_end-requires : goal.quoted_end-requires
quoted_end-requires c =
    (byte_inside c.args.text.now c.args.q c.byte_at.result c.byte_at.ensures (λ z. omega (arith, z, c.if-byte_at-eq34.true)), byte_is c.args.text.now c.args.q c.byte_at.result c.byte_at.ensures (λ z. omega (arith, z, c.if-byte_at-eq34.true)) ∙ c.if-byte_at-eq34.true)

pub returns-then-byte_at-eq34 : goal.returns-then-byte_at-eq34
returns-then-byte_at-eq34 c = λ m. quoted_found c.args.text.now c.args.q _ m c.in_ok-e.ensures

pub returns : goal.returns
returns c = λ m. bare_found c.args.text.now c.args.q _ m c.in_ok-e-2.ensures
