-- What one node takes (Spreading).
use mathlib.Core.Path.{sym, ◌∙◌}
use native.Mathlib.Omega.{arith}
use Rattle.json8_read.proofs.Spreading.{sizes_one, sizes_none}
use Rattle.json8_read.specs.inner.Spread.{node_of}
use Rattle.json8_read.proofs.spread.stored_by.Goals as goal

pub returns-then-kind_of-eq6 : goal.returns-then-kind_of-eq6
returns-then-kind_of-eq6 c = (omega (arith, c.size_of.ensures.0, sizes_one (node_of c.args.v) (sym c.kind_of.ensures ∙ c.if-kind_of-eq6.true)), c.size_of.ensures.1)

pub returns : goal.returns
returns c = (sym (sizes_none (node_of c.args.v) (λ z. c.if-kind_of-eq6.false (c.kind_of.ensures ∙ z))), omega arith)
