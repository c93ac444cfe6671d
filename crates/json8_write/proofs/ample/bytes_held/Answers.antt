-- By the kind (Roominess).
use mathlib.Core.Path.{◌∙◌}
use native.Mathlib.Omega.{arith}
use Rattle.json8_fit.specs.inner.Steps.{node_at}
use Rattle.json8_write.proofs.Roominess.{held_word, held_size, held_none}
use Rattle.json8_write.proofs.ample.bytes_held.Goals as goal

pub returns-then-kind-lt3 : goal.returns-then-kind-lt3
returns-then-kind-lt3 c = (held_word (node_at c.args.i c.args.table.now) c.if-kind-lt3.true, omega arith)

pub returns-then-kind-le6 : goal.returns-then-kind-le6
returns-then-kind-le6 c = (c.number_in.ensures.0 ∙ held_size (node_at c.args.i c.args.table.now) c.if-kind-lt3.false c.if-kind-le6.true, c.number_in.ensures.1)

pub returns : goal.returns
returns c = (held_none (node_at c.args.i c.args.table.now) c.if-kind-lt3.false c.if-kind-le6.false, omega arith)
