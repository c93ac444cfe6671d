-- By the test of both bounds.
use lib.Dec.{leb}
use borrow.Author.Tests.{leb-true, ltb-true}
use Rattle.prelude.proofs.Cases.{and_left, and_right}
use Rattle.runs.proofs.shorts.leads.Goals as goal

pub returns : goal.returns
returns c = λ e. (leb-true 194 c.args.b (and_left (leb 194 c.args.b) _ e), ltb-true c.args.b 224 (and_right (leb 194 c.args.b) _ e))
