-- Of a pair at which every test fails, each test's opposite holds.
use Rattle.runs.proofs.BlockLaws.{paired}
use Rattle.runs.proofs.blocks.odd_pair.Goals as goal

pub returns : goal.returns
returns c = paired c.args.q c.args.b c.args.c c.continues.result c.continues.ensures
