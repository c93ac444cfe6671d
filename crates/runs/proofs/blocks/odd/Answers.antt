-- Of a byte at which every test fails, each test's opposite holds, and the other way round.
use Rattle.runs.proofs.BlockLaws.{alone, alone_none}
use Rattle.runs.proofs.blocks.odd.Goals as goal

pub returns : goal.returns
returns c = (alone c.args.q c.args.b, alone_none c.args.q c.args.b)
