-- Of three bytes at which every test fails, each test's opposite holds, and the other way round (ThreeBytes).
use Rattle.runs.proofs.ThreeBytes.{tripled, tripled_none}
use Rattle.runs.proofs.threes.odd_three.Goals as goal

pub returns : goal.returns
returns c =
    (tripled c.args.q c.args.b c.args.c c.args.d c.continues.result c.continues.ensures, tripled_none c.args.q c.args.b c.args.c c.args.d c.continues.result c.continues.ensures)
