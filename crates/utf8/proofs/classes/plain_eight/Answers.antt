-- Eight classes or-ed are 0 exactly if each is (PlainRuns).
use Rattle.utf8.proofs.PlainRuns.{eight}
use Rattle.utf8.proofs.classes.plain_eight.Goals as goal

pub returns : goal.returns
returns c =
    simp (c.class-a.ensures, c.class-b.ensures, c.class-c.ensures, c.class-d.ensures, c.class-e.ensures, c.class-f.ensures, c.class-g.ensures, c.class-h.ensures) (eight c.args.s.now c.args.i c.requires)
