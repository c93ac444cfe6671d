-- Each part goes on where the one before it ended.
use Rattle.bytewise.proofs.front.put_wide.Goals as goal

pub returns : goal.returns
returns c = (c.put_one_by_one.ensures.0, λ o f. c.put_one_by_one.ensures.1 o (c.put_last_threes-b.ensures.1 o (c.put_threes-a.ensures.1 o f)))
