-- Each part goes on where the one before it ended.
use Rattle.bytewise.proofs.front.put_onward.Goals as goal

pub returns : goal.returns
returns c = (c.put_wide.ensures.0, λ o f. c.put_wide.ensures.1 o (c.put_one_by_one-a.ensures.1 o f))
