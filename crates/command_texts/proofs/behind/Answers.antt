-- By what was written (Puts).
use lib.ListN.{length}
use Rattle.command_texts.proofs.Puts.{behind_past, behind_inside, behind_refused}
use Rattle.command_texts.proofs.behind.Goals as goal

pub returns-then-out-at : goal.returns-then-out-at
returns-then-out-at c = behind_past _ _ _ _ c.in-Ok.is c.if-out-at.true

pub returns-else-out-at : goal.returns-else-out-at
returns-else-out-at c = behind_inside _ _ _ (length c.args.out.now) c.in-Ok.is _ c.if-out-at.false c.least.ensures.2 c.least.ensures.3

pub returns-in-Err : goal.returns-in-Err
returns-in-Err c = behind_refused _ _ _ _ c.in-Err.is
