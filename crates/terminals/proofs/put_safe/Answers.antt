use mathlib.Core.Path.{refl}
use borrow.Author.Rules.{rules}
use Rattle.terminals.proofs.Showing.{showing_first, showing_next, showing_last}
use Rattle.terminals.proofs.put_safe.Goals as goal

pub loop-at-init : goal.loop-at-init
loop-at-init c = (showing_first _ c.standing-m.ensures, refl)

pub loop-at-preserved : goal.loop-at-preserved
loop-at-preserved c = (showing_next c.loop-at.invariant.0 c.loop-at-test.true c.control_at-c.ensures c.put_safe_byte-o.ensures c.mode_after-m.ensures, search rules)

pub returns : goal.returns
returns c = showing_last c.loop-at.invariant.0 c.loop-at-test.false
