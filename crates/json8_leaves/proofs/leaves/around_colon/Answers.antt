-- Blanks, a colon, blanks: one after another (Joined).
use native.Mathlib.Omega.{arith}
use Rattle.json8.specs.Nodes.{seq}
use Rattle.json8.specs.Leaves.{spaces, colon}
use Rattle.json8_leaves.proofs.Joined.{handed_on, went, halted, stepped_stop, seq_stop}
use Rattle.json8_leaves.proofs.Single.{colon_stop, colon_in, colon_step}
use Rattle.json8_leaves.proofs.leaves.around_colon.Goals as goal

pub returns-in_err-colon : goal.returns-in_err-colon
returns-in_err-colon c = rw (handed_on c.from_residual.result c.in_err-colon.field-0.0 c.from_residual.ensures.1) (stepped_stop (seq_stop spaces (seq colon spaces) _ 0 0 _ _ _ (halted c.mark.ensures c.in_err-colon.was)))

pub returns-then-colon-ne58 : goal.returns-then-colon-ne58
returns-then-colon-ne58 c = let w = went c.mark.ensures c.in_ok-colon.was in rw c.at.ensures (colon_stop _ _ _ _ w.0 w.1 _ c.misplaced.ensures c.if-colon-ne58.true)

pub overflow_add-colon : goal.overflow_add-colon
overflow_add-colon c = let w = went c.mark.ensures c.in_ok-colon.was in record { fits = omega (arith, colon_in _ _ _ _ w.0 w.1 c.if-colon-ne58.false, c.requires.1) }

pub next-requires : goal.next-requires
next-requires c = let w = went c.mark.ensures c.in_ok-colon.was in (colon_in _ _ _ _ w.0 w.1 c.if-colon-ne58.false, c.requires.1)

pub returns : goal.returns
returns c = let w = went c.mark.ensures c.in_ok-colon.was in colon_step _ _ _ _ w.0 w.1 _ c.if-colon-ne58.false c.next.ensures
