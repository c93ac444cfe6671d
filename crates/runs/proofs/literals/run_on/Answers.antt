use native.Mathlib.Omega.{arith}
use Rattle.runs.proofs.LiteralRuns.{here, further, stopped, at_end_lem, turn_stopped, turn_on, turn_less}
use Rattle.runs.proofs.literals.run_on.Goals as goal

pub loop-at-init : goal.loop-at-init
loop-at-init c = here _ _ _ c.requires

pub returns-then-ends : goal.returns-then-ends
returns-then-ends c = stopped _ _ _ _ (further _ _ _ _ _ c.loop-at.invariant c.thirty_twos-mid.ensures) (c.ends.ensures c.if-ends.true)

pub soon-end-requires : goal.soon-end-requires
soon-end-requires c = (c.thirty_twos-mid.ensures.inside, omega arith)

pub common_before-most-requires : goal.common_before-most-requires
common_before-most-requires c = (c.thirty_twos-mid.ensures.inside, c.soon-end.ensures.within.0)

pub chars_before-next-requires : goal.chars_before-next-requires
chars_before-next-requires c = ((c.common_before-most.ensures c.args.style).inside, c.soon-end.ensures.within.0)

pub returns-then-next-end : goal.returns-then-next-end
returns-then-next-end c = search turn_stopped

pub returns : goal.returns
returns c = at_end_lem _ _ _ _ c.loop-at.invariant (omega arith)
