use native.Mathlib.Omega.{arith}
use Rattle.runs.proofs.LiteralRuns.{here}
use Rattle.runs.proofs.BlockLaws.{over_one, over_lead, lead_fits}
use Rattle.runs.proofs.shorts.one_by_one.Goals as goal

pub loop-at-init : goal.loop-at-init
loop-at-init c = (c.requires, λ st e. here st _ _ c.requires)

pub returns-then-not-leads : goal.returns-then-not-leads
returns-then-not-leads c = c.loop-at.invariant.1 _ c.quote_of-q.ensures

pub returns-then-not-one_follows : goal.returns-then-not-one_follows
returns-then-not-one_follows c = c.loop-at.invariant.1 _ c.quote_of-q.ensures

pub overflow_add-at : goal.overflow_add-at
overflow_add-at c =
    omega (arith, lead_fits c.args.s.now c.loop-at.at (omega arith) (c.leads.ensures (c.if-not-leads.false)).0 (c.leads.ensures (c.if-not-leads.false)).1 (c.one_follows.ensures (c.if-not-one_follows.false)))

pub loop-at-smaller-then-odd : goal.loop-at-smaller-then-odd
loop-at-smaller-then-odd c =
    omega (arith, lead_fits c.args.s.now c.loop-at.at (omega arith) (c.leads.ensures (c.if-not-leads.false)).0 (c.leads.ensures (c.if-not-leads.false)).1 (c.one_follows.ensures (c.if-not-one_follows.false)))

pub loop-at-preserved-then-odd : goal.loop-at-preserved-then-odd
loop-at-preserved-then-odd c =
    (lead_fits c.args.s.now c.loop-at.at (omega arith) (c.leads.ensures (c.if-not-leads.false)).0 (c.leads.ensures (c.if-not-leads.false)).1 (c.one_follows.ensures (c.if-not-one_follows.false)), λ st e. over_lead st _ _ _ (c.loop-at.invariant.1 st e) (omega arith) (c.leads.ensures (c.if-not-leads.false)).0 (c.leads.ensures (c.if-not-leads.false)).1 (c.one_follows.ensures (c.if-not-one_follows.false)))

pub loop-at-preserved : goal.loop-at-preserved
loop-at-preserved c = (omega arith, λ st e. over_one st _ _ _ e _ (c.loop-at.invariant.1 st e) (omega arith) (c.odd.ensures.0 c.if-odd.false))

pub returns : goal.returns
returns c = c.loop-at.invariant.1 _ c.quote_of-q.ensures
