use native.Mathlib.Omega.{arith}
use mathlib.Core.Path.{ap, ◌∙◌}
use Rattle.std.specs.Prelude.{Err}
use Rattle.lines.proofs.BareTexts.{begun, plain_on, tab_on, control_stop, good_on, further, bad_stop, ended}
use Rattle.lines.proofs.bare.check_from.Goals as goal

pub loop-at-preserved-then-k-ne1 : goal.loop-at-preserved-then-k-ne1
loop-at-preserved-then-k-ne1 c = search plain_on

pub loop-at-preserved-then-x-eq9 : goal.loop-at-preserved-then-x-eq9
loop-at-preserved-then-x-eq9 c = search tab_on

pub returns-then-k-lt5 : goal.returns-then-k-lt5
returns-then-k-lt5 c =
    ap Err c.at.ensures ∙ control_stop _ _ _ c.loop-at.invariant (omega arith) _ c.class-k.ensures (omega arith) c.if-x-eq9.false

pub long_at-requires : goal.long_at-requires
long_at-requires c = (omega arith, c.class-k.ensures, omega arith)

pub overflow_add-at-in-Ok : goal.overflow_add-at-in-Ok
overflow_add-at-in-Ok c =
    let g = good_on _ _ _ c.loop-at.invariant (omega arith) _ c.class-k.ensures (omega arith) _ c.in-Ok.ensures in record { fits = omega (arith, g.inside) }

pub loop-at-smaller : goal.loop-at-smaller
loop-at-smaller c =
    let g = good_on _ _ _ c.loop-at.invariant (omega arith) _ c.class-k.ensures (omega arith) _ c.in-Ok.ensures in omega (arith, g.inside, further _ _ _ c.loop-at.invariant (omega arith) _ c.class-k.ensures (omega arith) _ c.in-Ok.ensures)

pub loop-at-preserved : goal.loop-at-preserved
loop-at-preserved c = good_on _ _ _ c.loop-at.invariant (omega arith) _ c.class-k.ensures (omega arith) _ c.in-Ok.ensures

pub returns-in-Err : goal.returns-in-Err
returns-in-Err c =
    ap Err c.at-in-Err.ensures ∙ bad_stop _ _ _ c.loop-at.invariant (omega arith) _ c.class-k.ensures (omega arith) _ c.in-Err.ensures

pub returns : goal.returns
returns c = search ended
