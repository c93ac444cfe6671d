use mathlib.Core.Path.{refl, ◌∙◌}
use native.Mathlib.Omega.{arith}
use Rattle.j8_lines.proofs.WholeList.{whole_list}
use Rattle.replay.proofs.Playing.{play_first, play_next, play_last}
use Rattle.replay.proofs.replays.replay.Goals as goal

pub loop-i-init : goal.loop-i-init
loop-i-init c = (omega arith, omega arith, play_first _ _ _ _ _ c.fresh-state.ensures, refl, refl)

pub loop-i-preserved : goal.loop-i-preserved
loop-i-preserved c =
    (omega arith, c.play_one-p.ensures.inside, play_next _ _ _ _ _ _ _ _ _ c.loop-i-test.true c.loop-i.invariant.2 c.play_one-p.ensures, c.play_one-p.auto.line ∙ c.loop-i.invariant.3, c.play_one-p.auto.out ∙ c.loop-i.invariant.4)

pub returns : goal.returns
returns c =
    let e = play_last _ _ c.args.text.now c.args.plan.now c.loop-i.at c.loop-i.i c.loop-i-test.false c.loop-i.invariant.2 in
    record { out_after = e; out_after_2 = λ h. e ∙ whole_list _ _ _ h }
