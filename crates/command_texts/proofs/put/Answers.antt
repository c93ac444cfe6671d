-- By whether there is room (Puts).
use mathlib.Core.Path.{refl, ap, ◌∙◌}
use native.Mathlib.Omega.{arith}
use lib.Seq.{sets, take-length}
use Rattle.command_texts.proofs.Puts.{left_out, put_whole}
use Rattle.command_texts.proofs.put.Goals as goal

pub returns-then-out-at : goal.returns-then-out-at
returns-then-out-at c = left_out c.args.s.now c.args.at c.args.out.now (omega (arith, c.if-out-at.true))

pub returns-then-out-at-2 : goal.returns-then-out-at-2
returns-then-out-at-2 c = left_out c.args.s.now c.args.at c.args.out.now (omega (arith, c.if-out-at.false, c.if-out-at-2.true))

pub returns : goal.returns
returns c =
    put_whole c.args.s.now c.args.at c.args.out.now (omega (arith, c.if-out-at.false, c.if-out-at-2.false)) refl (c.copy_run.ensures ∙ ap (sets c.args.out.now c.args.at) (take-length c.args.s.now))
