use Prim.Native.Nat.{◌+◌, ◌-◌}
use mathlib.Core.Path.{refl, sym, ◌∙◌}
use lib.ListN.{drop, length-drop}
use borrow.Author.Tests.{leb-false}
use native.Mathlib.Omega.{arith}
use Rattle.utf8.specs.Class.{plain_run}
use Rattle.utf8.proofs.PlainRuns.{on, run_within}
use Rattle.utf8.proofs.classes.plain_eights.Goals as goal

pub loop-i-init : goal.loop-i-init
loop-i-init c = record { turns = 0; inside = c.requires; place = omega arith; same = refl }

pub returns-then-not-plain_eight : goal.returns-then-not-plain_eight
returns-then-not-plain_eight c = omega (arith, leb-false 8 (plain_run (drop c.loop-i.i c.args.s.now)) (sym c.plain_eight.ensures ∙ c.if-not-plain_eight.true))

pub loop-i-preserved : goal.loop-i-preserved
loop-i-preserved c =
    record { turns = c.loop-i.invariant.turns + 1; inside = omega arith; place = omega arith; same = omega (arith, on c.args.s.now c.loop-i.i (sym c.plain_eight.ensures ∙ c.if-not-plain_eight.false)) }

pub returns : goal.returns
returns c = omega (arith, run_within (drop c.loop-i.i c.args.s.now), length-drop c.loop-i.i c.args.s.now)
