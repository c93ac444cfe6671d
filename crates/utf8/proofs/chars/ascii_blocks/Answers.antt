use Prim.Native.Nat.{◌-◌}
use native.Mathlib.Omega.{arith}
use mathlib.Core.Path.{sym, ◌∙◌}
use Rattle.prelude.proofs.Cases.{never}
use Rattle.utf8.proofs.Validity.{here, low_on}
use Rattle.utf8.proofs.chars.ascii_blocks.Goals as goal

pub loop-at-init : goal.loop-at-init
loop-at-init c = (here _ _ c.requires.0, λ k h. absurd (omega arith))

pub returns-then-any_high : goal.returns-then-any_high
returns-then-any_high c =
    record { alike = c.loop-at.invariant.0; low = c.loop-at.invariant.1; stop = λ h l. let z = sym c.if-any_high.true ∙ c.any_high.ensures.1 l in never cc }

pub loop-at-preserved : goal.loop-at-preserved
loop-at-preserved c = low_on _ _ _ _ c.loop-at.invariant.0 c.loop-at.invariant.1 (omega (arith, c.loop-at.invariant.0.inside)) (c.any_high.ensures.0 c.if-any_high.false)

pub returns : goal.returns
returns c = record { alike = c.loop-at.invariant.0; low = c.loop-at.invariant.1; stop = λ h l. absurd (omega (arith, c.loop-at.invariant.0.inside)) }
