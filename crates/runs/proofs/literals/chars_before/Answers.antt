use Prim.Native.Nat.{◌<◌}
use mathlib.Core.Path.{sym, ◌∙◌}
use native.Mathlib.Omega.{arith}
use lib.ListN.{length}
use Rattle.notation.proofs.LiteralClasses.{plain_char}
use Rattle.runs.proofs.LiteralRuns.{here, moved}
use Rattle.runs.proofs.literals.chars_before.Goals as goal

pub loop-at-init : goal.loop-at-init
loop-at-init c = here _ _ _ c.requires.0

pub loop-at-preserved-then-k-eq0 : goal.loop-at-preserved-then-k-eq0
loop-at-preserved-then-k-eq0 c =
    let h : c.loop-at.at < length c.args.s.now = omega arith in
    moved _ _ _ _ 1 c.loop-at.invariant (plain_char _ _ _ _ h c.class-k.ensures c.if-k-eq0.true)

pub literal_len-n-requires : goal.literal_len-n-requires
literal_len-n-requires c = (omega arith, c.class-k.ensures)

pub returns-then-n-eq0 : goal.returns-then-n-eq0
returns-then-n-eq0 c = record { run = c.loop-at.invariant; stop = λ h. sym c.if-n-eq0.true ∙ c.literal_len-n.ensures }

pub overflow_add-at-in-loop-at : goal.overflow_add-at-in-loop-at
overflow_add-at-in-loop-at c = omega (arith, (moved _ _ _ _ _ c.loop-at.invariant c.literal_len-n.ensures).inside)

pub loop-at-smaller : goal.loop-at-smaller
loop-at-smaller c = omega (arith, (moved _ _ _ _ _ c.loop-at.invariant c.literal_len-n.ensures).inside)

pub loop-at-preserved : goal.loop-at-preserved
loop-at-preserved c = moved _ _ _ _ _ c.loop-at.invariant c.literal_len-n.ensures

pub returns : goal.returns
returns c = record { run = c.loop-at.invariant; stop = λ h. absurd (omega arith) }
