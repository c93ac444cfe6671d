use Rattle.command_words.proofs.Choices.{counted_first, counted_none, counted_some, counted_low, counted_high, counted_over, counted_next}
use native.Mathlib.Omega.{arith}
use Rattle.command_words.proofs.arguments.size_of.Goals as goal

pub loop-i-init : goal.loop-i-init
loop-i-init c = counted_first c.args.word.now

pub returns-then-x-lt48 : goal.returns-then-x-lt48
returns-then-x-lt48 c = counted_low _ _ _ c.loop-i.invariant c.loop-i-test.true c.if-x-lt48.true

pub returns-then-x-gt57 : goal.returns-then-x-gt57
returns-then-x-gt57 c = counted_high _ _ _ c.loop-i.invariant c.loop-i-test.true c.if-x-lt48.false c.if-x-gt57.true

pub overflow_mul-size : goal.overflow_mul-size
overflow_mul-size c = omega (arith, c.loop-i.invariant.few)

pub overflow_add-size : goal.overflow_add-size
overflow_add-size c = omega (arith, c.loop-i.invariant.few, c.if-x-gt57.false)

pub returns-then-size-gt-PIECE : goal.returns-then-size-gt-PIECE
returns-then-size-gt-PIECE c = counted_over _ _ _ c.loop-i.invariant c.loop-i-test.true c.if-x-lt48.false c.if-x-gt57.false c.if-size-gt-PIECE.true

pub loop-i-preserved : goal.loop-i-preserved
loop-i-preserved c = counted_next _ _ _ c.loop-i.invariant c.loop-i-test.true c.if-x-lt48.false c.if-x-gt57.false c.if-size-gt-PIECE.false

pub returns : goal.returns
returns c = counted_some _ _ _ c.loop-i.invariant c.loop-i-test.false c.if-size-eq0.false

pub returns-then-size-eq0 : goal.returns-then-size-eq0
returns-then-size-eq0 c = counted_none _ _ _ c.loop-i.invariant c.loop-i-test.false c.if-size-eq0.true
