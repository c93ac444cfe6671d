use mathlib.Core.Path.{refl, sym, ◌∙◌}
use native.Mathlib.Omega.{arith}
use Rattle.tokens.specs.Words.{is_word}
use Rattle.tokens.proofs.Runs.{one_more, stopped, ended}
use Rattle.tokens.proofs.words.word_len.Goals as goal

pub loop-at-init : goal.loop-at-init
loop-at-init c = (omega arith, omega arith, refl)

pub returns-then-not-is_word : goal.returns-then-not-is_word
returns-then-not-is_word c =
    omega (arith, stopped is_word c.args.s.now c.args.from c.loop-at.at c.loop-at.invariant.2 (omega arith) (sym c.is_word.ensures ∙ c.if-not-is_word.true))

pub loop-at-preserved : goal.loop-at-preserved
loop-at-preserved c =
    (omega arith, omega arith, one_more is_word c.args.s.now c.args.from c.loop-at.at c.loop-at.invariant.2 (omega arith) (sym c.is_word.ensures ∙ c.if-not-is_word.false))

pub returns : goal.returns
returns c = omega (arith, ended is_word c.args.s.now c.args.from c.loop-at.at c.loop-at.invariant.2 (omega arith))
