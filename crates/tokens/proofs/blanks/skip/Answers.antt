use mathlib.Core.Path.{sym, ◌∙◌}
use native.Mathlib.Omega.{arith}
use Rattle.tokens.proofs.Skipping.{begun, ended, comment_end, comment_char, comment_plain, comment_long, comment_ill, comment_further, space_on, mark_on, token_here}
use Rattle.tokens.proofs.blanks.skip.Goals as goal

pub loop-at-init : goal.loop-at-init
loop-at-init c = begun _ _ c.requires

pub loop-at-preserved-then-x-eq10 : goal.loop-at-preserved-then-x-eq10
loop-at-preserved-then-x-eq10 c = comment_end _ _ _ _ c.loop-at.invariant (omega arith) c.if-inside.true c.if-x-eq10.true

pub loop-at-preserved-then-k-eq0 : goal.loop-at-preserved-then-k-eq0
loop-at-preserved-then-k-eq0 c = comment_plain _ _ _ _ c.loop-at.invariant (omega arith) c.if-inside.true c.if-x-eq10.false _ c.class-k.ensures c.if-k-eq0.true

pub overflow_add-at-then-n-ne0 : goal.overflow_add-at-then-n-ne0
overflow_add-at-then-n-ne0 c =
    let g = comment_long _ _ _ _ c.loop-at.invariant (omega arith) c.if-inside.true c.if-x-eq10.false _ c.char_len-n.ensures c.if-n-ne0.true in record { fits = omega (arith, g.inside) }

pub loop-at-preserved-then-n-ne0 : goal.loop-at-preserved-then-n-ne0
loop-at-preserved-then-n-ne0 c = comment_long _ _ _ _ c.loop-at.invariant (omega arith) c.if-inside.true c.if-x-eq10.false _ c.char_len-n.ensures c.if-n-ne0.true

pub overflow_add-at-in-Ok : goal.overflow_add-at-in-Ok
overflow_add-at-in-Ok c =
    let g = comment_char _ _ _ _ c.loop-at.invariant (omega arith) c.if-inside.true c.if-x-eq10.false _ (sym c.char_at.ensures ∙ c.in-Ok.is) in record { fits = omega (arith, g.inside) }

pub returns-in-Err : goal.returns-in-Err
returns-in-Err c = rw c.at.ensures (comment_ill _ _ _ _ c.loop-at.invariant (omega arith) c.if-inside.true c.if-x-eq10.false _ (sym c.char_at.ensures ∙ c.in-Err.is))

pub loop-at-smaller-then-inside : goal.loop-at-smaller-then-inside
loop-at-smaller-then-inside c =
    let g = comment_char _ _ _ _ c.loop-at.invariant (omega arith) c.if-inside.true c.if-x-eq10.false _ (sym c.char_at.ensures ∙ c.in-Ok.is) in omega (arith, g.inside, comment_further c.args.s.now c.loop-at.at _ (sym c.char_at.ensures ∙ c.in-Ok.is))

pub loop-at-preserved-then-inside : goal.loop-at-preserved-then-inside
loop-at-preserved-then-inside c = comment_char _ _ _ _ c.loop-at.invariant (omega arith) c.if-inside.true c.if-x-eq10.false _ (sym c.char_at.ensures ∙ c.in-Ok.is)

pub loop-at-preserved-then-is_space : goal.loop-at-preserved-then-is_space
loop-at-preserved-then-is_space c = space_on _ _ _ _ c.loop-at.invariant (omega arith) c.if-inside.false (sym c.is_space.ensures ∙ c.if-is_space.true)

pub returns-then-x-ne35 : goal.returns-then-x-ne35
returns-then-x-ne35 c = token_here _ _ _ _ c.loop-at.invariant (omega arith) c.if-inside.false (sym c.is_space.ensures ∙ c.if-is_space.false) c.if-x-ne35.true

pub loop-at-preserved : goal.loop-at-preserved
loop-at-preserved c = mark_on _ _ _ _ c.loop-at.invariant (omega arith) c.if-inside.false (sym c.is_space.ensures ∙ c.if-is_space.false) c.if-x-ne35.false

pub returns : goal.returns
returns c = ended _ _ _ _ c.loop-at.invariant (omega arith)
