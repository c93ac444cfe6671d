-- The definition's decision list, by the tests that led to each return.
use mathlib.Core.Bool.{not}
use mathlib.Core.Path.{sym, ap, ◌∙◌}
use borrow.Author.Tests.{lt-ltb, le-ltb}
use Rattle.prelude.proofs.Picks.{pick_true, pick_false}
use Rattle.terminals.specs.Terminals.{control_in, control_of}
use Rattle.terminals.proofs.control_at.Goals as goal

pub returns-then-is_none : goal.returns-then-is_none
unfolding control_in
returns-then-is_none c = sym (pick_true _ _ _ (ap not (c.is_none.ensures ∙ ap not c.if-is_none.true)))

pub returns-then-m : goal.returns-then-m
unfolding control_in
returns-then-m c = sym (pick_false _ _ _ (ap not (c.is_none.ensures ∙ ap not c.if-is_none.false)) ∙ pick_true _ _ _ c.if-m.true)

pub returns-then-m-gt0 : goal.returns-then-m-gt0
unfolding control_in
returns-then-m-gt0 c = sym (pick_false _ _ _ (ap not (c.is_none.ensures ∙ ap not c.if-is_none.false)) ∙ pick_false _ _ _ c.if-m.false ∙ pick_true _ _ _ (lt-ltb _ _ c.if-m-gt0.true))

pub returns : goal.returns
unfolding control_in
returns c =
    c.control_of.ensures ∙ (λ i. control_of (c.byte_at-x.ensures i) (c.byte_at-y.ensures i) (c.byte_at-z.ensures i)) ∙ sym (pick_false _ _ _ (ap not (c.is_none.ensures ∙ ap not c.if-is_none.false)) ∙ pick_false _ _ _ c.if-m.false ∙ pick_false _ _ _ (le-ltb _ _ c.if-m-gt0.false))
