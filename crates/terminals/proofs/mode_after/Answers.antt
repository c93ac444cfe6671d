-- By whether a character is passed, begins or neither.
use mathlib.Core.Path.{sym, ap, ◌∙◌}
use borrow.Author.Tests.{le-ltb}
use Rattle.std.specs.Prelude.{Option}
use Rattle.prelude.proofs.Picks.{picks, pick_false}
use Rattle.terminals.specs.declared.Control.{Control}
use Rattle.terminals.specs.Terminals.{begun_after, mode_after}
use Rattle.terminals.proofs.mode_after.Goals as goal

pub returns-then-m-gt0 : goal.returns-then-m-gt0
unfolding mode_after
returns-then-m-gt0 c = search (picks, c.standing.ensures)

pub returns-in-Some : goal.returns-in-Some
unfolding mode_after
returns-in-Some c =
    c.standing-in-Some.ensures ∙ ap (λ (k : Option Control). begun_after c.args.m k c.args.x) (sym c.in-Some.is) ∙ sym (pick_false _ _ _ (le-ltb _ _ c.if-m-gt0.false))

pub returns-in-None : goal.returns-in-None
unfolding mode_after
returns-in-None c =
    c.plain_after.ensures ∙ ap (λ (k : Option Control). begun_after c.args.m k c.args.x) (sym c.in-None.is) ∙ sym (pick_false _ _ _ (le-ltb _ _ c.if-m-gt0.false))
