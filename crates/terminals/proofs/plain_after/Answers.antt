-- By what stands before it.
use Prim.Native.Nat.{ℕ}
use mathlib.Core.Path.{sym, ap, ◌∙◌}
use Rattle.std.specs.Prelude.{Option}
use Rattle.prelude.proofs.Picks.{picks, pick_false}
use Rattle.terminals.specs.Terminals.{unless_behind, plain_after}
use Rattle.terminals.proofs.plain_after.Goals as goal

pub returns-then-m : goal.returns-then-m
unfolding plain_after
returns-then-m c = search (picks, c.standing.ensures)

pub returns-in-None : goal.returns-in-None
unfolding plain_after
returns-in-None c = c.outer_after.ensures ∙ ap (λ (q : Option ℕ). unless_behind q c.args.x) (sym c.in-None.is) ∙ sym (pick_false _ _ _ c.if-m.false)

pub returns-in-Some : goal.returns-in-Some
unfolding plain_after
returns-in-Some c = c.inner_after.ensures ∙ ap (λ (q : Option ℕ). unless_behind q c.args.x) (sym c.in-Some.is) ∙ sym (pick_false _ _ _ c.if-m.false)
