-- By what stands there (Puts).
use mathlib.Core.Path.{ap, ◌∙◌}
use borrow.Author.Tests.{lt-ltb, le-ltb}
use Rattle.std.specs.Prelude.{Option}
use Rattle.prelude.proofs.Picks.{pick_true, pick_false}
use Rattle.rooms.proofs.Puts.{put_none, put_as}
use Rattle.terminals.specs.declared.Control.{Control}
use Rattle.terminals.specs.Terminals.{byte_text}
use Rattle.terminals.proofs.put_safe_byte.Goals as goal

pub returns-in-Some : goal.returns-in-Some
unfolding byte_text
returns-in-Some c = put_as (ap (λ (k : Option Control). byte_text c.args.m k c.args.x) c.in-Some.is) c.put_escape.ensures

pub returns-then-m-gt0 : goal.returns-then-m-gt0
unfolding byte_text
returns-then-m-gt0 c = put_as (ap (λ (k : Option Control). byte_text c.args.m k c.args.x) c.in-None.is ∙ pick_true _ _ _ (lt-ltb _ _ c.if-m-gt0.true)) put_none

pub returns-else-m-gt0 : goal.returns-else-m-gt0
unfolding byte_text
returns-else-m-gt0 c =
    put_as (ap (λ (k : Option Control). byte_text c.args.m k c.args.x) c.in-None.is ∙ pick_false _ _ _ (le-ltb _ _ c.if-m-gt0.false)) c.put_byte.ensures
