-- By the quote (Puts).
use mathlib.Core.Path.{sym, ◌∙◌}
use Rattle.prelude.proofs.Picks.{pick_true, pick_false}
use Rattle.rooms.proofs.Puts.{put_then, put_as}
use Rattle.terminals.specs.Terminals.{escape_text}
use Rattle.terminals.proofs.put_escape.Goals as goal

pub returns-then-is_double : goal.returns-then-is_double
unfolding escape_text
returns-then-is_double c = put_as (pick_true _ _ _ (sym c.is_double.ensures ∙ c.if-is_double.true)) (put_then c.put_all-p.ensures c.put_code.ensures)

pub returns : goal.returns
unfolding escape_text
returns c = put_as (pick_false _ _ _ (sym c.is_double.ensures ∙ c.if-is_double.false)) (put_then c.put_all-p-2.ensures (put_then c.put_code-q.ensures c.put_byte.ensures))
