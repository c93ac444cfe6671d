-- By letter or by number (EscapeStores).
use native.Mathlib.Omega.{arith}
use mathlib.Core.Path.{refl, ap, ◌∙◌}
use lib.ListN.{length}
use Rattle.units.proofs.EscapeStores.{by_letter, as_number}
use Rattle.units.proofs.written.escape_len.Goals as goal

pub returns-in-Some : goal.returns-in-Some
returns-in-Some c = ap length (by_letter c.args.form c.args.x _ c.in-Some.ensures.1 (λ z. omega (arith, c.in-Some.ensures.0)))

pub returns-in-None : goal.returns-in-None
returns-in-None c = c.number_len.ensures ∙ ap length (as_number c.args.form c.args.x _ refl c.in-None.ensures)
