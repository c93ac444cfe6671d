-- By letter or by number (EscapeStores).
use native.Mathlib.Omega.{arith}
use mathlib.Core.Path.{refl, ap, ◌∙◌}
use lib.Seq.{sets}
use Rattle.units.proofs.EscapeStores.{by_letter, as_number}
use Rattle.units.proofs.written.put_escape.Goals as goal

pub returns-in-Some : goal.returns-in-Some
returns-in-Some c = c.put_two.ensures ∙ ap (sets c.args.out.now c.args.o) (by_letter c.args.form c.args.x c.in-Some.k c.in-Some.ensures.1 (λ z. omega (arith, c.in-Some.ensures.0)))

pub returns-in-None : goal.returns-in-None
returns-in-None c = c.put_number.ensures ∙ ap (sets c.args.out.now c.args.o) (as_number c.args.form c.args.x _ refl c.in-None.ensures)
