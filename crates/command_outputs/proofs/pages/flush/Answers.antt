-- The front of the page is printed (Adding).
use mathlib.Core.Path.{refl, ap}
use Rattle.std.specs.Result.{is_err}
use Rattle.command_outputs.proofs.Adding.{printed, unprinted}
use Rattle.command_outputs.proofs.pages.flush.Goals as goal

pub returns-in-Ok : goal.returns-in-Ok
returns-in-Ok c =
    (refl, printed c.args.p c.args.page.now c.args.shown.now _ c.within-n.ensures.is.0 c.within-n.ensures.is.1 (c.print.ensures.value, c.print.ensures.stored) (ap is_err c.in-Ok.is))

pub returns-in-Err : goal.returns-in-Err
returns-in-Err c =
    (refl, unprinted c.args.p c.args.page.now c.args.shown.now _ c.within-n.ensures.is.0 c.within-n.ensures.is.1 (c.print.ensures.value, c.print.ensures.stored) _)
