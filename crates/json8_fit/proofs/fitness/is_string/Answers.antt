-- By whether the string is shown (Fitting).
use Rattle.json8_fit.proofs.Fitting.{fit_shown, fit_nowhere}
use Rattle.json8_fit.proofs.fitness.is_string.Goals as goal

pub returns-in-Some : goal.returns-in-Some
returns-in-Some c = fit_shown c.args.table.now c.args.text.now c.args.store.now c.args.i _ c.requires c.shown_at.ensures c.in-Some.is

pub returns-in-None : goal.returns-in-None
returns-in-None c = fit_nowhere c.args.table.now c.args.text.now c.args.store.now c.args.i _ c.requires c.shown_at.ensures c.in-None.is
