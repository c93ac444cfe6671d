-- By the sort (Fitting).
use Rattle.json8_fit.proofs.Fitting.{fit_items, fit_pairs}
use Rattle.json8_fit.proofs.fitness.is_label.Goals as goal

pub returns-in-Items : goal.returns-in-Items
returns-in-Items c = fit_items c.args.sort c.args.table.now c.args.text.now c.args.store.now c.args.i c.in-Items.is

pub returns-in-Pairs : goal.returns-in-Pairs
returns-in-Pairs c = fit_pairs c.args.sort c.args.table.now c.args.text.now c.args.store.now c.args.i c.in-Pairs.is c.is_key.ensures
