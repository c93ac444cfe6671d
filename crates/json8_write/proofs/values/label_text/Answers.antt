-- By the sort (LeafTexts).
use Rattle.json8_write.proofs.LeafTexts.{label_items, label_pairs, key_fit}
use Rattle.json8_write.proofs.values.label_text.Goals as goal

pub key_text-requires : goal.key_text-requires
key_text-requires c = (key_fit c.args.sort c.args.table.now c.args.text.now c.args.store.now c.args.i c.in-Pairs.is c.requires.0, c.requires.1)

pub returns-in-Items : goal.returns-in-Items
returns-in-Items c = label_items c.args.sort c.args.table.now c.args.text.now c.args.store.now c.args.i c.in-Items.is

pub returns-in-Pairs : goal.returns-in-Pairs
returns-in-Pairs c = label_pairs c.args.sort c.args.table.now c.args.text.now c.args.store.now c.args.i c.in-Pairs.is c.key_text.ensures
