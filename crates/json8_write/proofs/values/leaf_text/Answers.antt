-- By the kind (LeafTexts).
use Rattle.json8_fit.specs.inner.Steps.{node_at}
use Rattle.json8_write.proofs.LeafTexts.{leaf_string, leaf_number, leaf_word, string_fit, number_fit}
use Rattle.json8_write.proofs.values.leaf_text.Goals as goal

pub string_text-requires : goal.string_text-requires
string_text-requires c =
    (c.requires.0, string_fit c.args.text.now c.args.store.now (node_at c.args.i c.args.table.now) c.requires.1 c.if-kind-gt4.true, c.requires.2)

pub returns-then-kind-gt4 : goal.returns-then-kind-gt4
returns-then-kind-gt4 c = leaf_string c.args.text.now c.args.store.now (node_at c.args.i c.args.table.now) c.requires.1 c.if-kind-gt4.true c.string_text.ensures

pub number_text-requires : goal.number_text-requires
number_text-requires c =
    (c.requires.0, number_fit c.args.text.now c.args.store.now (node_at c.args.i c.args.table.now) c.requires.1 c.if-kind-gt2.true c.if-kind-gt4.false, c.requires.2)

pub returns-then-kind-gt2 : goal.returns-then-kind-gt2
returns-then-kind-gt2 c =
    leaf_number c.args.text.now c.args.store.now (node_at c.args.i c.args.table.now) c.requires.1 c.if-kind-gt2.true c.if-kind-gt4.false c.number_text.ensures

pub returns : goal.returns
returns c = leaf_word c.args.text.now c.args.store.now (node_at c.args.i c.args.table.now) c.requires.1 c.if-kind-gt2.false c.put_word.ensures
