-- A string and a colon (LeafTexts).
use Rattle.json8_write.proofs.LeafTexts.{key_there, key_holds, key_put}
use Rattle.json8_write.proofs.values.key_text.Goals as goal

pub string_text-p-requires : goal.string_text-p-requires
string_text-p-requires c =
    (key_there c.args.table.now c.args.text.now c.args.store.now c.args.i c.requires.0, key_holds c.args.table.now c.args.text.now c.args.store.now c.args.i c.requires.0, c.requires.1)

pub returns : goal.returns
returns c = key_put c.args.table.now c.args.text.now c.args.store.now c.args.i c.requires.0 c.string_text-p.ensures c.put_byte.ensures
