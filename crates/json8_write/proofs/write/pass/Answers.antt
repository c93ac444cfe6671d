-- A fit table is its root, the one member of its nodes (WholeTables).
use Rattle.json8_write.proofs.WholeTables.{root_fit, root_put}
use Rattle.json8_write.proofs.write.pass.Goals as goal

pub members_text-requires : goal.members_text-requires
members_text-requires c =
    ((root_fit c.args.table.now c.args.text.now c.args.store.now c.requires.0 c.count_at-count.ensures.0).0, (root_fit c.args.table.now c.args.text.now c.args.store.now c.requires.0 c.count_at-count.ensures.0).1, c.requires.1)

pub returns : goal.returns
returns c = root_put c.args.table.now c.args.text.now c.args.store.now c.requires.0 c.count_at-count.ensures.0 c.members_text.ensures
