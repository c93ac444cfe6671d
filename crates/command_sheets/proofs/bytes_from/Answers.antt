-- By the kind (Parts).
use Rattle.command_sheets.proofs.Parts.{from_store, from_text}
use Rattle.command_sheets.proofs.bytes_from.Goals as goal

pub returns-then-kind-eq6 : goal.returns-then-kind-eq6
returns-then-kind-eq6 c =
    from_store c.args.text.now c.args.store.now c.args.table.now c.args.at c.number_in-kind.ensures c.number_in-place.ensures c.number_in-size.ensures c.if-kind-eq6.true c.part.ensures

pub returns : goal.returns
returns c =
    from_text c.args.text.now c.args.store.now c.args.table.now c.args.at c.number_in-kind.ensures c.number_in-place.ensures c.number_in-size.ensures c.if-kind-eq6.false c.part-2.ensures
