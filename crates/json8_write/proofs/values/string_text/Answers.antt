-- A fit string lies inside its buffer, by its kind (LeafTexts).
use native.Mathlib.Omega.{arith}
use Rattle.json8_write.proofs.LeafTexts.{text_inside, text_string, store_inside, store_string}
use Rattle.json8_write.proofs.values.string_text.Goals as goal

pub slice_bounds-put_string-end : goal.slice_bounds-put_string-end
slice_bounds-put_string-end c =
    text_inside c.args.table.now c.args.text.now c.args.store.now c.args.i _ _ c.number_in-place.ensures.0 c.number_in-size.ensures.0 c.requires.1 c.if-table-i-eq5.true

pub returns-then-table-i-eq5 : goal.returns-then-table-i-eq5
returns-then-table-i-eq5 c =
    text_string c.args.table.now c.args.text.now c.args.store.now c.args.i _ _ c.number_in-place.ensures.0 c.number_in-size.ensures.0 c.requires.1 c.if-table-i-eq5.true c.put_string.ensures

pub slice_bounds-put_string-end-2 : goal.slice_bounds-put_string-end-2
slice_bounds-put_string-end-2 c =
    store_inside c.args.table.now c.args.text.now c.args.store.now c.args.i _ _ c.number_in-place.ensures.0 c.number_in-size.ensures.0 c.requires.1 c.if-table-i-eq5.false

pub returns : goal.returns
returns c =
    store_string c.args.table.now c.args.text.now c.args.store.now c.args.i _ _ c.number_in-place.ensures.0 c.number_in-size.ensures.0 c.requires.1 c.if-table-i-eq5.false c.put_string-2.ensures
