-- The text is judged; where there is room, what it holds is stored (Whole).
use mathlib.Core.Path.{ap, ◌∙◌}
use Rattle.std.specs.Prelude.{Err}
use Rattle.std.proofs.lemmas.Result.{err_from_is_err_and}
use Rattle.tsv8.proofs.Whole.{too_long_lem, judged_refused, few, long, no_room_lem, types_fit, names_fit, names_due, rest_in, lines_fit, all_done}
use Rattle.tsv8.proofs.read.read.Goals as goal

pub returns-then-text-gt-TEXT_MAX : goal.returns-then-text-gt-TEXT_MAX
returns-then-text-gt-TEXT_MAX c =
    let r = too_long_lem c.args.text.now c.args.names.now c.args.types.now c.args.cells.now c.args.store.now c.if-text-gt-TEXT_MAX.true _ c.at.ensures in record { answer = r.0; names = r.1.0; types = r.1.1.0; cells = r.1.1.1.0; store = r.1.1.1.1 }

pub returns-then-not-has_room : goal.returns-then-not-has_room
returns-then-not-has_room c =
    let r = no_room_lem c.args.text.now c.args.names.now c.args.types.now c.args.cells.now c.args.store.now c.if-text-gt-TEXT_MAX.false _ _ c.in_ok-outline.ensures _ c.has_room.ensures c.if-not-has_room.true _ c.at-then-not-has_room.ensures in record { answer = r.0; names = r.1.0; types = r.1.1.0; cells = r.1.1.1.0; store = r.1.1.1.1 }

pub put_types-requires : goal.put_types-requires
put_types-requires c =
    (few c.args.text.now c.args.names.now c.args.types.now c.args.cells.now c.args.store.now c.if-text-gt-TEXT_MAX.false _ _ c.in_ok-outline.ensures, long c.args.text.now c.args.names.now c.args.types.now c.args.cells.now c.args.store.now c.if-text-gt-TEXT_MAX.false _ _ c.in_ok-outline.ensures, types_fit c.args.text.now c.args.names.now c.args.types.now c.args.cells.now c.args.store.now c.if-text-gt-TEXT_MAX.false _ _ c.in_ok-outline.ensures _ c.has_room.ensures c.if-not-has_room.false)

pub put_row-moved-requires : goal.put_row-moved-requires
put_row-moved-requires c =
    let i = names_due c.args.text.now c.args.names.now c.args.types.now c.args.cells.now c.args.store.now c.if-text-gt-TEXT_MAX.false _ _ c.in_ok-outline.ensures _ c.has_room.ensures c.if-not-has_room.false _ c.strs-first.ensures in (c.if-text-gt-TEXT_MAX.false, i.0, i.1.0, few c.args.text.now c.args.names.now c.args.types.now c.args.cells.now c.args.store.now c.if-text-gt-TEXT_MAX.false _ _ c.in_ok-outline.ensures, i.1.1.0, i.1.1.1, names_fit c.args.text.now c.args.names.now c.args.types.now c.args.cells.now c.args.store.now c.if-text-gt-TEXT_MAX.false _ _ c.in_ok-outline.ensures _ c.has_room.ensures c.if-not-has_room.false _ c.strs-first.ensures)

pub put_lines-requires : goal.put_lines-requires
put_lines-requires c =
    (c.if-text-gt-TEXT_MAX.false, rest_in c.args.text.now c.args.names.now c.args.types.now c.args.cells.now c.args.store.now c.if-text-gt-TEXT_MAX.false _ _ c.in_ok-outline.ensures _ c.has_room.ensures c.if-not-has_room.false _ c.strs-first.ensures _ _ _ _ (c.put_row-moved.ensures.end, (c.put_row-moved.ensures.count, (c.put_row-moved.ensures.cells, c.put_row-moved.ensures.bytes))), few c.args.text.now c.args.names.now c.args.types.now c.args.cells.now c.args.store.now c.if-text-gt-TEXT_MAX.false _ _ c.in_ok-outline.ensures, long c.args.text.now c.args.names.now c.args.types.now c.args.cells.now c.args.store.now c.if-text-gt-TEXT_MAX.false _ _ c.in_ok-outline.ensures, lines_fit c.args.text.now c.args.names.now c.args.types.now c.args.cells.now c.args.store.now c.if-text-gt-TEXT_MAX.false _ _ c.in_ok-outline.ensures _ c.has_room.ensures c.if-not-has_room.false _ c.strs-first.ensures _ _ _ _ (c.put_row-moved.ensures.end, (c.put_row-moved.ensures.count, (c.put_row-moved.ensures.cells, c.put_row-moved.ensures.bytes))))

pub returns-in_err-outline : goal.returns-in_err-outline
returns-in_err-outline c =
    let p = err_from_is_err_and c.from_residual.result c.from_residual.ensures.1 in let r = judged_refused c.args.text.now c.args.names.now c.args.types.now c.args.cells.now c.args.store.now c.if-text-gt-TEXT_MAX.false _ _ c.in_err-outline.ensures in record { answer = p.1 ∙ ap Err p.2 ∙ r.0; names = r.1.0; types = r.1.1.0; cells = r.1.1.1.0; store = r.1.1.1.1 }

pub returns : goal.returns
returns c =
    let r = all_done c.args.text.now c.args.names.now c.args.types.now c.args.cells.now c.args.store.now c.if-text-gt-TEXT_MAX.false _ _ c.in_ok-outline.ensures _ c.has_room.ensures c.if-not-has_room.false _ c.strs-first.ensures _ _ _ _ (c.put_row-moved.ensures.end, (c.put_row-moved.ensures.count, (c.put_row-moved.ensures.cells, c.put_row-moved.ensures.bytes))) _ _ _ c.put_types.ensures (c.put_lines.ensures.cells, c.put_lines.ensures.bytes) in record { answer = r.0; names = r.1.0; types = r.1.1.0; cells = r.1.1.1.0; store = r.1.1.1.1 }
