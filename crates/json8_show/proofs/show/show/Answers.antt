-- A range that is shown lies in its buffer (Showing).
use mathlib.Core.Path.{ap, ◌∙◌}
use native.Mathlib.Omega.{arith}
use Rattle.std.specs.Prelude.{Some}
use Rattle.json8_show.proofs.Showing.{text_inside, store_inside, text_shown, store_shown, none_shown}
use Rattle.json8_show.proofs.show.show.Goals as goal

pub overflow_add-result : goal.overflow_add-result
overflow_add-result c = omega (arith, text_inside c.args.table.now c.args.text.now c.args.store.now _ _ c.shown_at.ensures _ _ (c.in-Some-InText.is ∙ ap Some c.in-Some-InText.field-0-is))

pub slice_bounds-result-end : goal.slice_bounds-result-end
slice_bounds-result-end c = text_inside c.args.table.now c.args.text.now c.args.store.now _ _ c.shown_at.ensures _ _ (c.in-Some-InText.is ∙ ap Some c.in-Some-InText.field-0-is)

pub overflow_add-result-in-Some-InStore : goal.overflow_add-result-in-Some-InStore
overflow_add-result-in-Some-InStore c = omega (arith, store_inside c.args.table.now c.args.text.now c.args.store.now _ _ c.shown_at.ensures _ _ (c.in-Some-InStore.is ∙ ap Some c.in-Some-InStore.field-0-is))

pub slice_bounds-result-end-in-Some-InStore : goal.slice_bounds-result-end-in-Some-InStore
slice_bounds-result-end-in-Some-InStore c = store_inside c.args.table.now c.args.text.now c.args.store.now _ _ c.shown_at.ensures _ _ (c.in-Some-InStore.is ∙ ap Some c.in-Some-InStore.field-0-is)

pub returns-in-Some-InText : goal.returns-in-Some-InText
returns-in-Some-InText c = text_shown c.args.table.now c.args.text.now c.args.store.now _ _ c.shown_at.ensures _ _ (c.in-Some-InText.is ∙ ap Some c.in-Some-InText.field-0-is)

pub returns-in-Some-InStore : goal.returns-in-Some-InStore
returns-in-Some-InStore c = store_shown c.args.table.now c.args.text.now c.args.store.now _ _ c.shown_at.ensures _ _ (c.in-Some-InStore.is ∙ ap Some c.in-Some-InStore.field-0-is)

pub returns-in-None : goal.returns-in-None
returns-in-None c = search none_shown
