-- The pass tells what is read; where there is room, its notes are spread (Whole).
use mathlib.Core.Path.{refl, ap, ◌∙◌}
use Rattle.std.specs.Prelude.{Err}
use Rattle.json8_leaves.proofs.Joined.{handed_on}
use Rattle.json8_read.proofs.Whole.{too_long_lem, pass_refused, few, within, tight_table, tight_store, all_fit, spread_done}
use Rattle.json8_read.proofs.read.read.Goals as goal

pub returns-then-text-gt-TEXT_MAX : goal.returns-then-text-gt-TEXT_MAX
returns-then-text-gt-TEXT_MAX c =
    let r = too_long_lem c.args.text.now c.args.table.now c.args.store.now c.if-text-gt-TEXT_MAX.true in record { answer = ap Err c.at.ensures ∙ r.0; nodes = r.1.0; bytes = r.1.1 }

pub returns-in_err-found : goal.returns-in_err-found
returns-in_err-found c =
    let r = pass_refused c.args.text.now c.args.table.now c.args.store.now c.if-text-gt-TEXT_MAX.false _ _ _ c.pass.ensures _ c.in_err-found.was in record { answer = handed_on c.from_residual.result c.in_err-found.field-0.0 c.from_residual.ensures.1 ∙ r.0; nodes = r.1.0; bytes = r.1.1 }

pub returns-then-table-found : goal.returns-then-table-found
returns-then-table-found c =
    let r = tight_table c.args.text.now c.args.table.now c.args.store.now c.if-text-gt-TEXT_MAX.false _ _ _ c.pass.ensures refl _ c.in_ok-found.was c.if-table-found.true in record { answer = ap Err c.at-then-table-found.ensures ∙ r.0; nodes = r.1.0; bytes = r.1.1 }

pub is_tight-requires : goal.is_tight-requires
is_tight-requires c =
    (few c.args.text.now c.args.table.now c.args.store.now c.if-text-gt-TEXT_MAX.false _ _ _ c.pass.ensures refl _ c.in_ok-found.was, within c.args.text.now c.args.table.now c.args.store.now c.if-text-gt-TEXT_MAX.false _ _ _ c.pass.ensures refl _ c.in_ok-found.was)

pub returns-then-is_tight : goal.returns-then-is_tight
returns-then-is_tight c =
    let r = tight_store c.args.text.now c.args.table.now c.args.store.now c.if-text-gt-TEXT_MAX.false _ _ _ c.pass.ensures refl _ c.in_ok-found.was c.if-table-found.false (c.is_tight.ensures.tight c.if-is_tight.true) in record { answer = ap Err c.at-then-is_tight.ensures ∙ r.0; nodes = r.1.0; bytes = r.1.1 }

pub spread-stored-requires : goal.spread-stored-requires
spread-stored-requires c =
    (few c.args.text.now c.args.table.now c.args.store.now c.if-text-gt-TEXT_MAX.false _ _ _ c.pass.ensures refl _ c.in_ok-found.was, within c.args.text.now c.args.table.now c.args.store.now c.if-text-gt-TEXT_MAX.false _ _ _ c.pass.ensures refl _ c.in_ok-found.was, all_fit c.args.text.now c.args.table.now c.args.store.now c.if-text-gt-TEXT_MAX.false _ _ _ c.pass.ensures refl _ c.in_ok-found.was c.if-table-found.false (c.is_tight.ensures.wide c.if-is_tight.false))

pub returns : goal.returns
returns c =
    let r = spread_done c.args.text.now c.args.table.now c.args.store.now c.if-text-gt-TEXT_MAX.false _ _ _ c.pass.ensures refl _ c.in_ok-found.was c.if-table-found.false (c.is_tight.ensures.wide c.if-is_tight.false) _ _ _ (c.spread-stored.ensures.count, (c.spread-stored.ensures.nodes, c.spread-stored.ensures.bytes)) in record { answer = r.0; nodes = r.1.0; bytes = r.1.1 }
