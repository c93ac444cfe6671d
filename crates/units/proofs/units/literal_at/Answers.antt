-- The character check's answer, case by case (UnitLaws).
use borrow.Author.Rules.{rules}
use mathlib.Core.Path.{ap, ◌∙◌}
use Rattle.std.specs.Prelude.{Err}
use Rattle.prelude.specs.declared.refusals.Refusal.{Refusal}
use Rattle.std.proofs.lemmas.Result.{err_from_is_err_and}
use Rattle.units.proofs.UnitLaws.{good_few, good_inside, literal_good, literal_bad}
use Rattle.units.proofs.units.literal_at.Goals as goal

pub returns-in_err-n : goal.returns-in_err-n
returns-in_err-n c =
    let p = err_from_is_err_and c.from_residual.result c.from_residual.ensures.1 in
    let q = literal_bad _ _ c.char_at.ensures _ c.in_err-n.was _ (p.1 ∙ ap (λ (e : Refusal). Err e) p.2) in record { is = q.0; few = q.1 }

pub few_at-requires : goal.few_at-requires
few_at-requires c = (good_few _ _ _ c.char_at.ensures c.in_ok-n.was, good_inside _ _ _ c.char_at.ensures c.in_ok-n.was)

pub returns : goal.returns
returns c = record { is = literal_good _ _ _ c.char_at.ensures c.in_ok-n.was _ c.few_at.ensures.is; few = search rules }
