-- A token's bytes are those of the units behind its mark (Filling).
use Rattle.string_tokens.proofs.Quoting.{mark_is, mark_none, mark_fits}
use Rattle.string_tokens.proofs.Filling.{units_fit, units_told, none_told}
use Rattle.string_tokens.proofs.fill.fill.Goals as goal

pub fill_units-requires : goal.fill_units-requires
fill_units-requires c =
    (mark_fits _ _ _ (mark_is _ _ c.mark_at.ensures _ c.in-Some.is), units_fit c.args.s.now c.args.out.now c.requires _ _ (mark_is _ _ c.mark_at.ensures _ c.in-Some.is))

pub returns-in-Some : goal.returns-in-Some
returns-in-Some c = units_told c.args.s.now c.args.out.now c.requires _ _ (mark_is _ _ c.mark_at.ensures _ c.in-Some.is) _ c.fill_units.ensures

pub returns-in-None : goal.returns-in-None
returns-in-None c = none_told c.args.s.now c.args.out.now c.requires (mark_none _ _ c.mark_at.ensures c.in-None.is)
