use native.Mathlib.Omega.{arith}
use Rattle.tsv8.proofs.TypeTexts.{naming_none, tab_due, type_in, type_unnamed, type_named_lem, types_named}
use Rattle.tsv8.proofs.types.types_from.Goals as goal

pub loop-k-init : goal.loop-k-init
loop-k-init c = naming_none _ _ _ _ c.requires.1 c.requires.2 c.requires.3 c.requires.5

pub end_from-e-requires : goal.end_from-e-requires
end_from-e-requires c = omega (arith, (tab_due _ _ _ _ _ _ c.loop-k.invariant c.loop-k-test.true).0)

pub slice_bounds-named_in-count : goal.slice_bounds-named_in-count
slice_bounds-named_in-count c = omega (arith, (type_in _ _ _ _ _ _ c.loop-k.invariant c.loop-k-test.true _ c.end_from-e.ensures).0)

pub slice_bounds-named_in-start : goal.slice_bounds-named_in-start
slice_bounds-named_in-start c = omega (arith, (type_in _ _ _ _ _ _ c.loop-k.invariant c.loop-k-test.true _ c.end_from-e.ensures).0)

pub slice_bounds-named_in-end : goal.slice_bounds-named_in-end
slice_bounds-named_in-end c = omega (arith, (type_in _ _ _ _ _ _ c.loop-k.invariant c.loop-k-test.true _ c.end_from-e.ensures).1)

pub returns-in_default : goal.returns-in_default
returns-in_default c = type_unnamed _ _ _ _ _ _ c.loop-k.invariant c.loop-k-test.true _ c.end_from-e.ensures c.in_default.ensures _ c.at.ensures

pub loop-k-preserved : goal.loop-k-preserved
loop-k-preserved c = type_named_lem _ _ _ _ _ _ c.loop-k.invariant c.loop-k-test.true _ c.end_from-e.ensures _ c.in-Some.ensures

pub returns : goal.returns
returns c = types_named _ _ _ _ _ _ c.loop-k.invariant c.loop-k-test.false
