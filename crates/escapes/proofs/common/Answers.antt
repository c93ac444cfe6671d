-- The table's pairs, one test each.
use native.Mathlib.Omega.{arith}
use Rattle.escapes.specs.Escapes.{lookup}
use Rattle.prelude.proofs.Picks.{picks}
use Rattle.escapes.proofs.common.Goals as goal

pub returns-then-c-eq34 : goal.returns-then-c-eq34
unfolding lookup
returns-then-c-eq34 c = (omega arith, search picks)

pub returns-then-c-eq92 : goal.returns-then-c-eq92
unfolding lookup
returns-then-c-eq92 c = (omega arith, search picks)

pub returns-then-c-eq47 : goal.returns-then-c-eq47
unfolding lookup
returns-then-c-eq47 c = (omega arith, search picks)

pub returns-then-c-eq98 : goal.returns-then-c-eq98
unfolding lookup
returns-then-c-eq98 c = (omega arith, search picks)

pub returns-then-c-eq102 : goal.returns-then-c-eq102
unfolding lookup
returns-then-c-eq102 c = (omega arith, search picks)

pub returns-then-c-eq110 : goal.returns-then-c-eq110
unfolding lookup
returns-then-c-eq110 c = (omega arith, search picks)

pub returns-then-c-eq114 : goal.returns-then-c-eq114
unfolding lookup
returns-then-c-eq114 c = (omega arith, search picks)

pub returns-then-c-eq116 : goal.returns-then-c-eq116
unfolding lookup
returns-then-c-eq116 c = (omega arith, search picks)

pub returns : goal.returns
unfolding lookup
returns c = search picks
