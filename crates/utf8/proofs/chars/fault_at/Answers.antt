-- The definition's way by the byte that stands there (CharSteps, FaultSteps).
use mathlib.Core.Path.{sym, ◌∙◌}
use Rattle.utf8.proofs.CharSteps.{fault_end}
use Rattle.utf8.proofs.FaultSteps.{no_start_lem, from_start}
use Rattle.utf8.proofs.chars.fault_at.Goals as goal

pub returns-then-s-at : goal.returns-then-s-at
returns-then-s-at c = search fault_end

pub returns-then-no_start : goal.returns-then-no_start
returns-then-no_start c = search no_start_lem

pub fault_from-requires : goal.fault_from-requires
fault_from-requires c = sym c.no_start.ensures ∙ c.if-no_start.false

pub returns : goal.returns
returns c = search from_start
