-- Literal characters may stand bare, so the run in front is passed by itself (BareTexts).
use native.Mathlib.Omega.{arith}
use Rattle.lines.proofs.BareTexts.{run_fine, run_inside, behind_run}
use Rattle.lines.proofs.bare.check_bare.Goals as goal

pub returns-then-at-s : goal.returns-then-at-s
returns-then-at-s c = search run_fine

pub check_from-requires : goal.check_from-requires
check_from-requires c = run_inside _ _ _ c.strides_to_end-at.ensures _ c.literal_run-e.ensures

pub returns : goal.returns
returns c = search behind_run
