-- Literal characters may stand bare, so the run in front is passed by itself (BareTexts).
use native.Mathlib.Omega.{arith}
use Rattle.lines.proofs.BareTexts.{whole_inside, behind_whole}
use Rattle.lines.proofs.bare.check_in.Goals as goal

pub check_from-requires : goal.check_from-requires
check_from-requires c = whole_inside _ _ _ c.literal_run-e.ensures

pub returns : goal.returns
returns c = search behind_whole
