-- With a mark it is what `read_units` promises, and without one refusal 3 (WholeTexts).
use mathlib.Core.Path.{ap, ◌∙◌}
use Rattle.std.specs.Prelude.{Err}
use Rattle.strings.proofs.WholeTexts.{mark_inside, marked_token, unmarked_token}
use Rattle.strings.proofs.read.token.Goals as goal

pub read_units-requires : goal.read_units-requires
read_units-requires c = mark_inside _ _ c.mark_at.ensures _ c.in-Some.is

pub returns-in-Some : goal.returns-in-Some
returns-in-Some c =
    let r = marked_token _ _ c.mark_at.ensures _ c.in-Some.is _ _ (c.read_units.ensures.is, c.read_units.ensures.stored) in record { is = r.0; stored = r.1 }

pub returns-in-None : goal.returns-in-None
returns-in-None c =
    let r = unmarked_token _ _ c.mark_at.ensures _ c.in-None.is in record { is = ap Err c.at.ensures ∙ r.0; stored = r.1 }
