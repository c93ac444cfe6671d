-- With a mark it is what `read_open` promises, and without one refusal 3 (WholeTexts).
use mathlib.Core.Path.{ap, ◌∙◌}
use Rattle.std.specs.Prelude.{Err}
use Rattle.strings.proofs.WholeTexts.{mark_inside, marked, unmarked}
use Rattle.strings.proofs.read.read_string.Goals as goal

pub read_open-requires : goal.read_open-requires
read_open-requires c = mark_inside _ _ c.mark_at.ensures _ c.in-Some.is

pub returns-in-Some : goal.returns-in-Some
returns-in-Some c =
    let r = marked _ _ c.mark_at.ensures _ c.in-Some.is c.args.out.now (c.read_open.ensures.answer, c.read_open.ensures.stored) in record { answer = r.0; stored = r.1 }

pub returns-in-None : goal.returns-in-None
returns-in-None c =
    let r = unmarked _ _ c.mark_at.ensures c.args.out.now c.in-None.is in record { answer = ap Err c.at.ensures ∙ r.0; stored = r.1 }
