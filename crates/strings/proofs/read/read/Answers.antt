-- The cap, and then what `read_string` promises (WholeTexts).
use native.Mathlib.Omega.{arith}
use mathlib.Core.Path.{ap, ◌∙◌}
use Rattle.std.specs.Prelude.{Err}
use Rattle.strings.proofs.WholeTexts.{long, within}
use Rattle.strings.proofs.read.read.Goals as goal

pub returns-then-text-gt-TEXT_MAX : goal.returns-then-text-gt-TEXT_MAX
returns-then-text-gt-TEXT_MAX c = let r = long _ c.args.out.now (omega arith) in record { answer = ap Err c.at.ensures ∙ r.0; stored = r.1 }

pub returns : goal.returns
returns c =
    let r = within _ c.args.out.now _ _ (omega arith) (c.read_string.ensures.answer, c.read_string.ensures.stored) in record { answer = r.0; stored = r.1 }
