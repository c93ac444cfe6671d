-- The cap, and then what `read_first` promises (Tokens).
use native.Mathlib.Omega.{arith}
use mathlib.Core.Path.{ap, ◌∙◌}
use Rattle.std.specs.Prelude.{Err}
use Rattle.strings.proofs.Tokens.{long, within}
use Rattle.strings.proofs.read.read_token.Goals as goal

pub returns-then-s-gt-TEXT_MAX : goal.returns-then-s-gt-TEXT_MAX
returns-then-s-gt-TEXT_MAX c = let r = long _ c.args.out.now (omega arith) in record { answer = ap Err c.at.ensures ∙ r.0; stored = r.1 }

pub returns : goal.returns
returns c = let r = within _ c.args.out.now _ _ (omega arith) (c.read_first.ensures.answer, c.read_first.ensures.stored) in record { answer = r.0; stored = r.1 }
