-- The whole string is one run, so its bytes are the run's (WholeTexts).
use native.Mathlib.Omega.{arith}
use mathlib.Core.Path.{ap, ◌∙◌}
use Rattle.std.specs.Prelude.{Err}
use Rattle.strings.proofs.WholeTexts.{run_tight, run_good}
use Rattle.strings.proofs.read.read_run.Goals as goal

pub overflow_sub-count : goal.overflow_sub-count
overflow_sub-count c = omega (arith, c.requires.1.onward)

pub returns-then-out-count : goal.returns-then-out-count
returns-then-out-count c = let r = run_tight _ _ _ _ _ c.requires.0 c.requires.1 c.requires.2 (omega arith) in record { answer = ap Err c.at.ensures ∙ r.0; stored = r.1 }

pub copy_long-requires : goal.copy_long-requires
copy_long-requires c = omega (arith, c.requires.1.onward, c.requires.1.inside)

pub returns : goal.returns
returns c = let r = run_good _ _ _ _ _ c.requires.0 c.requires.1 c.requires.2 _ (omega arith) c.copy_long.ensures in record { answer = r.0; stored = r.1 }
