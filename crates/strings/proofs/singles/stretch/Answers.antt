-- An end behind the place stands before the text's end, way by way.
use native.Mathlib.Omega.{arith}
use Rattle.strings.proofs.singles.stretch.Goals as goal

pub returns-then-left-gt-STRETCH : goal.returns-then-left-gt-STRETCH
returns-then-left-gt-STRETCH c = λ h. omega arith

pub returns-then-left-gt0 : goal.returns-then-left-gt0
returns-then-left-gt0 c = λ h. omega arith

pub returns : goal.returns
returns c = λ h. absurd (omega arith)
