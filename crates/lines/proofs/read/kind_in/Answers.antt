-- Validity decides the kind.
use Rattle.lines.proofs.LineAnswers.{kind_valid, kind_other}
use Rattle.lines.proofs.read.kind_in.Goals as goal

pub returns-then-valid_in : goal.returns-then-valid_in
returns-then-valid_in c = search kind_valid

pub returns : goal.returns
returns c = search kind_other
