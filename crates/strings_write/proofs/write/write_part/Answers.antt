-- Validity decides the form (Writing).
use Rattle.strings_write.proofs.Writing.{valid_pass, other_pass}
use Rattle.strings_write.proofs.write.write_part.Goals as goal

pub returns-then-valid : goal.returns-then-valid
returns-then-valid c = search valid_pass

pub returns : goal.returns
returns c = search other_pass
