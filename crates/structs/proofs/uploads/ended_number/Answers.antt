-- The test decides as in `ended_number`.
use borrow.Author.Rules.{rules}
use Rattle.prelude.specs.Pick.{pick}
use Rattle.structs.specs.Uploads.{ended_number}
use Rattle.structs.proofs.uploads.ended_number.Goals as goal

pub returns-then-over : goal.returns-then-over
unfolding ended_number pick
returns-then-over c = search rules

pub returns : goal.returns
unfolding ended_number pick
returns c = search rules
