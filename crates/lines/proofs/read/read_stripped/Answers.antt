-- The opening mark decides which of the two a line is (LineAnswers).
use Rattle.lines.proofs.LineAnswers.{mark_stands, marked, unmarked}
use Rattle.lines.proofs.read.read_stripped.Goals as goal

pub read_quoted-requires : goal.read_quoted-requires
read_quoted-requires c = mark_stands _ _ c.mark_at.ensures _ c.in-Some.is

pub returns-in-Some : goal.returns-in-Some
returns-in-Some c = search marked

pub returns-in-None : goal.returns-in-None
returns-in-None c = search unmarked
