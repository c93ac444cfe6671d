-- The definition's decision list on the byte behind the backslash, which is 0 past the end (EscapeLaws).
use borrow.Author.Rules.{rules}
use Rattle.escapes.proofs.EscapeLaws.{first_inside, escape_u, escape_y, escape_letter}
use Rattle.escapes.proofs.escape_at.Goals as goal

pub returns-then-c-eq117 : goal.returns-then-c-eq117
returns-then-c-eq117 c = record { is = search escape_u; few = search rules }

pub returns-then-c-eq121 : goal.returns-then-c-eq121
returns-then-c-eq121 c = record { is = search escape_y; few = search rules }

pub returns : goal.returns
returns c = record { is = search escape_letter; few = search rules }
