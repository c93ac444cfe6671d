-- By whether it begins with a mark (Marked).
use Rattle.std.proofs.Common.{sym, ◌∙◌}
use Rattle.command_books.proofs.Marked.{marked, unmarked}
use Rattle.command_books.proofs.marks.line_of.Goals as goal

pub returns-then-begins : goal.returns-then-begins
returns-then-begins c = marked c.args.line.now _ (sym c.begins.ensures ∙ c.if-begins.true)

pub returns : goal.returns
returns c = unmarked c.args.line.now _ (sym c.begins.ensures ∙ c.if-begins.false)
