-- What the class tells of the byte, way by way (LiteralClasses).
use mathlib.Core.Path.{sym, ◌∙◌}
use Rattle.notation.proofs.LiteralClasses.{plain_char, bare_quote, no_char, long_char}
use Rattle.runs.proofs.literals.literal_len.Goals as goal

pub returns-then-k-eq0 : goal.returns-then-k-eq0
returns-then-k-eq0 c = plain_char c.args.style c.args.s.now c.args.at c.args.k c.requires.0 c.requires.1 c.if-k-eq0.true

pub returns-then-k-bare_class : goal.returns-then-k-bare_class
returns-then-k-bare_class c =
    bare_quote c.args.style c.args.s.now c.args.at c.args.k c.requires.0 c.requires.1 c.if-k-eq0.false c.if-k-lt6.true (c.if-k-bare_class.true ∙ c.bare_class.ensures)

pub returns-then-k-lt6 : goal.returns-then-k-lt6
returns-then-k-lt6 c =
    no_char c.args.style c.args.s.now c.args.at c.args.k c.requires.0 c.requires.1 c.if-k-eq0.false c.if-k-lt6.true (λ z. c.if-k-bare_class.false (z ∙ sym c.bare_class.ensures))

pub returns : goal.returns
returns c =
    long_char c.args.style c.args.s.now c.args.at c.args.k c.requires.0 c.requires.1 c.long_len.result c.long_len.ensures c.if-k-eq0.false c.if-k-lt6.false
