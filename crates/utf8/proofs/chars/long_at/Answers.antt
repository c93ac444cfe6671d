-- A length, or what is refused where there is none (CharSteps).
use mathlib.Core.Path.{◌∙◌}
use Rattle.utf8.proofs.CharSteps.{lone_is, cut_is, long_is}
use Rattle.utf8.proofs.chars.long_at.Goals as goal

pub returns-then-k-lt6 : goal.returns-then-k-lt6
returns-then-k-lt6 c = c.no_char.ensures ∙ lone_is c.args.s.now c.args.at c.args.k c.requires.0 c.requires.1 c.requires.2 c.if-k-lt6.true

pub returns-then-n-eq0 : goal.returns-then-n-eq0
returns-then-n-eq0 c = c.no_char-then-n-eq0.ensures ∙ cut_is c.args.s.now c.args.at c.args.k c.requires.0 c.requires.1 _ c.long_len-n.ensures c.if-k-lt6.false c.if-n-eq0.true

pub returns : goal.returns
returns c = long_is c.args.s.now c.args.at c.args.k c.requires.0 c.requires.1 _ c.long_len-n.ensures c.if-k-lt6.false c.if-n-eq0.false
