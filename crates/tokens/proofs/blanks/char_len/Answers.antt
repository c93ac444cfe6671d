-- The class of the first byte says how many bytes are looked at (CharSteps).
use mathlib.Core.Path.{sym}
use native.Mathlib.Omega.{arith}
use Rattle.utf8.proofs.CharSteps.{one_byte, lone_tail, long_char}
use Rattle.tokens.proofs.blanks.char_len.Goals as goal

pub returns-then-k-lt5 : goal.returns-then-k-lt5
returns-then-k-lt5 c = sym (one_byte c.args.s.now c.args.at c.args.k c.requires.0 c.requires.1 c.if-k-lt5.true)

pub returns-then-k-lt6 : goal.returns-then-k-lt6
returns-then-k-lt6 c = sym (lone_tail c.args.s.now c.args.at c.args.k c.requires.0 c.requires.1 (omega arith) c.if-k-lt6.true)

pub returns : goal.returns
returns c = sym (long_char c.args.s.now c.args.at c.args.k c.requires.0 c.requires.1 _ c.long_len.ensures (omega arith))
