use mathlib.Core.Path.{refl}
use native.Mathlib.Omega.{arith}
use Rattle.tokens.proofs.Spelling.{other_length, one_more, differs, all_same}
use Rattle.tokens.proofs.words.same.Goals as goal

pub returns-then-a-b : goal.returns-then-a-b
returns-then-a-b c = search other_length

pub loop-i-init : goal.loop-i-init
loop-i-init c = (omega arith, omega arith, refl)

pub returns-then-a-i : goal.returns-then-a-i
returns-then-a-i c = search differs

pub loop-i-preserved : goal.loop-i-preserved
loop-i-preserved c = (omega arith, omega arith, one_more c.args.a.now c.args.b.now c.loop-i.i c.loop-i.invariant.1 (omega arith) c.loop-i.invariant.2 (omega arith))

pub returns : goal.returns
returns c = all_same c.args.a.now c.args.b.now c.loop-i.i c.loop-i.invariant.1 (omega arith) c.loop-i.invariant.2
