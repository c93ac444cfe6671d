-- Two stores of eight bytes, one behind the other (Fronts).
use Rattle.bytewise.proofs.Fronts.{sixteen_stored}
use Rattle.bytewise.proofs.front.put_sixteen.Goals as goal

pub returns : goal.returns
returns c = sixteen_stored c.args.s.now c.args.out.now _ _ _ c.requires.0 c.copy.ensures c.copy-2.ensures
