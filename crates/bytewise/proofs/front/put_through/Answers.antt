-- Two stores, one behind the other (Fronts).
use Rattle.bytewise.proofs.Fronts.{through_stored}
use Rattle.bytewise.proofs.front.put_through.Goals as goal

pub returns : goal.returns
returns c = through_stored c.args.s.now c.args.out.now _ _ _ _ c.requires.0 c.put_sixteen.ensures c.put_owed.ensures
