-- The front is all of the data, or the rest is written behind it (AmpleRoom).
use native.Mathlib.Omega.{arith}
use Rattle.strings_write.proofs.AmpleRoom.{all_front}
use Rattle.strings_write.proofs.write.write_run.Goals as goal

pub put_front-e-requires : goal.put_front-e-requires
put_front-e-requires c = omega (arith, c.ample.ensures (c.if-not-ample.false))

pub bounds-out-e : goal.bounds-out-e
bounds-out-e c = let a = c.ample.ensures (c.if-not-ample.false) in omega (arith, a.0, a.1, c.put_front-e.auto.out)

pub returns-then-e-s : goal.returns-then-e-s
returns-then-e-s c = all_front _ _ _ _ _ c.put_front-e.ensures c.if-e-s.true (c.ample.ensures (c.if-not-ample.false)).0

pub write_behind-requires : goal.write_behind-requires
write_behind-requires c = let a = c.ample.ensures (c.if-not-ample.false) in (c.put_front-e.ensures.run.inside, a.0, omega (arith, a.1, c.put_front-e.auto.out))

pub returns : goal.returns
returns c = c.write_behind.ensures _ c.put_front-e.ensures
