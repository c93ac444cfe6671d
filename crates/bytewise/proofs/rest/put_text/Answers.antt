-- A control or another byte, by its class (ByteTexts).
use native.Mathlib.Omega.{arith}
use Rattle.bytewise.proofs.ByteTexts.{is_control, no_control}
use Rattle.bytewise.proofs.rest.put_text.Goals as goal

pub put_control-requires : goal.put_control-requires
put_control-requires c = (is_control _ _ c.class.ensures c.if-class-eq1.true, omega arith)

pub put_slashed-requires : goal.put_slashed-requires
put_slashed-requires c = (no_control _ _ c.class.ensures c.if-class-eq1.false, omega arith)
