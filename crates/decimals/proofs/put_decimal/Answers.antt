-- io's digits are those of the definition (Decimals).
use native.Mathlib.Omega.{arith}
use Rattle.rooms.proofs.Puts.{put_as}
use Rattle.decimals.proofs.Decimals.{decimal_put}
use Rattle.decimals.proofs.put_decimal.Goals as goal

pub returns : goal.returns
returns c = put_as (decimal_put c.args.n c.decimal-k.result _ (omega arith) c.decimal-k.ensures.len c.decimal-k.ensures.digits) c.put_all.ensures
