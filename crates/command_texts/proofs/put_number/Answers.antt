-- io's digits are those of the definition (Decimals).
use native.Mathlib.Omega.{arith}
use Rattle.decimals.proofs.Decimals.{decimal_put}
use Rattle.command_texts.proofs.Puts.{whole_as}
use Rattle.command_texts.proofs.put_number.Goals as goal

pub returns : goal.returns
returns c = whole_as (decimal_put c.args.n c.decimal-k.result _ (omega arith) c.decimal-k.ensures.len c.decimal-k.ensures.digits) c.put.ensures
