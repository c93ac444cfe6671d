-- A code point's pattern, or any other unit (Filling).
use native.Mathlib.Omega.{arith}
use Rattle.string_tokens.proofs.Filling.{point_filled, len_small}
use Rattle.string_tokens.proofs.fill.fill_number.Goals as goal

pub overflow_add-result : goal.overflow_add-result
overflow_add-result c = omega (arith, c.len_of.ensures, len_small c.in-Some.v, c.requires.0)

pub returns : goal.returns
returns c =
    point_filled _ c.args.s.now _ _ c.args.out.now _ _ _ _ c.in-Some.ensures.1 c.encode-few.ensures.is c.encode-few.ensures.few c.len_of.ensures c.put_few.ensures
