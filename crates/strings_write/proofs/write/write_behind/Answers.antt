-- The front is all of the data, or the text of the bytes behind it follows, or the other form goes over it (AmpleRoom).
use native.Mathlib.Omega.{arith}
use lib.ListN.{length-set}
use mathlib.Core.Path.{sym, ◌∙◌}
use Rattle.strings_write.proofs.AmpleRoom.{all_front, valid_text_behind, other_text_over}
use Rattle.bytewise.proofs.ByteTexts.{texted_bound, texted_length}
use Rattle.strings_write.proofs.write.write_behind.Goals as goal

pub judge-j-requires : goal.judge-j-requires
judge-j-requires c = (c.requires.0, omega (arith, c.requires))

pub returns-then-j-s : goal.returns-then-j-s
returns-then-j-s c = λ o f. all_front _ o _ _ _ (c.judge-j.ensures.1 o f) c.if-j-s.true c.requires.1

pub put_rest-o-requires : goal.put_rest-o-requires
put_rest-o-requires c = (c.judge-j.ensures.0, omega (arith, c.requires, c.judge-j.ensures.0, c.judge-j.auto.out))

pub bounds-out-o : goal.bounds-out-o
bounds-out-o c =
    omega (arith, c.requires, c.judge-j.ensures.0, c.judge-j.auto.out, texted_bound _ _ _ _ _ _ _ c.put_rest-o.ensures, texted_length _ _ _ _ _ _ _ c.put_rest-o.ensures)

pub overflow_add-result-then-j : goal.overflow_add-result-then-j
overflow_add-result-then-j c = omega (arith, c.requires, c.judge-j.ensures.0, texted_bound _ _ _ _ _ _ _ c.put_rest-o.ensures)

pub shape_of-out-then-j : goal.shape_of-out-then-j
shape_of-out-then-j c = simp length-set (texted_length _ _ _ _ _ _ _ c.put_rest-o.ensures ∙ c.judge-j.auto.out)

pub returns-then-j : goal.returns-then-j
returns-then-j c = λ o f. valid_text_behind _ o _ _ _ (c.judge-j.ensures.1 o f) (sym c.if-j.true ∙ c.judge-j.ensures.2) _ _ c.requires.1 c.put_rest-o.ensures

pub returns : goal.returns
returns c = λ o f. other_text_over _ o _ _ _ (c.judge-j.ensures.1 o f) _ _ c.requires.1 (sym c.if-j.false ∙ c.judge-j.ensures.2) c.write_form.ensures
