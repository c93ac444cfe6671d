use mathlib.Core.Path.{refl}
-- Eight bytes, each shifted to its place, add up to the word (Marks).
use native.Mathlib.Omega.{arith}
use lib.ListN.{get_or}
use Rattle.eights.proofs.Marks.{sum_is}
use Rattle.eights.proofs.front.Goals as goal

pub overflow_add-result : goal.overflow_add-result
overflow_add-result c = omega arith

pub overflow_add-result-2 : goal.overflow_add-result-2
overflow_add-result-2 c = omega arith

pub overflow_add-result-3 : goal.overflow_add-result-3
overflow_add-result-3 c = omega arith

pub overflow_add-result-4 : goal.overflow_add-result-4
overflow_add-result-4 c = omega arith

pub overflow_add-result-5 : goal.overflow_add-result-5
overflow_add-result-5 c = omega arith

pub overflow_add-result-6 : goal.overflow_add-result-6
overflow_add-result-6 c = omega arith

pub overflow_add-result-7 : goal.overflow_add-result-7
overflow_add-result-7 c = omega arith

pub returns : goal.returns
returns c =
    (sum_is (λ k. get_or c.args.p.now k 0) _ _ _ _ _ _ _ _ (refl, omega arith) (refl, omega arith) (refl, omega arith) (refl, omega arith) (refl, omega arith) (refl, omega arith) (refl, omega arith) (refl, omega arith), λ k l. (c.shared_slice_known-1.given k).fits)
