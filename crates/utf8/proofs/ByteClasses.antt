-- What a class tells of a byte, shown of every number: by one test that antt computes below f5, and above it by the one class there.
-- Assumes nothing.
use Prim.Native.Nat.{ℕ, ◌≤◌}
use mathlib.Core.Bool.{true}
use mathlib.Core.Path.{◌≡◌}
use native.Mathlib.Omega.{arith}
use lib.Dec.{ltb, eqb}
use borrow.Author.Tests.{eqb-true, ltb-true, ltb-false, le-ltb, ne_eqb}
use Rattle.prelude.specs.Pick.{pick}
use Rattle.prelude.proofs.Cases.{split}
use Rattle.prelude.proofs.Tables.{all_below, at_below}
use Rattle.utf8.specs.Class.{class_of}

pub class_last : (a : ℕ) → 0xf5 ≤ a → class_of a ≡ 13
unfolding class_of pick
class_last a h =
    simp (
      le-ltb a 0x20 (omega arith),
      ne_eqb a 0x22 (λ z. omega arith),
      ne_eqb a 0x27 (λ z. omega arith),
      ne_eqb a 0x5c (λ z. omega arith),
      le-ltb a 0x80 (omega arith),
      le-ltb a 0xc0 (omega arith),
      le-ltb a 0xc2 (omega arith),
      le-ltb a 0xe0 (omega arith),
      ne_eqb a 0xe0 (λ z. omega arith),
      ne_eqb a 0xed (λ z. omega arith),
      le-ltb a 0xf0 (omega arith),
      ne_eqb a 0xf0 (λ z. omega arith),
      le-ltb a 0xf4 (omega arith),
      ne_eqb a 0xf4 (λ z. omega arith),
    )

pub by_byte_lem : (f g : ℕ → ℕ) → all_below (λ b. eqb (f (class_of b)) (g b)) 0xf5 ≡ true → ((a : ℕ) → 0xf5 ≤ a → f 13 ≡ g a) → (a : ℕ) → f (class_of a) ≡ g a
by_byte_lem f g t h a =
    split (ltb a 0xf5)
    (λ e. eqb-true _ _ (at_below (λ b. eqb (f (class_of b)) (g b)) 0xf5 t a (ltb-true a 0xf5 e)))
    (λ e. let l : 0xf5 ≤ a = ltb-false a 0xf5 e in rw (class_last a l) (h a l))
