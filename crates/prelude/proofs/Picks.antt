-- What a `return` rewrites with: the tests that led there choose the side of each `pick` of the definition.
-- Assumes nothing.
use mathlib.Core.Path.{◌≡◌, refl, ap}
use mathlib.Core.Bool.{Bool, true, false, ◌&&◌}
use borrow.Author.Tests.{lt-ltb, le-ltb, le-leb, lt-leb, eq-eqb, ne_eqb}
use Rattle.prelude.specs.Pick.{pick}

pub pick_true : {A : Type 0} (b : Bool) (x y : A) → b ≡ true → pick b x y ≡ x
unfolding pick
pick_true b x y e = ap (λ (t : Bool). pick t x y) e

pub pick_false : {A : Type 0} (b : Bool) (x y : A) → b ≡ false → pick b x y ≡ y
unfolding pick
pick_false b x y e = ap (λ (t : Bool). pick t x y) e

pub ruleset picks = (pick_true, pick_false, lt-ltb, le-ltb, le-leb, lt-leb, eq-eqb, ne_eqb)

-- what holds of both sides holds of the one picked
pub pick_case : {A : Type 0} (P : A → Type 0) (b : Bool) (x y : A) → (b ≡ true → P x) → (b ≡ false → P y) → P (pick b x y)
unfolding pick
pick_case P true x y f g = f refl
pick_case P false x y f g = g refl

-- a test of several parts: each part is decided by a test of the code, and one that fails is enough
pub and_yes : (a b : Bool) → a ≡ true → b ≡ true → a && b ≡ true
and_yes a b e f = rw (e, f)

pub and_no_first : (a b : Bool) → a ≡ false → a && b ≡ false
and_no_first a b e = rw e

pub and_no_second : (a b : Bool) → b ≡ false → a && b ≡ false
and_no_second true b f = f
and_no_second false b f = refl

pub ruleset nots = (and_no_first, and_no_second)

pub ruleset tests = (picks, and_yes, nots)
