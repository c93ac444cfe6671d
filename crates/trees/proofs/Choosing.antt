-- Where a meaning was found, each step that led to it found one: by cases of the step.
-- Assumes nothing.
use mathlib.Core.Bool.{Bool, true, false}
use mathlib.Core.Path.{◌≡◌, refl}
use Rattle.prelude.specs.Pick.{pick}
use Rattle.prelude.proofs.Cases.{never}
use Rattle.trees.specs.Tables.{Maybe, just, nothing, bind, need}

pub record Bound {A B : Type 0} (x : Maybe A) (f : A → Maybe B) (y : B) : Type 0 where
  pub value : A
  pub was : x ≡ just value
  pub rest : f value ≡ just y

pub bind_just : {A B : Type 0} (x : Maybe A) (f : A → Maybe B) (y : B) → bind x f ≡ just y → Bound x f y
bind_just (just a) f y e = record { value = a; was = refl; rest = e }
bind_just nothing f y e = never (cc)

pub need_just : {A : Type 0} (b : Bool) (x : Maybe A) (y : A) → need b x ≡ just y → (b ≡ true) × (x ≡ just y)
unfolding pick
need_just true x y e = (refl, e)
need_just false x y e = never (cc)
