-- The lowest set bit stands in the first marked byte (Places).
use mathlib.Core.Path.{subst, sym}
use Prim.Native.Nat.{ℕ, ◌/◌}
use lib.Count.{count_trailing_zeros}
use Rattle.eights.specs.inner.Words.{First}
use Rattle.eights.proofs.Places.{first, tz_fits}
use Rattle.eights.proofs.place.Goals as goal

pub overflow_cast-result : goal.overflow_cast-result
overflow_cast-result c = record { fits = tz_fits c.args.w }

pub returns : goal.returns
returns c = λ g e. subst (λ (x : ℕ). First g 8 (count_trailing_zeros 64 x / 8)) (sym e) (first 8 g)
