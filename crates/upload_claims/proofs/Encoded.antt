-- Every list of calls has an encoded form: its pieces joined, and their lengths; by induction on the list.
-- Assumes nothing.
use Prim.Native.Nat.{ℕ, suc, ◌-◌}
use mathlib.Core.List.{List, [], ◌∷◌, ◌++◌}
use mathlib.Core.Path.{◌≡◌, refl}
use native.Mathlib.Omega.{arith}
use lib.Dec.{eqb-suc-zero}
use lib.ListN.{length}
use lib.Seq.{take-append_seam, drop-append_seam}
use Rattle.prelude.specs.Pick.{pick}
use Rattle.j8_lines.specs.Lists.{Call, feeds, finishes, decode}

pub text_of : List Call → List ℕ
text_of [] = []
text_of (feeds p ∷ cs) = p ++ text_of cs
text_of (finishes ∷ cs) = text_of cs

pub plan_of : List Call → List ℕ
plan_of [] = []
plan_of (feeds p ∷ cs) = suc (length p) ∷ plan_of cs
plan_of (finishes ∷ cs) = 0 ∷ plan_of cs

pub all_lists : (cs : List Call) → decode (text_of cs) (plan_of cs) ≡ cs
unfolding decode text_of plan_of pick
all_lists [] = refl
all_lists (feeds p ∷ cs) =
    let e : suc (length p) - 1 ≡ length p = omega arith in
    rw (eqb-suc-zero (length p), e, take-append_seam p (text_of cs), drop-append_seam p (text_of cs), all_lists cs)
all_lists (finishes ∷ cs) = rw (all_lists cs)
