-- Each call's answer, by induction on the calls still to come: a call is the last of the list that ends with it.
-- Assumes nothing.
use Prim.Native.Nat.{ℕ, ◌≤◌}
use mathlib.Core.Bool.{false}
use mathlib.Core.List.{List, [], ◌∷◌, ◌++◌}
use mathlib.Core.Path.{◌≡◌, refl, sym}
use lib.ListN.{length}
use Rattle.prelude.proofs.Cases.{never}
use Rattle.prelude.specs.Limits.{line_max}
use Rattle.upload.specs.Calls.{Called}
use Rattle.j8_lines.specs.Lists.{Call, feeds, finishes, call, run, began, joined, finished, earlier, defined}
use Rattle.j8_lines.proofs.WholeList.{whole_list}
use Rattle.upload_claims.specs.Claims.{answers, defined_answers}

run_last : (cs : List Call) (c : Call) (r : Called) → run r (cs ++ (c ∷ [])) ≡ call (run r cs).lent c
unfolding run
run_last [] c r = refl
run_last (d ∷ cs) c r = run_last cs c (call r.lent d)

pub each_answer : (line out : List ℕ) → line_max ≤ length line → (before cs : List Call)
    → answers (run (began line out) before).lent cs ≡ defined_answers before cs line out
unfolding answers defined_answers
each_answer line out h before [] = refl
each_answer line out h before (c ∷ cs) =
    rw (sym (run_last before c (began line out)))
    (rw (each_answer line out h (before ++ (c ∷ [])) cs, whole_list (before ++ (c ∷ [])) line out h))

-- no finish came before the last of the calls, if none came at all
none_earlier : (cs : List Call) → finished cs ≡ false → earlier cs ≡ false
unfolding finished earlier
none_earlier [] e = refl
none_earlier (c ∷ []) e = refl
none_earlier (feeds piece ∷ (c ∷ cs)) e = none_earlier (c ∷ cs) e
none_earlier (finishes ∷ (c ∷ cs)) e = never (cc)

pub same_pieces : (cs ds : List Call) (line out : List ℕ) → finished cs ≡ false → finished ds ≡ false → joined cs ≡ joined ds
    → defined cs line out ≡ defined ds line out
unfolding defined
same_pieces cs ds line out a b e = rw (a, b, e, none_earlier cs a, none_earlier ds b)
