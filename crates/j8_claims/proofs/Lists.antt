-- Lists of the C calls: each call's state comes back as it went out, so that a list of C calls is the list of the calls below, call by call.
-- Assumes nothing.
use mathlib.Core.List.{List, [], ◌∷◌, map}
use mathlib.Core.Path.{◌≡◌, refl, ap, ◌∙◌}
use Rattle.upload.specs.declared.uploads.Upload.{Upload}
use Rattle.upload.specs.Calls.{Lent, lent, Called, feed, finish}
use Rattle.j8_lines.specs.Lists.{Call, feeds, finishes, call, run}
use Rattle.upload_claims.specs.Claims.{answers}
use Rattle.structs.specs.declared.uploads.J8Answer.{J8Answer}
use Rattle.structs.specs.Uploads.{upload_of, answer_of, given}
use Rattle.structs.proofs.Claims.{states_return}
use Rattle.j8.specs.Runs.{RanCall, ran_call}
use Rattle.j8_claims.specs.Lists.{call_c, run_c, answers_c}

-- a state handed out and in again
given_back : (m : Lent) → given (upload_of m.state) m.line m.out ≡ m
given_back m = ap (λ (s : Upload). lent s m.line m.out) (states_return m.state)

call_back : (m : Lent) (c : Call) → call_c (upload_of m.state) m.line m.out c ≡ ran_call (call m c)
unfolding call_c call
call_back m (feeds piece) = ap (λ (n : Lent). ran_call (feed n piece)) (given_back m)
call_back m finishes = ap (λ (n : Lent). ran_call (finish n)) (given_back m)

pub run_back : (r : Called) (cs : List Call) → run_c (ran_call r) cs ≡ ran_call (run r cs)
unfolding run_c run
run_back r [] = refl
run_back r (c ∷ cs) = ap (λ (n : RanCall). run_c n cs) (call_back r.lent c) ∙ run_back (call r.lent c) cs

pub answers_back : (r : Called) (cs : List Call) → answers_c (ran_call r) cs ≡ map answer_of (answers r.lent cs)
unfolding answers_c answers
answers_back r [] = refl
answers_back r (c ∷ cs) =
    ap (λ (n : RanCall). n.fed.answer ∷ answers_c n cs) (call_back r.lent c)
    ∙ ap (λ (l : List J8Answer). answer_of (call r.lent c).answer ∷ l) (answers_back (call r.lent c) cs)

pub handed_back : (r : Called) → given (ran_call r).fed.upload (ran_call r).line (ran_call r).out ≡ r.lent
handed_back r = given_back r.lent
