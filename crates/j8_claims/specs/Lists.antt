-- Lists of the C calls of an upload.
-- Assumes nothing.
use Rattle.std.specs.Prelude.{ℕ, List, [], ◌∷◌}
use Rattle.upload.specs.Calls.{zeros}
use Rattle.j8_lines.specs.Lists.{Call, feeds, finishes}
use Rattle.structs.specs.declared.uploads.J8Upload.{J8Upload}
use Rattle.structs.specs.declared.uploads.J8Answer.{J8Answer}
use Rattle.structs.specs.Uploads.{answer_of}
use Rattle.j8.specs.Runs.{RanCall, upload_fresh, upload_feed, upload_finish}

-- one call
unfoldable pub call_c : J8Upload → List ℕ → List ℕ → Call → RanCall
call_c u line out (feeds piece) = upload_feed u piece line out
call_c u line out finishes = upload_finish u line out

-- "Each call gets the state that the last one returned and the same two buffers as that one left them"
unfoldable pub run_c : RanCall → List Call → RanCall
run_c r [] = r
run_c r (c ∷ cs) = run_c (call_c r.fed.upload r.line r.out c) cs

-- before the first call: `j8_upload_fresh()` and the buffers as first lent
abbrev pub began_c : List ℕ → List ℕ → RanCall
began_c line out = record { fed = record { upload = upload_fresh; answer = answer_of zeros }; line = line; out = out }

-- the answers of a list of calls, in order
unfoldable pub answers_c : RanCall → List Call → List J8Answer
answers_c r [] = []
answers_c r (c ∷ cs) =
    (call_c r.fed.upload r.line r.out c).fed.answer ∷ answers_c (call_c r.fed.upload r.line r.out c) cs
