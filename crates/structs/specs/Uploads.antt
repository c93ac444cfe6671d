-- The upload's structs of include/j8.h and what the calls return in them.
-- Assumes nothing.
use Rattle.std.specs.Prelude.{ℕ, Bool, true, false, List, eqb}
use Rattle.prelude.specs.Pick.{pick}
use Rattle.upload.specs.declared.uploads.Upload.{Upload}
use Rattle.upload.specs.declared.uploads.Answer.{Answer}
use Rattle.upload.specs.declared.uploads.Fed.{Fed}
use Rattle.upload.specs.Calls.{Lent, Called}
use Rattle.structs.specs.declared.uploads.J8Upload.{J8Upload}
use Rattle.structs.specs.declared.uploads.J8Answer.{J8Answer}
use Rattle.structs.specs.declared.uploads.J8Fed.{J8Fed}

-- "a call takes all but 0 as 1"
unfoldable pub is_ended : ℕ → Bool
is_ended n = pick (eqb n 0) false true

-- "whether a finish ended the upload: 0 or 1"
unfoldable pub ended_number : Bool → ℕ
ended_number over = pick over 1 0

abbrev pub state_with : J8Upload → Bool → Upload
state_with u over =
    record {
      taken = u.taken;
      lfs = u.lfs;
      held = u.held;
      used = u.used;
      ended = over;
      refusal = u.refusal;
      line = u.line;
      place = u.place;
    }

abbrev pub state_of : J8Upload → Upload
state_of u = state_with u (is_ended u.ended)

abbrev pub upload_with : Upload → ℕ → J8Upload
upload_with s over =
    record {
      taken = s.taken;
      lfs = s.lfs;
      held = s.held;
      used = s.used;
      ended = over;
      refusal = s.refusal;
      line = s.line;
      place = s.place;
    }

abbrev pub upload_of : Upload → J8Upload
upload_of s = upload_with s (ended_number s.ended)

abbrev pub answer_of : Answer → J8Answer
answer_of a = record { number = a.number; line = a.line; place = a.place }

abbrev pub fed_from : Fed → J8Fed
fed_from f = record { upload = upload_of f.state; answer = answer_of f.answer }

-- the state and the buffers that a call is given
abbrev pub given : J8Upload → List ℕ → List ℕ → Lent
given u line out = record { state = state_of u; line = line; out = out }

-- what a call returns
abbrev pub fed_of : Called → J8Fed
fed_of r = fed_from (record { state = r.lent.state; answer = r.answer })
