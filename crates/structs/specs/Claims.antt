-- What is claimed of the structs of include/j8.h, beside the contracts: turned into each other, they lose nothing. Each claim is a type, and
-- proofs/Claims.antt has a term of it.
-- Assumes nothing.
use Rattle.std.specs.Prelude.{ℕ, ◌≡◌, eqb, Option, Result}
use Rattle.prelude.specs.Pick.{pick}
use Rattle.prelude.specs.declared.refusals.Refusal.{Refusal}
use Rattle.prelude.specs.declared.refusals.Refused.{Refused}
use Rattle.json8.specs.declared.answers.Parsed.{Parsed}
use Rattle.json8_show.specs.declared.show.Shown.{Shown}
use Rattle.tsv8.specs.declared.answers.Sheet.{Sheet}
use Rattle.upload.specs.declared.uploads.Upload.{Upload}
use Rattle.upload.specs.declared.uploads.Fed.{Fed}
use Rattle.structs.specs.declared.uploads.J8Upload.{J8Upload}
use Rattle.structs.specs.Results.{decoded_result, written_result}
use Rattle.structs.specs.Uploads.{state_of, upload_with, upload_of, fed_from}
use Rattle.structs.specs.Tables.{nodes_result, shown_result}
use Rattle.structs.specs.Sheets.{sheet_result}

-- a state that goes out as a struct comes back as it was
abbrev pub StatesReturn : Type 0
StatesReturn = (s : Upload) → state_of (upload_of s) ≡ s

-- and so does a struct, whoever made it, but for `ended`: "a call takes all but 0 as 1"
abbrev pub StructsReturn : Type 0
StructsReturn = (u : J8Upload) → upload_of (state_of u) ≡ upload_with (state_of u) (pick (eqb u.ended 0) 0 1)

-- two calls that return one struct left one state and gave one answer
abbrev pub FedTellsAll : Type 0
FedTellsAll = (f g : Fed) → fed_from f ≡ fed_from g → f ≡ g

-- "number 0: done", and each other number a refusal: one struct, one answer
abbrev pub ResultsTellAll : Type 0
ResultsTellAll =
    ((v w : Result ℕ Refused) → decoded_result v ≡ decoded_result w → v ≡ w)
    × ((v w : Result ℕ Refusal) → written_result v ≡ written_result w → v ≡ w)
    × ((v w : Result Parsed Refused) → nodes_result v ≡ nodes_result w → v ≡ w)
    × ((v w : Option Shown) → shown_result v ≡ shown_result w → v ≡ w)
    × ((v w : Result Sheet Refused) → sheet_result v ≡ sheet_result w → v ≡ w)
