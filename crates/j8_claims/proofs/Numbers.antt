-- What each C function that reads a text can answer: 0, or what the definition that it equals can be refused with.
-- Assumes nothing.
use Prim.Native.Nat.{ℕ, ◌/◌}
use mathlib.Core.List.{List}
use mathlib.Core.Logic.{◌⊎◌, inl, inr}
use mathlib.Core.Path.{◌≡◌, refl}
use lib.ListN.{length}
use Rattle.strings.specs.Read.{StringRead, accepted, refused, read_text, decoded_of}
use Rattle.string_claims.specs.Claims.{Numbered as StringNumbered}
use Rattle.string_claims.proofs.Numbers as strings
use Rattle.json8.specs.Nodes as nodes
use Rattle.json8.specs.Read.{read_of, parsed_of}
use Rattle.json8.specs.Claims.{Numbered as TableNumbered}
use Rattle.json8.proofs.Numbers as tables
use Rattle.upload_claims.specs.Claims.{NumberOf}
use Rattle.structs.specs.Results.{decoded_result}
use Rattle.structs.specs.Tables.{nodes_result}
use Rattle.j8.specs.Runs.{string_read, json8_read}

string_told : (r : StringRead) → strings.ReadNumbered r → ((decoded_result (decoded_of r)).number ≡ 0) ⊎ NumberOf StringNumbered (decoded_result (decoded_of r)).number
string_told (accepted bs e) h = inl refl
string_told (refused refusal at) h = inr (refusal, (h, refl))

pub string_numbered : (text out : List ℕ) → ((string_read text out).result.number ≡ 0) ⊎ NumberOf StringNumbered (string_read text out).result.number
string_numbered text out = string_told (read_text (length out) text) (strings.text_numbered (length out) text)

table_told : (r : nodes.Read) → tables.ReadNumbered r → ((nodes_result (parsed_of r)).number ≡ 0) ⊎ NumberOf TableNumbered (nodes_result (parsed_of r)).number
table_told (nodes.got l tag ns bs) h = inl refl
table_told (nodes.refused refusal at) h = inr (refusal, (h, refl))

pub table_numbered : (text table store : List ℕ)
    → ((json8_read text table store).result.number ≡ 0) ⊎ NumberOf TableNumbered (json8_read text table store).result.number
table_numbered text table store =
    table_told (read_of (length table / 4) (length store) text) (tables.text_numbered (length table / 4) (length store) text)
