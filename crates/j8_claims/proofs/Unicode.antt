-- A result of 0 is an accepted string, since every refusal has a number; and what was read stands in front of the buffer.
-- Assumes nothing.
use Prim.Native.Nat.{ℕ}
use mathlib.Core.Bool.{true}
use mathlib.Core.List.{List}
use mathlib.Core.Path.{◌≡◌, refl}
use native.Mathlib.Omega.{arith}
use lib.ListN.{length, take, drop}
use lib.Seq.{take-append_seam}
use Rattle.prelude.proofs.Numbers.{number_positive}
use Rattle.utf8.specs.Utf8.{valid_utf8}
use Rattle.notation.specs.declared.styles.Style.TheVariants.{Unicode}
use Rattle.notation.specs.Marks.{opens, opening}
use Rattle.strings.specs.Read.{StringRead, accepted, refused, read_text, decoded_of, read_into}
use Rattle.string_claims.proofs.Claims.{unicode_is_utf8}
use Rattle.structs.specs.Results.{decoded_result}
use Rattle.j8.specs.Runs.{string_read}

pub unicode_read : (text out : List ℕ) (n : ℕ) → opening text ≡ opens Unicode n → (string_read text out).result.number ≡ 0
    → valid_utf8 (take (string_read text out).result.length (string_read text out).out) ≡ true
unicode_read text out n o z = go (read_text (length out) text) refl z
  where
    go : (r : StringRead) → read_text (length out) text ≡ r → (decoded_result (decoded_of r)).number ≡ 0
        → valid_utf8 (take (decoded_result (decoded_of r)).length (read_into r out)) ≡ true
    go (accepted bs e) q z = rw (take-append_seam bs (drop (length bs) out)) (unicode_is_utf8 (length out) text bs n e o q)
    go (refused refusal at) q z = absurd (omega (arith, z, number_positive refusal))
