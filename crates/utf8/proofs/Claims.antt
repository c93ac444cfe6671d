-- The claims of specs/Claims.antt, each from the law that has it.
-- Assumes nothing.
use Prim.Native.Nat.{ℕ, ◌<◌}
use mathlib.Core.List.{List, [], ◌∷◌}
use mathlib.Core.Logic.{inl, inr}
use mathlib.Core.Path.{◌≡◌}
use native.Mathlib.Omega.{arith}
use lib.ListN.{length}
use Rattle.std.specs.Prelude.{Some, None, Err}
use Rattle.prelude.specs.Refusals.{utf8_bad_encoding, utf8_incomplete, utf8_overlong, utf8_surrogate, utf8_too_large}
use Rattle.utf8.specs.Utf8.{char_len, char_fault, encode}
use Rattle.utf8.specs.Claims.{ScalarsAreCharacters, CharactersAreScalars, GoodWithoutFault, OneOfFive, BadEncodingNamed, IncompleteNamed, OverlongNamed, SurrogateNamed, TooLargeNamed, ValuesAreWritten}
use Rattle.utf8.proofs.Encoded.{OneChar, encode_char}
use Rattle.utf8.proofs.Values.{writes, char_scalar}
use Rattle.utf8.proofs.Faults.{Verdict, verdict, is_overlong, is_surrogate, is_large, fault_told}
use Rattle.utf8.proofs.Named.{start_bytes, bytes_start, bad_says, bad_at, is_bad, is_cut, cut_is, over, full, below_least, enough}

one : (s : List ℕ) → OneChar s → char_len s ≡ length s
one [] h = absurd h
one (a ∷ r) h = h

pub scalars_are_characters : ScalarsAreCharacters
scalars_are_characters v h = one (encode v) (encode_char v h)

pub characters_are_scalars : CharactersAreScalars
characters_are_scalars = char_scalar

pub good_without_fault : GoodWithoutFault
good_without_fault a r = (λ h. there h (verdict a r), λ e. back e (verdict a r))
  where
    there : 0 < char_len (a ∷ r) → Verdict (char_len (a ∷ r)) (char_fault (a ∷ r)) → char_fault (a ∷ r) ≡ None
    there h (inl (l, e)) = e
    there h (inr (z, l)) = absurd (omega (arith, z, h))

    back : char_fault (a ∷ r) ≡ None → Verdict (char_len (a ∷ r)) (char_fault (a ∷ r)) → 0 < char_len (a ∷ r)
    back e (inl (l, f)) = l
    back e (inr (z, (l, m))) = absurd (omega (arith, rw e at l))

pub one_of_five : OneOfFive
one_of_five a r z = fault_told (a ∷ r) z

pub bad_encoding_named : BadEncodingNamed
bad_encoding_named a r = (λ e. start_bytes a (bad_says a r utf8_bad_encoding e), λ h. bad_at a r utf8_bad_encoding (is_bad a r (bytes_start a h)))

pub incomplete_named : IncompleteNamed
incomplete_named a r = (cut_is a r, λ h. bad_at a r utf8_incomplete (is_cut a r h))

pub overlong_named : OverlongNamed
overlong_named a r =
    (λ e. let (c, h) = bad_says a r utf8_overlong e in (c, over a r c h), λ (c, o). bad_at a r utf8_overlong (is_overlong a r c (below_least a r c o)))

pub surrogate_named : SurrogateNamed
surrogate_named a r = (
  λ e. let (c, (h, l)) = bad_says a r utf8_surrogate e in (c, (full a r c h, l)),
  λ (c, (n, (l, m))). bad_at a r utf8_surrogate (is_surrogate a r c (enough a r c n) l m),
)

pub too_large_named : TooLargeNamed
too_large_named a r = (bad_says a r utf8_too_large, λ (c, h). bad_at a r utf8_too_large (is_large a r c h))

pub values_are_written : ValuesAreWritten
values_are_written a r c n = (writes a r c).back (enough a r c n)
