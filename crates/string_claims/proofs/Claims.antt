-- The claims of specs/Claims.antt, each from the law that has it.
-- Assumes nothing.
use mathlib.Core.List.{[]}
use mathlib.Core.Path.{◌≡◌, refl, ap}
use native.Mathlib.Omega.{arith}
use lib.Dec.{lit≤}
use Rattle.prelude.specs.Pick.{pick}
use Rattle.utf8.specs.Class.{class_of}
use Rattle.utf8.specs.Utf8.{low_of, high_of, two_bytes, three_bytes, four_bytes, long_len, len_by, char_len, encode}
use Rattle.notation.specs.declared.styles.Form.TheVariants.{AsBytes}
use Rattle.escapes.specs.Hex.{hex_val, hex_digits, hex_from}
use Rattle.escapes.specs.Escapes.{lookup, low_half, code_unit, four_digits, scalar, braced, raw_byte, escape}
use Rattle.units.specs.Units.{unit_at}
use Rattle.units.proofs.Sizes.{took_size}
use Rattle.std.specs.Prelude.{Ok, Err}
use Rattle.prelude.specs.Refusals.{refused_at}
use Rattle.prelude.proofs.Numbers.{number_injective, number_positive}
use Rattle.notation.specs.Marks.{opening}
use Rattle.strings.specs.Read.{read_units, read_token, read_string, token_at, TokenNumbers}
use Rattle.strings_write.specs.Write.{write_bytes, write_string}
use Rattle.string_claims.specs.Claims.{examples, ExampleStrings, WrittenReadsBack, BytesFormReadsBack, WrittenTokenReadsBack, BytesFormTokenReadsBack, EndsAtItsQuote, UnicodeIsUtf8, UnicodeTokenIsUtf8, WriterIsInjective, WrittenIsOneLine, BytesFormIsOneLine, PlacesInside, RefusalsNumbered, FaultsPassedUp, CutOffAtEnd, UnitsProgress, WrittenLength, ReadLength, TokensTellAll}
use Rattle.string_claims.proofs.Ends.{token_cut}
use Rattle.string_claims.proofs.RoundTrip.{quoted_back, token_back, text_back, write_injective}
use Rattle.strings.proofs.Places.{string_inside, text_inside}
use Rattle.string_claims.proofs.Texts.{text_valid, token_valid, all_texts}
use Rattle.string_claims.proofs.Numbers.{text_numbered, passed_up}
use Rattle.string_claims.proofs.Printed.{quoted_printed, write_printed, printed_at}
use Rattle.strings.proofs.Lengths.{string_length}
use Rattle.strings_write.proofs.WriteLengths.{write_length}

pub example_strings : ExampleStrings
unfolding class_of low_of high_of two_bytes three_bytes four_bytes long_len len_by char_len encode hex_val hex_digits hex_from lookup low_half code_unit four_digits scalar braced raw_byte escape unit_at read_units opening read_token read_string pick
example_strings room l = all_texts room l examples (record { read = refl; fits = lit≤ tt; short = lit≤ tt }, (record { read = refl; fits = lit≤ tt; short = lit≤ tt }, (record { read = refl; fits = lit≤ tt; short = lit≤ tt }, (record { read = refl; fits = lit≤ tt; short = lit≤ tt }, (record { read = refl; fits = lit≤ tt; short = lit≤ tt }, (record { read = refl; fits = lit≤ tt; short = lit≤ tt }, (record { read = refl; fits = lit≤ tt; short = lit≤ tt }, (record { read = refl; fits = lit≤ tt; short = tt }, (record { read = refl; fits = lit≤ tt; short = tt }, (record { read = refl; fits = lit≤ tt; short = tt }, (record { read = refl; fits = lit≤ tt; short = tt }, (record { read = refl; fits = lit≤ tt; short = tt }, (record { read = refl; fits = lit≤ tt; short = tt }, tt)))))))))))))

pub written_reads_back : WrittenReadsBack
written_reads_back room s b = text_back room s (write_string s) (token_back s [] b)

pub bytes_form_reads_back : BytesFormReadsBack
bytes_form_reads_back room s b = text_back room s (write_bytes s) (quoted_back AsBytes s [] b tt)

pub written_token_reads_back : WrittenTokenReadsBack
written_token_reads_back = token_back

pub bytes_form_token_reads_back : BytesFormTokenReadsBack
bytes_form_token_reads_back s t b = quoted_back AsBytes s t b tt

pub ends_at_its_quote : EndsAtItsQuote
ends_at_its_quote s t bs e h = token_cut s bs e h t

pub unicode_is_utf8 : UnicodeIsUtf8
unicode_is_utf8 room s bs n e o r = rw r at (text_valid room s n o)

pub unicode_token_is_utf8 : UnicodeTokenIsUtf8
unicode_token_is_utf8 s bs n e o r = rw r at (token_valid s n o)

pub writer_is_injective : WriterIsInjective
writer_is_injective = write_injective

pub written_is_one_line : WrittenIsOneLine
written_is_one_line s = printed_at (write_string s) (write_printed s)

pub bytes_form_is_one_line : BytesFormIsOneLine
bytes_form_is_one_line s = printed_at (write_bytes s) (quoted_printed AsBytes s)

pub places_inside : PlacesInside
places_inside room s refusal at r = (rw r at (text_inside room s)).0.1

pub refusals_numbered : RefusalsNumbered
refusals_numbered room s refusal at e = rw e at (text_numbered room s)

pub faults_passed_up : FaultsPassedUp
faults_passed_up = passed_up

pub cut_off_at_end : CutOffAtEnd
cut_off_at_end s at r = (rw r at (string_inside s)).1 refl

pub units_progress : UnitsProgress
units_progress = took_size

pub written_length : WrittenLength
written_length = write_length

pub read_length : ReadLength
read_length s bs e r = omega (arith, rw r at (string_length s), rw r at (string_inside s))

pub tokens_tell_all : TokensTellAll
tokens_tell_all (Ok t) (Ok u) p =
    let a : t.end ≡ u.end = ap (λ (r : TokenNumbers). r.end) p in
    let b : t.len ≡ u.len = ap (λ (r : TokenNumbers). r.size) p in λ i. Ok (token_at (a i) (b i))
tokens_tell_all (Ok t) (Err f) p = absurd (omega (arith, number_positive f.refusal, ap (λ (r : TokenNumbers). r.number) p))
tokens_tell_all (Err f) (Ok t) p = absurd (omega (arith, number_positive f.refusal, ap (λ (r : TokenNumbers). r.number) p))
tokens_tell_all (Err f) (Err g) p =
    let a : f.refusal ≡ g.refusal = number_injective f.refusal g.refusal (ap (λ (r : TokenNumbers). r.number) p) in
    let b : f.place ≡ g.place = ap (λ (r : TokenNumbers). r.place) p in λ i. Err (refused_at (a i) (b i))
