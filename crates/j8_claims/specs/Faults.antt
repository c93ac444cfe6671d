-- Request [2] by examples: bytes that no character begins with, and what each C function that reads a text answers for them.
-- Assumes nothing.
use Rattle.std.specs.Prelude.{ℕ, List, [], ◌∷◌, ◌++◌, ◌≡◌}
use Rattle.prelude.specs.Bytes.{double_quote, ascii}
use Rattle.prelude.specs.declared.refusals.Refusal.{Refusal}
use Rattle.prelude.specs.Refusals.{no_opening, bad_escape, trailing, misplaced, bad_header, bad_line, utf8_bad_encoding, utf8_incomplete, utf8_overlong, utf8_surrogate, utf8_too_large, number_of}
use Rattle.lines.specs.Line.{faulty, read_line}
use Rattle.structs.specs.Results.{refusal}
use Rattle.j8.specs.Runs.{string_read, json8_read, tsv8_read}

pub record Fault : Type 0 where
  pub bytes : List ℕ
  pub refusal : Refusal

abbrev fault : Refusal → List ℕ → Fault
fault r s = record { bytes = s; refusal = r }

-- "Byte 80 to bf or f8 to ff at the start is bad encoding"; "too few continuation bytes is incomplete", though nothing could save some of them;
-- "overlong first (f0 8d a0 80 too), then surrogate, or above 10ffff"; "23 bad encoding, 24 incomplete, 25 overlong, 26 surrogate, 27 too large"
abbrev pub faults : List Fault
faults =
    fault utf8_bad_encoding (0x80 ∷ []) ∷
    fault utf8_bad_encoding (0xbf ∷ 0x80 ∷ []) ∷
    fault utf8_bad_encoding (0xf8 ∷ 0x88 ∷ 0x80 ∷ 0x80 ∷ 0x80 ∷ []) ∷
    fault utf8_bad_encoding (0xff ∷ []) ∷
    fault utf8_incomplete (0xc0 ∷ []) ∷
    fault utf8_incomplete (0xdf ∷ 0x41 ∷ []) ∷
    fault utf8_incomplete (0xe0 ∷ 0x80 ∷ []) ∷
    fault utf8_incomplete (0xed ∷ 0xa0 ∷ 0x41 ∷ []) ∷
    fault utf8_incomplete (0xf4 ∷ 0x90 ∷ []) ∷
    fault utf8_incomplete (0xf7 ∷ 0xbf ∷ 0xbf ∷ 0xc0 ∷ []) ∷
    fault utf8_overlong (0xc0 ∷ 0xaf ∷ []) ∷
    fault utf8_overlong (0xc1 ∷ 0xbf ∷ []) ∷
    fault utf8_overlong (0xe0 ∷ 0x9f ∷ 0xbf ∷ []) ∷
    fault utf8_overlong (0xf0 ∷ 0x8d ∷ 0xa0 ∷ 0x80 ∷ []) ∷
    fault utf8_overlong (0xf0 ∷ 0x8f ∷ 0xbf ∷ 0xbf ∷ []) ∷
    fault utf8_surrogate (0xed ∷ 0xa0 ∷ 0x80 ∷ []) ∷
    fault utf8_surrogate (0xed ∷ 0xbf ∷ 0xbf ∷ []) ∷
    fault utf8_too_large (0xf4 ∷ 0x90 ∷ 0x80 ∷ 0x80 ∷ []) ∷
    fault utf8_too_large (0xf5 ∷ 0x80 ∷ 0x80 ∷ 0x80 ∷ []) ∷
    fault utf8_too_large (0xf7 ∷ 0xbf ∷ 0xbf ∷ 0xbf ∷ []) ∷ []

-- of each of a list
abbrev pub Every : {A : Type 0} → (A → Type 0) → List A → Type 0
Every P [] = Unit
Every P (e ∷ es) = P e × Every P es

-- in a string, in a JSON8 comment, and as the name of a column
abbrev pub in_string : Fault → List ℕ
in_string e = double_quote ∷ e.bytes ++ (double_quote ∷ [])

abbrev pub in_comment : Fault → List ℕ
in_comment e = ascii "1#" ++ e.bytes

abbrev pub in_name : Fault → List ℕ
in_name e = ascii "!tsv8\t" ++ e.bytes

-- "Strings, lines, JSON8 and TSV8 pass it up; places stay": at the first byte, whatever is lent; a line as an upload reads it
pub record PassedUp (out table store names types cells : List ℕ) (e : Fault) : Type 0 where
  pub as_string : (string_read (in_string e) out).result ≡ refusal e.refusal 1
  pub as_line : read_line e.bytes ≡ faulty e.refusal 0
  pub as_value : (json8_read (in_string e) table store).result ≡ record { number = number_of e.refusal; place = 1; nodes = 0; stored = 0 }
  pub as_comment : (json8_read (in_comment e) table store).result ≡ record { number = number_of e.refusal; place = 2; nodes = 0; stored = 0 }
  pub as_name : (tsv8_read (in_name e) names types cells store).result ≡ record { number = number_of e.refusal; place = 6; columns = 0; cells = 0; stored = 0 }

-- "at 5's place in the order": texts in which another refusal stands where a fault does, or one could be looked for
pub record Ordered : Type 0 where
  pub text : List ℕ
  pub refusal : Refusal
  pub place : ℕ

abbrev ordered : List ℕ → Refusal → ℕ → Ordered
ordered s r p = record { text = s; refusal = r; place = p }

-- a character that the text's end cuts off isn't 4; what a backslash stands before is its escape's, and what follows the closing quote 11
abbrev pub ordered_strings : List Ordered
ordered_strings =
    ordered (ascii "\"" ++ (0xe2 ∷ 0x82 ∷ [])) utf8_incomplete 1 ∷
    ordered (ascii "\"\\" ++ (0xff ∷ [])) bad_escape 1 ∷
    ordered (ascii "\"a\"" ++ (0xff ∷ [])) trailing 3 ∷
    ordered (0xff ∷ []) no_opening 0 ∷ []

-- outside strings and comments it is 13, and 11 behind the value
abbrev pub ordered_tables : List Ordered
ordered_tables =
    ordered (0xff ∷ []) misplaced 0 ∷
    ordered (ascii "1" ++ (0xff ∷ [])) trailing 1 ∷
    ordered (ascii "[1" ++ (0xff ∷ [])) misplaced 2 ∷
    ordered (ascii "#" ++ (0xe2 ∷ 0x82 ∷ 0x0a ∷ 0x31 ∷ [])) utf8_incomplete 1 ∷ []

-- a cell's own text goes before 21, a type's word and a wrong count before all else there
abbrev pub ordered_sheets : List Ordered
ordered_sheets =
    ordered (ascii "!tsv8\ta\n!type\tInt\n\t4" ++ (0xff ∷ [])) utf8_bad_encoding 20 ∷
    ordered (ascii "!tsv8\ta\n!type\t" ++ (0xff ∷ [])) bad_header 14 ∷
    ordered (ascii "!tsv8\ta\n\tx\t" ++ (0xff ∷ [])) bad_line 8 ∷
    ordered (ascii "!tsv8\ta\n\t" ++ (0xc3 ∷ 0x09 ∷ [])) bad_line 8 ∷ []
