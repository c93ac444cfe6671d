-- Document 01's whole case, computed from the definition: no byte and no line is refused, so all records are there.
-- Assumes nothing.
use Prim.Native.Nat.{ℕ}
use mathlib.Core.Bool.{true}
use mathlib.Core.List.{List}
use mathlib.Core.Path.{◌≡◌, refl, ap, ◌∙◌}
use native.Mathlib.Omega.{arith}
use lib.ListN.{length, drop_of_length-le}
use Rattle.prelude.specs.Pick.{pick}
use Rattle.utf8.specs.Class.{class_of}
use Rattle.utf8.specs.Utf8.{low_of, high_of, two_bytes, three_bytes, four_bytes, long_len, len_by, char_len, encode, valid_from}
use Rattle.escapes.specs.Hex.{hex_val, hex_digits, hex_from}
use Rattle.escapes.specs.Escapes.{lookup, low_half, code_unit, four_digits, scalar, braced, raw_byte, escape}
use Rattle.units.specs.Units.{unit_at}
use Rattle.notation.specs.Marks.{opening}
use Rattle.strings.specs.Read.{read_units, read_token, read_string}
use Rattle.lines.specs.Line.{read_line, read_stripped, strip, trimmed, leads, blank, bare_fault, bare_from, bare, kind_of}
use Rattle.records.specs.Records.{line_record, none, line_fault}
use Rattle.j8_lines.specs.Lines.{headed, cut, count_lf, records, fault_behind, first_from, first_fault, open_fault, records_of, left, j8_lines}
use Rattle.upload_claims.specs.Claims.{case_text, case_out, case_state}
use Rattle.j8_lines.proofs.WholeList.{ended_none}

none_refused : (first_fault 23 case_text).why ≡ none
unfolding pick class_of low_of high_of two_bytes three_bytes four_bytes long_len len_by char_len encode valid_from hex_val hex_digits hex_from lookup low_half code_unit four_digits scalar braced raw_byte escape unit_at read_units opening read_token read_string blank leads trimmed strip bare_fault bare_from bare kind_of read_stripped read_line line_record line_fault headed cut count_lf records fault_behind first_from
none_refused = refl

none_open : open_fault 23 (length (records (cut case_text).closed)) (cut case_text).open_line ≡ none
unfolding pick class_of low_of high_of two_bytes three_bytes four_bytes long_len len_by char_len encode valid_from hex_val hex_digits hex_from lookup low_half code_unit four_digits scalar braced raw_byte escape unit_at read_units opening read_token read_string blank leads trimmed strip bare_fault bare_from bare kind_of read_stripped read_line line_record line_fault headed cut count_lf records fault_behind first_from
none_open = refl

its_records : records_of true case_text ≡ case_out
unfolding pick class_of low_of high_of two_bytes three_bytes four_bytes long_len len_by char_len encode valid_from hex_val hex_digits hex_from lookup low_half code_unit four_digits scalar braced raw_byte escape unit_at read_units opening read_token read_string blank leads trimmed strip bare_fault bare_from bare kind_of read_stripped read_line line_record line_fault headed cut count_lf records fault_behind first_from
its_records = refl

its_lines : count_lf case_text ≡ 3
unfolding count_lf pick
its_lines = refl

module _ (line out : List ℕ) (k : length out ≡ 23) where
  all_taken : j8_lines case_text true line out ≡ left case_text none true line out
  all_taken =
      rw (ended_none case_text line out (ap (λ (n : ℕ). (first_fault n case_text).why) k ∙ none_refused), k, none_open)

  pub case_state_lem : (j8_lines case_text true line out).state ≡ case_state
  unfolding left
  case_state_lem = rw (all_taken, its_records, its_lines)

  pub case_out_lem : (j8_lines case_text true line out).out ≡ case_out
  unfolding left
  case_out_lem = rw (all_taken, its_records, drop_of_length-le out {i = 23} (omega arith))
