-- The claim of specs/Claims.antt, computed.
-- Assumes nothing.
use mathlib.Core.Path.{refl}
use Rattle.prelude.specs.Pick.{pick}
use Rattle.utf8.specs.Class.{class_of}
use Rattle.utf8.specs.Utf8.{low_of, high_of, two_bytes, three_bytes, four_bytes, long_len, len_by, char_len, valid_from, encode}
use Rattle.escapes.specs.Hex.{hex_val, hex_digits, hex_from}
use Rattle.notation.specs.Marks.{opening}
use Rattle.escapes.specs.Escapes.{lookup, low_half, code_unit, four_digits, scalar, braced, raw_byte, escape}
use Rattle.units.specs.Units.{unit_at}
use Rattle.units.specs.Written.{hex_digit, by_number, written}
use Rattle.strings.specs.Read.{read_units, read_token, read_string}
use Rattle.strings_write.specs.Write.{write_units, quoted, write_string}
use Rattle.tokens.specs.Words.{same_bytes}
use Rattle.terminals.specs.Terminals.{second, direction, isolate, arabic, general, control_of, control_in, outer, inner, plain_after, mode_after, escape_text, byte_text, safe_from}
use Rattle.terminals.specs.Claims.{from_on, all_printed, read_as, tamed, all_tamed, ControlsAreEscaped}

pub controls_are_escaped : ControlsAreEscaped
unfolding class_of low_of high_of two_bytes three_bytes four_bytes long_len len_by char_len valid_from encode hex_val hex_digits hex_from opening lookup low_half code_unit four_digits scalar braced raw_byte escape unit_at hex_digit by_number written read_units read_token read_string write_units quoted write_string same_bytes second direction isolate arabic general control_of control_in outer inner plain_after mode_after escape_text byte_text safe_from from_on all_printed read_as tamed all_tamed pick
controls_are_escaped = refl
