-- UTF-8 by the grammar of RFC 3629, section 4, a line of it quoted at each definition. The class of the first byte tells the form.
-- Assumes nothing.
use Rattle.std.specs.Prelude.{Option, Some, None, Result, Ok, Err, ℕ, zero, suc, pred, ◌+◌, ◌-◌, ◌*◌, ◌/◌, ◌%◌, Bool, true, false, ◌&&◌, List, [], ◌∷◌, ltb, leb, eqb, get_or, take}
use Rattle.prelude.specs.Pick.{pick}
use Rattle.prelude.specs.declared.refusals.Refusal.{Refusal}
use Rattle.prelude.specs.Refusals.{utf8_bad_encoding, utf8_incomplete, utf8_overlong, utf8_surrogate, utf8_too_large}
use Rattle.utf8.specs.Class.{class_of}
use Rattle.utf8.specs.declared.encoding.Few.{Few}

abbrev pub between : ℕ → ℕ → ℕ → Bool
between low high x = leb low x && leb x high

-- "UTF8-tail = %x80-BF"
abbrev pub tail : ℕ → Bool
tail b = between 0x80 0xbf b

-- the least and the greatest second byte behind a lead of class k: "%xE0 %xA0-BF", "%xED %x80-9F", "%xF0 %x90-BF", "%xF4 %x80-8F"
unfoldable pub low_of : ℕ → ℕ
low_of k = pick (eqb k 8) 0xa0 (pick (eqb k 11) 0x90 0x80)

unfoldable pub high_of : ℕ → ℕ
high_of k = pick (eqb k 9) 0x9f (pick (eqb k 12) 0x8f 0xbf)

abbrev pub second : ℕ → ℕ → Bool
second k b = between (low_of k) (high_of k) b

-- "UTF8-2 = %xC2-DF UTF8-tail"
unfoldable pub two_bytes : ℕ → ℕ
two_bytes b = pick (tail b) 2 0

-- "UTF8-3 = %xE0 %xA0-BF UTF8-tail / %xE1-EC 2( UTF8-tail ) / %xED %x80-9F UTF8-tail / %xEE-EF 2( UTF8-tail )"
unfoldable pub three_bytes : ℕ → ℕ → ℕ → ℕ
three_bytes k b c = pick (second k b) (pick (tail c) 3 0) 0

-- "UTF8-4 = %xF0 %x90-BF 2( UTF8-tail ) / %xF1-F3 3( UTF8-tail ) / %xF4 %x80-8F 2( UTF8-tail )"
unfoldable pub four_bytes : ℕ → ℕ → ℕ → ℕ → ℕ
four_bytes k b c d = pick (second k b) (pick (tail c) (pick (tail d) 4 0) 0) 0

-- the length of the character whose first byte has class k, a lead's, and whose next bytes are b, c and d; 0 where none stands
unfoldable pub long_len : ℕ → ℕ → ℕ → ℕ → ℕ
long_len k b c d = pick (ltb k 7) (two_bytes b) (pick (ltb k 10) (three_bytes k b c) (pick (ltb k 13) (four_bytes k b c d) 0))

-- "UTF8-1 = %x00-7F", or one of the longer forms; a continuation byte begins none
unfoldable pub len_by : ℕ → ℕ → ℕ → ℕ → ℕ
len_by k b c d = pick (ltb k 5) 1 (pick (ltb k 6) 0 (long_len k b c d))

-- the length of the well-formed character at the head, 0 where none stands; past the end every byte is 0, which is no tail
unfoldable pub char_len : List ℕ → ℕ
char_len [] = 0
char_len (a ∷ r) = len_by (class_of a) (get_or r 0 0) (get_or r 1 0) (get_or r 2 0)

-- request [2], after source 003. "Byte 80 to bf or f8 to ff at the start is bad encoding"
unfoldable pub no_start : ℕ → Bool
no_start a = pick (tail a) true (leb 0xf8 a)

-- how many continuation bytes a start asks for: none of ASCII, one of c0 to df, two of e0 to ef, three of f0 to f7
unfoldable pub wanted : ℕ → ℕ
wanted a = pick (ltb a 0x80) 0 (pick (ltb a 0xe0) 1 (pick (ltb a 0xf0) 2 3))

-- so many stand first
unfoldable pub has_tails : ℕ → List ℕ → Bool
has_tails zero r = true
has_tails (suc n) [] = false
has_tails (suc n) (b ∷ r) = tail b && has_tails n r

-- what a start itself gives of the number, behind the bits that tell its kind: RFC 3629, section 3, "110xxxxx", "1110xxxx", "11110xxx"
unfoldable pub start_bits : ℕ → ℕ
start_bits a = pick (ltb a 0x80) a (pick (ltb a 0xe0) (a - 0xc0) (pick (ltb a 0xf0) (a - 0xe0) (a - 0xf0)))

-- each continuation byte gives six bits more, "10xxxxxx"
unfoldable pub tails_on : ℕ → ℕ → List ℕ → ℕ
tails_on v zero r = v
tails_on v (suc n) [] = v
tails_on v (suc n) (b ∷ r) = tails_on (v * 0x40 + (b - 0x80)) n r

-- the number that a start and the continuation bytes behind it write: source 003, "The sequence decodes to an integer"
unfoldable pub value_of : ℕ → List ℕ → ℕ
value_of a r = tails_on (start_bits a) (wanted a) r

-- the least number that needs as many: source 003, "each code point should be represented with the fewest possible bytes"
unfoldable pub least_of : ℕ → ℕ
least_of a = pick (ltb a 0x80) 0 (pick (ltb a 0xe0) 0x80 (pick (ltb a 0xf0) 0x800 0x10000))

-- "else by value overlong first (f0 8d a0 80 too), then surrogate, or above 10ffff"
unfoldable pub value_fault : ℕ → ℕ → Option Refusal
value_fault least v =
    pick (ltb v least) (Some utf8_overlong) (pick (between 0xd800 0xdfff v) (Some utf8_surrogate) (pick (ltb 0x10ffff v) (Some utf8_too_large) None))

-- "else too few continuation bytes is incomplete"
unfoldable pub fault_from : ℕ → List ℕ → Option Refusal
fault_from a r = pick (has_tails (wanted a) r) (value_fault (least_of a) (value_of a r)) (Some utf8_incomplete)

-- the fault at the head, none where a well-formed character stands; nothing at all is incomplete
unfoldable pub char_fault : List ℕ → Option Refusal
char_fault [] = Some utf8_incomplete
char_fault (a ∷ r) = pick (no_start a) (Some utf8_bad_encoding) (fault_from a r)

-- what is no character is refused by its fault; it has one (Claims, `OneOfFive`)
abbrev pub refused_by : Option Refusal → Result ℕ Refusal
refused_by (Some fault) = Err fault
refused_by None = Ok 0

abbrev pub char_by : ℕ → List ℕ → Result ℕ Refusal
char_by zero s = refused_by (char_fault s)
char_by (suc n) s = Ok (suc n)

-- the character check: the length of the character at the head of the rest of a text, or its fault
abbrev pub char_at : List ℕ → Result ℕ Refusal
char_at s = char_by (char_len s) s

abbrev pub positive : ℕ → Bool
positive zero = false
positive (suc n) = true

-- k bytes are skipped, and the rest is characters
unfoldable pub valid_from : ℕ → List ℕ → Bool
valid_from k [] = true
valid_from zero (x ∷ r) = positive (char_len (x ∷ r)) && valid_from (pred (char_len (x ∷ r))) r
valid_from (suc k) (x ∷ r) = valid_from k r

-- "UTF8-octets = *( UTF8-char )"
abbrev pub valid_utf8 : List ℕ → Bool
valid_utf8 s = valid_from 0 s

-- the ordinary pattern of a number below 0x200000, halves included
unfoldable pub encode : ℕ → List ℕ
encode v =
    pick (ltb v 0x80) (v ∷ [])
    (pick (ltb v 0x800) ((0xc0 + v / 0x40) ∷ (0x80 + v % 0x40) ∷ [])
    (pick (ltb v 0x10000) ((0xe0 + v / 0x1000) ∷ (0x80 + v / 0x40 % 0x40) ∷ (0x80 + v % 0x40) ∷ [])
    ((0xf0 + v / 0x40000) ∷ (0x80 + v / 0x1000 % 0x40) ∷ (0x80 + v / 0x40 % 0x40) ∷ (0x80 + v % 0x40) ∷ [])))

-- the bytes that a `Few` of the code holds
abbrev pub few_of : Few → List ℕ
few_of f = take f.count (f.a ∷ f.b ∷ f.c ∷ f.d ∷ [])
