-- One line: what is plain may stand before a line, and each part of a line is plain, its words by a computed test.
-- Assumes nothing.
use Prim.Native.Nat.{ℕ, zero, suc, ◌+◌, ◌/◌, ◌%◌, ◌≤◌}
use Prim.Native.String.{String}
use mathlib.Core.Bool.{Bool, true, ◌&&◌}
use mathlib.Core.List.{List, [], ◌∷◌, ◌++◌}
use mathlib.Core.Path.{◌≡◌, refl}
use native.Mathlib.Omega.{arith}
use borrow.Author.Tests.{le-leb, leb-true}
use lib.Dec.{eqb, leb, ltb}
use Rattle.prelude.proofs.Cases.{and_left, and_right}
use Rattle.prelude.proofs.Picks.{pick_case}
use Rattle.prelude.specs.Bytes.{ascii, LF}
use Rattle.prelude.specs.Pick.{pick}
use Rattle.units.proofs.WrittenUnits.{Printed, printed_append}
use Rattle.strings_write.specs.Write.{write_string}
use Rattle.string_claims.proofs.Printed.{write_printed}
use Rattle.sentences.specs.Sentences.{sentence}
use Rattle.sentences.specs.Claims.{InOneLine}
use Rattle.sentences.proofs.Claims.{sentences_stay_in_line}
use Rattle.messages.specs.declared.Head.{Head}
use Rattle.messages.specs.declared.Head.TheVariants.{Refused, Note}
use Rattle.messages.specs.declared.Spot.{Spot}
use Rattle.messages.specs.declared.Spot.TheVariants.{Line, Text, Quoted}
use Rattle.decimals.specs.Decimals.{nought, decimal_in, decimal}
use Rattle.messages.specs.Messages.{counted, line_text, spot_text, head_text, message_text, spot_fields, fields_text, object_text, said_text}
use Rattle.messages.specs.Claims.{in_line, OneLine}

plain_in : (x : ℕ) → 0x20 ≤ x → in_line x ≡ true
unfolding in_line
plain_in x h = pick_case (λ (b : Bool). b ≡ true) (eqb x 9) true (leb 0x20 x) (λ e. refl) (λ e. le-leb 0x20 x h)

pub plain_then : (a b : List ℕ) → Printed a → OneLine b → OneLine (a ++ b)
plain_then [] b p o = o
plain_then (x ∷ []) [] p o = absurd o
plain_then (x ∷ []) (y ∷ b) p o = (plain_in x p.0, o)
plain_then (x ∷ z ∷ a) b p o = (plain_in x p.0, plain_then (z ∷ a) b p.1 o)

pub tab_then : (b : List ℕ) → OneLine b → OneLine (9 ∷ b)
unfolding in_line pick
tab_then [] o = absurd o
tab_then (y ∷ b) o = (refl, o)

-- a test that computes, and what it tells
abbrev is_plain : List ℕ → Bool
is_plain [] = true
is_plain (x ∷ s) = leb 0x20 x && is_plain s

plain_by : (s : List ℕ) → is_plain s ≡ true → Printed s
plain_by [] e = tt
plain_by (x ∷ s) e = (leb-true 0x20 x (and_left (leb 0x20 x) (is_plain s) e), plain_by s (and_right (leb 0x20 x) (is_plain s) e))

words_plain : (w : String) → is_plain (ascii w) ≡ true → Printed (ascii w)
words_plain w e = plain_by (ascii w) e

pub digits_plain : (k n : ℕ) → Printed (decimal_in k n)
unfolding decimal_in
digits_plain zero n = tt
digits_plain (suc k) n =
    printed_append (pick (ltb n 10) [] (decimal_in k (n / 10))) ((nought + n % 10) ∷ [])
    (pick_case Printed (ltb n 10) [] (decimal_in k (n / 10)) (λ e. tt) (λ e. digits_plain k (n / 10)))
    (omega arith, tt)

counted_plain : (a b : String) (n : ℕ) → is_plain (ascii a) ≡ true → is_plain (ascii b) ≡ true → Printed (counted a n b)
counted_plain a b n e f = printed_append (ascii a) _ (words_plain a e) (printed_append (decimal n) (ascii b) (digits_plain 20 n) (words_plain b f))

line_plain : (n : ℕ) → Printed (line_text n)
line_plain n = counted_plain "line " ", " n refl refl

spot_plain : (s : Spot) → Printed (spot_text s)
spot_plain (Line line) = line_plain line
spot_plain (Text line column) = printed_append (line_text line) (counted "column " column ", ") (line_plain line) (counted_plain "column " ", " column refl refl)
spot_plain Quoted = tt

head_plain : (head : Head) → Printed (head_text head)
unfolding head_text
head_plain (Refused number spot place) =
    printed_append (counted "refused " number " at ") _ (counted_plain "refused " " at " number refl refl)
    (printed_append (spot_text spot) (counted "place " place ": ") (spot_plain spot) (counted_plain "place " ": " place refl refl))
head_plain Note = words_plain "j8: " refl

spot_fields_plain : (s : Spot) → Printed (spot_fields s)
spot_fields_plain (Line line) = counted_plain "\"line\":" ",\"column\":null," line refl refl
spot_fields_plain (Text line column) =
    printed_append (counted "\"line\":" line ",") (counted "\"column\":" column ",") (counted_plain "\"line\":" "," line refl refl)
    (counted_plain "\"column\":" "," column refl refl)
spot_fields_plain Quoted = words_plain "\"line\":null,\"column\":null," refl

fields_plain : (head : Head) → Printed (fields_text head)
unfolding fields_text
fields_plain (Refused number spot place) =
    printed_append (counted "{\"number\":" number ",") _ (counted_plain "{\"number\":" "," number refl refl)
    (printed_append (spot_fields spot) (counted "\"place\":" place ",") (spot_fields_plain spot) (counted_plain "\"place\":" "," place refl refl))
fields_plain Note = words_plain "{\"number\":null,\"line\":null,\"column\":null,\"place\":null," refl

pub as_printed : (s : List ℕ) → InOneLine s → Printed s
as_printed [] p = tt
as_printed (x ∷ s) p = (p.0, as_printed s p.1)

pub message_line : (head : Head) (s : List ℕ) → InOneLine s → OneLine (message_text head s)
unfolding message_text
message_line head s p = plain_then (head_text head) (s ++ (LF ∷ [])) (head_plain head) (plain_then s (LF ∷ []) (as_printed s p) refl)

pub object_line : (head : Head) (s : List ℕ) → OneLine (object_text head s)
unfolding object_text
object_line head s =
    plain_then (fields_text head) _ (fields_plain head)
    (plain_then (ascii "\"sentence\":") (write_string s ++ ascii "}\n") (words_plain "\"sentence\":" refl)
    (plain_then (write_string s) (ascii "}\n") (write_printed s) (plain_then (ascii "}") (LF ∷ []) (words_plain "}" refl) refl)))

pub refusal_line : (json : Bool) (head : Head) (n : ℕ) → OneLine (said_text json head (sentence n))
unfolding said_text
refusal_line json head n =
    pick_case OneLine json _ _ (λ e. object_line head (sentence n)) (λ e. message_line head (sentence n) (sentences_stay_in_line n))
