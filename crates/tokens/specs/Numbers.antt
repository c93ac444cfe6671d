-- Numbers: "A number token starts with `-` or a digit and is the longest run of digits, `+ - . e E`; it must match RFC 8259 whole".
-- The grammar is that of RFC 8259, section 6, a line of it quoted at each definition; each is given the rest of the token and answers
-- the number's kind, "3 number with no `.`, `e`, `E`, 4 other number", or 0 where the rest doesn't match.
-- Assumes nothing.
use Rattle.std.specs.Prelude.{ℕ, zero, suc, ◌+◌, Bool, true, Option, Some, None, List, [], ◌∷◌, eqb, length}
use Rattle.prelude.specs.Pick.{pick}
use Rattle.tokens.specs.declared.numbers.Number.{Number}
use Rattle.tokens.specs.Words.{is_digit, run_of}

-- "decimal-point = %x2E", "minus = %x2D", "plus = %x2B", "zero = %x30"
abbrev pub decimal_point : ℕ
decimal_point = 0x2e

abbrev pub minus : ℕ
minus = 0x2d

abbrev pub plus : ℕ
plus = 0x2b

abbrev pub zero_digit : ℕ
zero_digit = 0x30

-- "e = %x65 / %x45"
unfoldable pub is_e : ℕ → Bool
is_e x = pick (eqb x 0x65) true (eqb x 0x45)

-- "minus / plus"
unfoldable pub is_sign : ℕ → Bool
is_sign x = pick (eqb x minus) true (eqb x plus)

-- "digits, `+ - . e E`"
unfoldable pub is_number : ℕ → Bool
is_number x = pick (is_digit x) true (pick (is_sign x) true (pick (eqb x decimal_point) true (is_e x)))

-- "exp = e [ minus / plus ] 1*DIGIT": behind a digit, behind the sign, behind the e
unfoldable pub in_exp : List ℕ → ℕ
in_exp [] = 4
in_exp (x ∷ r) = pick (is_digit x) (in_exp r) 0

unfoldable pub exp_digits : List ℕ → ℕ
exp_digits [] = 0
exp_digits (x ∷ r) = pick (is_digit x) (in_exp r) 0

unfoldable pub behind_e : List ℕ → ℕ
behind_e [] = 0
behind_e (x ∷ r) = pick (is_sign x) (exp_digits r) (exp_digits (x ∷ r))

-- "frac = decimal-point 1*DIGIT": behind the digits, behind a digit, behind the point
unfoldable pub behind_frac : List ℕ → ℕ
behind_frac [] = 4
behind_frac (x ∷ r) = pick (is_e x) (behind_e r) 0

unfoldable pub in_frac : List ℕ → ℕ
in_frac [] = 4
in_frac (x ∷ r) = pick (is_digit x) (in_frac r) (behind_frac (x ∷ r))

unfoldable pub behind_point : List ℕ → ℕ
behind_point [] = 0
behind_point (x ∷ r) = pick (is_digit x) (in_frac r) 0

-- "int = zero / ( digit1-9 *DIGIT )": behind it, behind one of its digits, before it
unfoldable pub behind_int : List ℕ → ℕ
behind_int [] = 3
behind_int (x ∷ r) = pick (eqb x decimal_point) (behind_point r) (pick (is_e x) (behind_e r) 0)

unfoldable pub in_int : List ℕ → ℕ
in_int [] = 3
in_int (x ∷ r) = pick (is_digit x) (in_int r) (behind_int (x ∷ r))

unfoldable pub int : List ℕ → ℕ
int [] = 0
int (x ∷ r) = pick (eqb x zero_digit) (behind_int r) (pick (is_digit x) (in_int r) 0)

-- "number = [ minus ] int [ frac ] [ exp ]"
unfoldable pub number_kind : List ℕ → ℕ
number_kind [] = 0
number_kind (x ∷ r) = pick (eqb x minus) (int r) (int (x ∷ r))

-- the number token that a text begins with
abbrev pub number_token : List ℕ → List ℕ
number_token s = run_of is_number s

-- the kind, if it is one
abbrev pub kind_told : ℕ → Option ℕ
kind_told zero = None
kind_told (suc k) = Some (suc k)

-- a number of this kind and length
abbrev pub found : ℕ → ℕ → Option Number
found kind len = Some (record { kind = kind; len = len })

-- a token of so many bytes, by the kind that the grammar answers
abbrev pub legal : ℕ → ℕ → Option Number
legal zero n = None
legal (suc k) n = found (suc k) n

-- nothing more of a number of this kind
abbrev pub ends : ℕ → List ℕ → ℕ
ends kind [] = kind
ends kind (x ∷ r) = 0

-- what a part of the grammar answers of the token's rest, behind n bytes
unfoldable pub number_from : (List ℕ → ℕ) → ℕ → List ℕ → Option Number
number_from part n s = legal (part (number_token s)) (n + length (number_token s))

-- the kind and the length of the number token that a text begins with, if it is legal
unfoldable pub number_at : List ℕ → Option Number
number_at s = number_from number_kind 0 s
