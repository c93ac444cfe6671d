-- One unit written is one unit read, whatever follows it: hex digits read back by a table of sixteen, letters by a table of pairs,
-- and a character as it is.
-- Assumes nothing.
use Prim.Native.Char.{code}
use Prim.Native.Nat.{ℕ, zero, suc, pred, ◌+◌, ◌*◌, ◌/◌, ◌%◌, ◌<◌}
use mathlib.Core.Bool.{true, false}
use mathlib.Core.List.{List, [], ◌∷◌, ◌++◌}
use mathlib.Core.Path.{◌≡◌, refl, ap}
use native.Mathlib.Omega.{arith}
use lib.Dec.{ltb, eqb, lit<}
use lib.ListN.{length, take}
use lib.Seq.{take_at, length-take-le}
use borrow.Author.Tests.{eqb-true, eqb-false, lt-ltb, lt-leb, ltb-true}
use Rattle.prelude.specs.Bytes.{backslash}
use Rattle.prelude.specs.Pick.{pick}
use Rattle.prelude.proofs.Cases.{split}
use Rattle.prelude.proofs.Tables.{at_below}
use Rattle.utf8.specs.Utf8.{char_len, encode, positive}
use Rattle.utf8.proofs.Characters.{char_length, char_take, ascii_len}
use Rattle.notation.specs.declared.styles.Form.{Form}
use Rattle.notation.specs.declared.styles.Form.TheVariants.{AsJson, AsBytes}
use Rattle.notation.specs.Styles.{quote, took, style_of}
use Rattle.escapes.specs.Hex.{hex_val, hex_digits, hex_from}
use Rattle.escapes.specs.Escapes.{lookup, code_unit, four_digits, raw_byte, escape}
use Rattle.units.specs.Units.{unit_at}
use Rattle.units.specs.Written.{hex_digit, by_number, escaped, written}
use Rattle.notation.proofs.LiteralLaws.{quote_ascii}

pub digit_back : (d : ℕ) → d < 16 → hex_val (hex_digit d) ≡ d
unfolding hex_digit hex_val pick
digit_back d h = eqb-true (hex_val (hex_digit d)) d (at_below (λ (k : ℕ). eqb (hex_val (hex_digit k)) k) 16 refl d h)

zero_digit_lem : hex_val (code "0") ≡ 0
unfolding hex_val pick
zero_digit_lem = refl

code_small : (x w : ℕ) → x < 128 → code_unit x w ≡ took 6 (x ∷ [])
unfolding code_unit encode pick
code_small x w h = simp (lt-leb 0xd800 x (omega arith), lt-ltb x 0x80 h)

-- the bytes that a form writes by their number
abbrev pub Numbered : Form → ℕ → Type 0
Numbered AsJson x = x < 128
Numbered AsBytes x = x < 256

module _ (x : ℕ) (h : x < 256) where
  high_digit : hex_val (hex_digit (x / 16)) ≡ x / 16
  high_digit = digit_back (x / 16) (omega arith)

  low_digit : hex_val (hex_digit (x % 16)) ≡ x % 16
  low_digit = digit_back (x % 16) (omega arith)

  high_less : ltb (x / 16) 16 ≡ true
  high_less = lt-ltb (x / 16) 16 (omega arith)

  low_less : ltb (x % 16) 16 ≡ true
  low_less = lt-ltb (x % 16) 16 (omega arith)

  two_digits : (0 + x / 16) * 16 + x % 16 ≡ x
  two_digits = omega arith

pub number_back : (form : Form) (x : ℕ) (t : List ℕ) → Numbered form x → unit_at (style_of form) (by_number form x ++ t) ≡ took (length (by_number form x)) (x ∷ [])
unfolding unit_at escape four_digits raw_byte hex_digits hex_from by_number pick
number_back AsJson x t n =
    let h : x < 256 = omega arith in
    simp (high_digit x h, low_digit x h, zero_digit_lem, high_less x h, low_less x h) (simp (two_digits x h) (code_small x _ n))
number_back AsBytes x t n = simp (high_digit x n, low_digit x n, high_less x n, low_less x n) (ap (λ (v : ℕ). took 4 (v ∷ [])) (two_digits x n))

-- what holds of each pair of a table holds of what is looked up in it
abbrev pub Each : (ℕ → ℕ → Type 0) → List (ℕ × ℕ) → Type 0
Each P [] = Unit
Each P (e ∷ t) = P e.0 e.1 × Each P t

pub lookup_each : (P : ℕ → ℕ → Type 0) (t : List (ℕ × ℕ)) → Each P t → (x : ℕ) → (lookup x t ≡ 0 → ⊥) → P x (lookup x t)
unfolding lookup pick
lookup_each P [] h x ne = absurd (ne refl)
lookup_each P (e ∷ t) h x ne =
    split (eqb x e.0)
    (λ q. rw (q, eqb-true x e.0 q) h.0)
    (λ q. rw q (lookup_each P t h.1 x (rw q at ne)))

pub letter_back : (form : Form) (t : List ℕ) (x : ℕ) → (lookup x (escaped form) ≡ 0 → ⊥) → unit_at (style_of form) (backslash ∷ lookup x (escaped form) ∷ t) ≡ took 2 (x ∷ [])
unfolding unit_at escape lookup pick
letter_back form t = lookup_each (λ k v. unit_at (style_of form) (backslash ∷ v ∷ t) ≡ took 2 (k ∷ [])) (escaped form) (each form)
  where
    each : (form : Form) → Each (λ k v. unit_at (style_of form) (backslash ∷ v ∷ t) ≡ took 2 (k ∷ [])) (escaped form)
    each AsJson = (refl, (refl, (refl, (refl, (refl, (refl, (refl, tt)))))))
    each AsBytes = (refl, (refl, (refl, (refl, (refl, (refl, (refl, tt)))))))

pub escaped_ascii : (form : Form) (x : ℕ) → (lookup x (escaped form) ≡ 0 → ⊥) → x < 128
escaped_ascii form = lookup_each (λ k v. k < 128) (escaped form) ((quote_ascii (style_of form)).1, (lit< tt, (lit< tt, (lit< tt, (lit< tt, (lit< tt, (lit< tt, tt)))))))

-- a byte without an escape is neither the quote nor a backslash
pub unescaped : (form : Form) (x : ℕ) → lookup x (escaped form) ≡ 0 → (eqb x (quote (style_of form)) ≡ false) × (eqb x backslash ≡ false)
unfolding lookup pick
unescaped form x e =
    split (eqb x (quote (style_of form))) (λ q. absurd (omega (arith, rw q at e, (quote_ascii (style_of form)).0)))
    (λ q. (q, split (eqb x backslash) (λ p. absurd (omega (arith, simp (q, p) at e))) (λ p. p)))

ascii_one : (x : ℕ) (r : List ℕ) (n : ℕ) → x < 128 → char_len (x ∷ r) ≡ suc n → n ≡ 0
ascii_one x r n h e = omega (arith, ascii_len x r h)

plain_back : (form : Form) (x : ℕ) (r t : List ℕ) (n : ℕ) → char_len (x ∷ r) ≡ suc n → lookup x (escaped form) ≡ 0 → ltb x 32 ≡ false
    → unit_at (style_of form) (x ∷ (take n r ++ t)) ≡ took (suc n) (x ∷ take n r)
unfolding unit_at pick
plain_back form x r t n c e l =
    let (q, b) = unescaped form x e in
    let h : length (take n r) ≡ n = length-take-le n r (char_length x r n c) in
    simp (q, b, l, char_take x r t n c, take_at (take n r) t n h)

-- the forms that write the character of n bytes, or a byte where n is 0
abbrev pub Writes : Form → ℕ → Type 0
Writes AsJson n = positive n ≡ true
Writes AsBytes n = Unit

numbered : (form : Form) (x n : ℕ) → Writes form n → x < 256 → (positive n ≡ true → x < 128) → Numbered form x
numbered AsJson x n w h a = a w
numbered AsBytes x n w h a = h

pub unit_back : (form : Form) (x : ℕ) (r t : List ℕ) (n : ℕ) → Writes form n → x < 256 → char_len (x ∷ r) ≡ n
    → unit_at (style_of form) (written form n x r ++ t) ≡ took (length (written form n x r)) (x ∷ take (pred n) r)
unfolding written pick
unit_back form x r t zero w h c = number_back form x t (numbered form x zero w h (λ e. let z : ◌≡◌ {A = ℕ} 0 1 = cc in omega arith))
unit_back form x r t (suc n) w h c =
    split (eqb (lookup x (escaped form)) 0)
    (λ e. split (ltb x 32)
    (λ l. let a : x < 128 = omega (arith, ltb-true x 32 l) in
    simp (e, l, ascii_one x r n a c) (number_back form x t (numbered form x (suc n) w h (λ q. a))))
    (λ l. let d : length (take n r) ≡ n = length-take-le n r (char_length x r n c) in
    simp (e, l, d) (plain_back form x r t n c (eqb-true _ 0 e) l)))
    (λ e. let ne : lookup x (escaped form) ≡ 0 → ⊥ = eqb-false _ 0 e in
    simp (e, ascii_one x r n (escaped_ascii form x ne) c) (letter_back form t x ne))
