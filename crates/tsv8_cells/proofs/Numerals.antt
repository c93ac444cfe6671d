-- Texts that fit a type: digits, in a loop and as a number; and what fits a type but Str is all plain bytes.
-- Assumes nothing.
use Prim.Native.Nat.{ℕ, zero, suc, ◌+◌, ◌≤◌, ◌<◌}
use mathlib.Core.Bool.{Bool, true, false, ◌&&◌}
use mathlib.Core.List.{List, [], ◌∷◌}
use mathlib.Core.Path.{◌≡◌, refl, sym, subst, ◌∙◌}
use native.Mathlib.Numerals.{add-one}
use native.Mathlib.Omega.{arith}
use borrow.Author.Tests.{ne_eqb, eqb-true, ltb-true, ltb-false, leb-true, lt-leb}
use lib.Dec.{eqb, ltb, leb}
use lib.ListN.{length, get_or, drop, drop_of_length-le}
use lib.Seq.{drop-cons}
use Rattle.std.specs.Prelude.{Option, Some, None}
use Rattle.prelude.specs.Pick.{pick}
use Rattle.prelude.proofs.Cases.{split, and_left, and_right, never}
use Rattle.prelude.proofs.Picks.{and_no_second}
use Rattle.prelude.proofs.Tables.{at_below}
use Rattle.utf8.specs.Class.{class_of}
use Rattle.utf8.specs.Utf8.{positive}
use Rattle.eights.specs.inner.Words.{is_odd}
use Rattle.tokens.specs.Words.{is_digit, same_bytes, false_word, true_word}
use Rattle.tokens.specs.Numbers.{is_e, is_sign, is_number, behind_int, in_int, int, number_kind, kind_told}
use Rattle.tokens.proofs.NumberTexts.{All, number_legal}
use Rattle.tsv8_cells.specs.Types.{ColumnType, bools, ints, floats, strs, all_digits, is_float, is_int}
use Rattle.tsv8_cells.specs.inner.Typed.{bool_kind, typed_kind}
use Rattle.tsv8_cells.specs.inner.Texts.{AllPlain}

-- the loop
module _ (w : List ℕ) (i : ℕ) (same : all_digits w ≡ all_digits (drop i w)) where
  module _ (h : i < length w) where
    here : all_digits (drop i w) ≡ is_digit (get_or w i 0) && all_digits (drop (i + 1) w)
    unfolding all_digits
    here = rw (drop-cons w i 0 h, add-one i)

    pub digit_more : is_digit (get_or w i 0) ≡ true → all_digits w ≡ all_digits (drop (i + 1) w)
    digit_more e = same ∙ here ∙ rw e

    pub digit_stop : is_digit (get_or w i 0) ≡ false → false ≡ all_digits w
    digit_stop e = sym (same ∙ here ∙ rw e)

  pub digit_end : length w ≤ i → true ≡ all_digits w
  unfolding all_digits
  digit_end h = sym (same ∙ rw (drop_of_length-le w h))

-- digits are no point and no e
digit_behind : (y : ℕ) (r : List ℕ) → is_digit y ≡ true → behind_int (y ∷ r) ≡ 0
unfolding behind_int is_e pick
digit_behind y r e =
    let a = leb-true 0x30 y (and_left (leb 0x30 y) _ e) in
    let b = leb-true y 0x39 (and_right (leb 0x30 y) _ e) in
    rw (ne_eqb y 0x2e (λ z. omega (arith, a, z)), ne_eqb y 0x65 (λ z. omega (arith, b, z)), ne_eqb y 0x45 (λ z. omega (arith, b, z)))

in_digits : (r : List ℕ) → all_digits r ≡ true → in_int r ≡ 3
unfolding all_digits in_int pick
in_digits [] e = refl
in_digits (x ∷ r) e = rw (and_left (is_digit x) _ e) (in_digits r (and_right (is_digit x) _ e))

not_minus : (x : ℕ) → is_digit x ≡ true → eqb x 0x2d ≡ false
not_minus x e = let a = leb-true 0x30 x (and_left (leb 0x30 x) _ e) in ne_eqb x 0x2d (λ z. omega (arith, a, z))

zero_kind : (r : List ℕ) → number_kind (0x30 ∷ r) ≡ behind_int r
unfolding number_kind int pick
zero_kind r = refl

digit_kind : (x : ℕ) (r : List ℕ) → eqb x 0x30 ≡ false → is_digit x ≡ true → number_kind (x ∷ r) ≡ in_int r
unfolding number_kind int pick
digit_kind x r a b = rw (not_minus x b, a, b)

-- a number that begins with 0 has no other digit
zero_int : (r : List ℕ) → is_int (0x30 ∷ r) ≡ eqb (length (0x30 ∷ r)) 1
unfolding is_int is_float all_digits behind_int
zero_int [] = rw (zero_kind [])
zero_int (y ∷ r) =
    let d : eqb (suc (suc (length r))) 1 ≡ false = ne_eqb (suc (suc (length r))) 1 (λ z. omega arith) in
    split (is_digit y) (λ e. rw (zero_kind (y ∷ r), digit_behind y r e, d)) (λ e. rw (e, d) (and_no_second (is_float (0x30 ∷ y ∷ r)) false refl))

pub int_zero : (w : List ℕ) → 0 < length w → get_or w 0 0 ≡ 0x30 → eqb (length w) 1 ≡ is_int w
int_zero [] h e = absurd (omega arith)
int_zero (x ∷ r) h e = let z : x ≡ 0x30 = e in rw z (sym (zero_int r))

digits_first : (x : ℕ) (r : List ℕ) → all_digits (x ∷ r) ≡ true → is_digit x ≡ true
unfolding all_digits
digits_first x r e = and_left (is_digit x) _ e

digits_rest : (x : ℕ) (r : List ℕ) → all_digits (x ∷ r) ≡ true → all_digits r ≡ true
unfolding all_digits
digits_rest x r e = and_right (is_digit x) _ e

other_int : (x : ℕ) (r : List ℕ) → eqb x 0x30 ≡ false → is_int (x ∷ r) ≡ all_digits (x ∷ r)
unfolding is_int is_float
other_int x r a =
    split (all_digits (x ∷ r))
    (λ e. rw (digit_kind x r a (digits_first x r e), in_digits r (digits_rest x r e), e))
    (λ e. rw e (and_no_second (is_float (x ∷ r)) false refl))

pub int_other : (w : List ℕ) (b : Bool) → 0 < length w → (get_or w 0 0 ≡ 0x30 → ⊥) → b ≡ all_digits w → b ≡ is_int w
int_other [] b h e q = absurd (omega arith)
int_other (x ∷ r) b h e q = q ∙ sym (other_int x r (ne_eqb x 0x30 e))

-- bytes of numbers are plain
number_below : (x : ℕ) → is_number x ≡ true → x < 0x66
unfolding is_number is_sign is_e pick
number_below x e =
    split (ltb x 0x66) (λ b. ltb-true x 0x66 b)
    (λ b. let h : 0x66 ≤ x = ltb-false x 0x66 b in
    never (let z : true ≡ false = sym e ∙ rw (no_digit x h, ne_eqb x 0x2d (λ y. omega (arith, h, y)), ne_eqb x 0x2b (λ y. omega (arith, h, y)), ne_eqb x 0x2e (λ y. omega (arith, h, y)), ne_eqb x 0x65 (λ y. omega (arith, h, y)), ne_eqb x 0x45 (λ y. omega (arith, h, y))) in cc))
  where
    no_digit : (x : ℕ) → 0x66 ≤ x → is_digit x ≡ false
    no_digit x h = and_no_second (leb 0x30 x) (leb x 0x39) (lt-leb x 0x39 (omega (arith, h)))

plain_or_not : ℕ → Bool
plain_or_not x = pick (is_number x) (pick (is_odd x) false true) true

number_plain : (x : ℕ) → is_number x ≡ true → is_odd x ≡ false
unfolding plain_or_not is_number is_sign is_e is_odd class_of pick
number_plain x e =
    split (is_odd x)
    (λ o. never (let z : false ≡ true = sym (rw (e, o)) ∙ at_below plain_or_not 0x66 refl x (number_below x e) in cc))
    (λ o. o)

all_plain : (w : List ℕ) → All is_number w → AllPlain w
all_plain [] a j h = absurd (omega arith)
all_plain (x ∷ r) a zero h = number_plain x a.0
all_plain (x ∷ r) a (suc j) h = all_plain r a.1 j (omega arith)

-- two texts compared
pub same_is : (a b : List ℕ) → same_bytes a b ≡ true → a ≡ b
unfolding same_bytes
same_is [] [] e = refl
same_is [] (y ∷ t) e = never cc
same_is (x ∷ s) [] e = never cc
same_is (x ∷ s) (y ∷ t) e =
    let a : x ≡ y = eqb-true x y (and_left (eqb x y) _ e) in
    let b : s ≡ t = same_is s t (and_right (eqb x y) _ e) in
    λ i. a i ∷ b i

every_plain : List ℕ → Bool
every_plain [] = true
every_plain (x ∷ r) = pick (is_odd x) false (every_plain r)

every_is : (w : List ℕ) → every_plain w ≡ true → AllPlain w
unfolding every_plain pick
every_is [] e j h = absurd (omega arith)
every_is (x ∷ r) e zero h = split (is_odd x) (λ o. never (let z : false ≡ true = rw o at e in cc)) (λ o. o)
every_is (x ∷ r) e (suc j) h =
    split (is_odd x) (λ o. never (let z : false ≡ true = rw o at e in cc)) (λ o. every_is r (rw o at e) j (omega arith))

word_plain : (w v : List ℕ) → every_plain v ≡ true → same_bytes w v ≡ true → AllPlain w
word_plain w v p e = subst AllPlain (sym (same_is w v e)) (every_is v p)

bool_plain : (w : List ℕ) (k : ℕ) → Some k ≡ bool_kind w → AllPlain w
unfolding bool_kind every_plain is_odd class_of pick
bool_plain w k h =
    split (same_bytes w false_word) (λ e. word_plain w false_word refl e)
    (λ e. split (same_bytes w true_word) (λ d. word_plain w true_word refl d) (λ d. never (let z : Some k ≡ None = rw (e, d) at h in cc)))

pub float_kind : (w : List ℕ) → is_float w ≡ true → number_kind w ≡ 0 → ⊥
unfolding is_float
float_kind w e z = never (let y : false ≡ true = rw z at e in cc)

pub float_plain : (w : List ℕ) → is_float w ≡ true → AllPlain w
float_plain w e = all_plain w (number_legal w (float_kind w e)).0

pub int_float : (w : List ℕ) → is_int w ≡ true → is_float w ≡ true
unfolding is_int
int_float w e = and_left (is_float w) _ e

-- what fits a type but Str is plain
pub fit_plain : (t : ColumnType) (w : List ℕ) (k : ℕ) → Some k ≡ typed_kind t w → AllPlain w
unfolding pick
fit_plain bools w k h = bool_plain w k h
fit_plain ints w k h = split (is_int w) (λ e. float_plain w (int_float w e)) (λ e. never (let z : Some k ≡ None = rw e at h in cc))
fit_plain floats w k h = split (is_float w) (λ e. float_plain w e) (λ e. never (let z : Some k ≡ None = rw e at h in cc))
fit_plain strs w k h = never cc

-- a text in a column
module _ (w : List ℕ) (b : Bool) (e : b ≡ is_int w) where
  pub kind_int : b ≡ true → Some 3 ≡ typed_kind ints w
  unfolding pick
  kind_int t = rw (sym e, t)

  pub kind_no_int : b ≡ false → None ≡ typed_kind ints w
  unfolding pick
  kind_no_int f = rw (sym e, f)

kind_float_lem : (j k : ℕ) → Some k ≡ kind_told j → ◌≡◌ {A = Option ℕ} (Some 4) (pick (positive j) (Some 4) None)
unfolding pick
kind_float_lem zero k e = never (let z : Some k ≡ None = e in cc)
kind_float_lem (suc j) k e = refl

no_float_lem : (j : ℕ) → None ≡ kind_told j → ◌≡◌ {A = Option ℕ} None (pick (positive j) (Some 4) None)
unfolding pick
no_float_lem zero e = refl
no_float_lem (suc j) e = never (let z : None ≡ Some (suc j) = e in cc)

pub kind_float : (w : List ℕ) (k : ℕ) → Some k ≡ kind_told (number_kind w) → Some 4 ≡ typed_kind floats w
unfolding is_float
kind_float w k e = kind_float_lem (number_kind w) k e

pub kind_no_float : (w : List ℕ) → None ≡ kind_told (number_kind w) → None ≡ typed_kind floats w
unfolding is_float
kind_no_float w e = no_float_lem (number_kind w) e

-- a Bool, by the words that it was compared with
module _ (w : List ℕ) (a : Bool) (ea : a ≡ same_bytes w false_word) where
  pub bool_no : a ≡ true → Some 1 ≡ bool_kind w
  unfolding bool_kind pick
  bool_no t = rw (sym ea, t)

  module _ (fa : a ≡ false) (b : Bool) (eb : b ≡ same_bytes w true_word) where
    pub bool_yes : b ≡ true → Some 2 ≡ bool_kind w
    unfolding bool_kind pick
    bool_yes t = rw (sym ea, fa, sym eb, t)

    pub bool_none : b ≡ false → None ≡ bool_kind w
    unfolding bool_kind pick
    bool_none f = rw (sym ea, fa, sym eb, f)
