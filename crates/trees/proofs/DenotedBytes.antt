-- What a string denotes are bytes, where its text is bytes: an escape by the size of its number, a literal character as it stands, and so
-- unit by unit.
-- Assumes nothing.
use Prim.Native.Nat.{ℕ, zero, suc, pred, ◌+◌, ◌-◌, ◌*◌, ◌≤◌, ◌<◌}
use mathlib.Core.Bool.{◌&&◌}
use mathlib.Core.List.{List, [], ◌∷◌, ◌++◌}
use mathlib.Core.Path.{◌≡◌}
use native.Mathlib.Omega.{arith}
use lib.Dec.{ltb, leb, eqb, lit<}
use lib.ListN.{get_or, drop}
use borrow.Author.Tests.{ltb-true, ltb-false, leb-true}
use Rattle.std.specs.Prelude.{Option, Some, None}
use Rattle.prelude.specs.declared.refusals.Refusal.{Refusal}
use Rattle.prelude.proofs.Cases.{and_left, and_right}
use Rattle.prelude.proofs.Picks.{pick_case}
use Rattle.prelude.proofs.Suffix.{by_suffix}
use Rattle.utf8.specs.Utf8.{between, char_len, char_by, encode, char_fault, refused_by}
use Rattle.notation.specs.declared.styles.Style.{Style}
use Rattle.notation.specs.declared.styles.Style.TheVariants.{Json, Unicode, Bytes}
use Rattle.notation.specs.Styles.{quote, StringUnit, close, took, fault}
use Rattle.escapes.specs.Hex.{hex_val, hex_digits, hex_from, hex_run, hex_number}
use Rattle.escapes.specs.Escapes.{lookup, letters, letters_of, high, is_low, low_half, code_unit, four_digits, scalar, is_braced, braced, code_point, raw_byte, letter_escape, escape}
use Rattle.units.specs.Units.{literal, unit_at}
use Rattle.units.proofs.WrittenBack.{Each, lookup_each}
use Rattle.prelude.specs.Bytes.{IsBytes}
use Rattle.notation.specs.Marks.{Opening, opens, unopened, opening}
use Rattle.strings.specs.Read.{StringRead, accepted, refused, more, after, read_units, read_from, read_token}
use Rattle.strings.proofs.Steps.{read_skip}
use Rattle.string_claims.proofs.RoundTrip.{bytes_take, bytes_drop}

pub bytes_none : IsBytes []
bytes_none i = lit< tt

bytes_more : (x : ℕ) (s : List ℕ) → x < 256 → IsBytes s → IsBytes (x ∷ s)
bytes_more x s h b zero = h
bytes_more x s h b (suc i) = b i

pub bytes_append : (s t : List ℕ) → IsBytes s → IsBytes t → IsBytes (s ++ t)
bytes_append [] t a b = b
bytes_append (x ∷ s) t a b = bytes_more x (s ++ t) (a 0) (bytes_append s t (λ i. a (suc i)) b)

-- numbers: k digits behind a number below b
abbrev digits_below : ℕ → ℕ → ℕ
digits_below zero b = b
digits_below (suc k) b = digits_below k (b * 16)

below_grows : (k b : ℕ) → b ≤ digits_below k b
below_grows zero b = omega arith
below_grows (suc k) b = omega (arith, below_grows k (b * 16))

hex_below : (k v b : ℕ) (r : List ℕ) → v < b → hex_from v (hex_digits k r) < digits_below k b
unfolding hex_digits hex_from
hex_below zero v b r h = h
hex_below (suc k) v b [] h = omega (arith, below_grows k (b * 16))
hex_below (suc k) v b (c ∷ r) h =
    pick_case (λ ds. hex_from v ds < digits_below k (b * 16)) (ltb (hex_val c) 16) (c ∷ hex_digits k r) []
    (λ e. hex_below k (v * 16 + hex_val c) (b * 16) r (omega (arith, ltb-true (hex_val c) 16 e)))
    (λ e. omega (arith, below_grows k (b * 16)))

-- a list of known bytes
abbrev Small : List ℕ → Type 0
Small [] = Unit
Small (x ∷ s) = (x < 256) × Small s

small_bytes : (s : List ℕ) → Small s → IsBytes s
small_bytes [] h = bytes_none
small_bytes (x ∷ s) h = bytes_more x s h.0 (small_bytes s h.1)

encode_bytes : (v : ℕ) → v < 0x110000 → IsBytes (encode v)
unfolding encode
encode_bytes v h =
    small_bytes (encode v)
    (pick_case Small (ltb v 0x80) _ _ (λ a. (omega (arith, ltb-true v 0x80 a), tt))
    (λ a. pick_case Small (ltb v 0x800) _ _ (λ b. (omega (arith, ltb-true v 0x800 b), (omega arith, tt)))
    (λ b. pick_case Small (ltb v 0x10000) _ _ (λ c. (omega (arith, ltb-true v 0x10000 c), (omega arith, (omega arith, tt))))
    (λ c. (omega arith, (omega arith, (omega arith, (omega arith, tt))))))))

-- units
abbrev UnitBytes : StringUnit → Type 0
UnitBytes close = Unit
UnitBytes (took n bs) = IsBytes bs
UnitBytes (fault number) = Unit

low_below : (r : List ℕ) → low_half r ≤ 0xdfff
unfolding low_half
low_below r =
    pick_case (λ v. v ≤ 0xdfff) (is_low r) _ _
    (λ e. leb-true _ 0xdfff (and_right (leb 0xdc00 (hex_number 4 (drop 2 r))) _ (and_right (eqb (get_or r 0 0) 92 && eqb (get_or r 1 0) 117 && eqb (hex_run 4 (drop 2 r)) 4) _ e)))
    (λ e. omega arith)

code_bytes : (v w : ℕ) → v < 0x10000 → w ≤ 0xdfff → UnitBytes (code_unit v w)
unfolding code_unit
code_bytes v w h g =
    pick_case UnitBytes (high v && ltb 0 w) _ _
    (λ e. encode_bytes (0x10000 + (v - 0xd800) * 0x400 + (w - 0xdc00)) (omega (arith, leb-true v 0xdbff (and_right (leb 0xd800 v) _ (and_left (high v) _ e)))))
    (λ e. encode_bytes v (omega arith))

scalar_bytes : (n v : ℕ) → UnitBytes (scalar n v)
unfolding scalar
scalar_bytes n v =
    pick_case UnitBytes (between 0xd800 0xdfff v) _ _ (λ e. tt)
    (λ e. pick_case UnitBytes (ltb 0x10ffff v) _ _ (λ d. tt) (λ d. encode_bytes v (omega (arith, ltb-false 0x10ffff v d))))

braced_bytes : (r : List ℕ) → UnitBytes (braced r)
unfolding braced
braced_bytes [] = tt
braced_bytes (c ∷ r) = pick_case UnitBytes (is_braced c r) _ _ (λ e. scalar_bytes _ _) (λ e. tt)

point_bytes : (st : Style) (r : List ℕ) → UnitBytes (code_point st r)
unfolding four_digits
point_bytes Json r = pick_case UnitBytes (eqb (hex_run 4 r) 4) _ _ (λ e. code_bytes (hex_number 4 r) _ (hex_below 4 0 1 r (omega arith)) (low_below (drop 4 r))) (λ e. tt)
point_bytes Unicode r = braced_bytes r
point_bytes Bytes r = braced_bytes r

raw_bytes : (st : Style) (r : List ℕ) → UnitBytes (raw_byte st r)
unfolding raw_byte
raw_bytes Json r = tt
raw_bytes Unicode r = tt
raw_bytes Bytes r = pick_case UnitBytes (eqb (hex_run 2 r) 2) _ _ (λ e. small_bytes (hex_number 2 r ∷ []) (hex_below 2 0 1 r (omega arith), tt)) (λ e. tt)

short_bytes : (b : ℕ) → ((b ≡ 0 → ⊥) → b < 256) → UnitBytes (letter_escape b)
short_bytes zero h = tt
short_bytes (suc b) h = small_bytes (suc b ∷ []) (h (λ z. omega arith), tt)

letters_each : Each (λ k v. v < 256) letters
letters_each = (lit< tt, (lit< tt, (lit< tt, (lit< tt, (lit< tt, (lit< tt, (lit< tt, (lit< tt, tt))))))))

letters_below : (st : Style) (c : ℕ) → (lookup c (letters_of st) ≡ 0 → ⊥) → lookup c (letters_of st) < 256
letters_below Json = lookup_each (λ k v. v < 256) (letters_of Json) letters_each
letters_below Unicode = lookup_each (λ k v. v < 256) (letters_of Unicode) (lit< tt, letters_each)
letters_below Bytes = lookup_each (λ k v. v < 256) (letters_of Bytes) (lit< tt, letters_each)

escape_bytes : (st : Style) (r : List ℕ) → UnitBytes (escape st r)
unfolding escape
escape_bytes st [] = tt
escape_bytes st (c ∷ r) =
    pick_case UnitBytes (eqb c 117) _ _ (λ e. point_bytes st r)
    (λ e. pick_case UnitBytes (eqb c 121) _ _ (λ d. raw_bytes st r) (λ d. short_bytes (lookup c (letters_of st)) (letters_below st c)))

literal_bytes : (n : ℕ) (s : List ℕ) → IsBytes s → UnitBytes (literal (char_by n s) s)
literal_bytes zero s b = by_fault (char_fault s)
  where
    by_fault : (f : Option Refusal) → UnitBytes (literal (refused_by f) s)
    by_fault (Some why) = tt
    by_fault None = bytes_take 0 s b
literal_bytes (suc n) s b = bytes_take (suc n) s b

unit_bytes_lem : (st : Style) (s : List ℕ) → IsBytes s → UnitBytes (unit_at st s)
unfolding unit_at
unit_bytes_lem st [] b = tt
unit_bytes_lem st (x ∷ r) b =
    pick_case UnitBytes (eqb x (quote st)) _ _ (λ e. tt)
    (λ e. pick_case UnitBytes (eqb x 92) _ _ (λ d. escape_bytes st r)
    (λ d. pick_case UnitBytes (ltb x 32) _ _ (λ l. tt) (λ l. literal_bytes (char_len (x ∷ r)) (x ∷ r) b)))

-- strings
abbrev Denotes : StringRead → Type 0
Denotes (accepted bs e) = IsBytes bs
Denotes (refused refusal at) = Unit

more_bytes : (bs : List ℕ) (r : StringRead) → IsBytes bs → Denotes r → Denotes (more bs r)
more_bytes bs (accepted cs e) a b = bytes_append bs cs a b
more_bytes bs (refused refusal at) a b = tt

one_bytes : (st : Style) (x : ℕ) (r : List ℕ) → ((k p : ℕ) → IsBytes (drop k r) → Denotes (read_units st p 0 (drop k r))) → (p : ℕ) → IsBytes (x ∷ r)
    → Denotes (read_units st p 0 (x ∷ r))
unfolding read_units
one_bytes st x r ih p b = go (unit_at st (x ∷ r)) (unit_bytes_lem st (x ∷ r) b)
  where
    go : (u : StringUnit) → UnitBytes u → Denotes (after p u (λ q k. read_units st q k r))
    go close h = bytes_none
    go (took n bs) h =
        rw (read_skip st (p + n) (pred n) r)
        (more_bytes bs (read_units st (p + n) 0 (drop (pred n) r)) h (ih (pred n) (p + n) (bytes_drop (pred n) r (λ i. b (suc i)))))
    go (fault number) h = tt

units_bytes_lem : (st : Style) (s : List ℕ) (p : ℕ) → IsBytes s → Denotes (read_units st p 0 s)
unfolding read_units
units_bytes_lem st = by_suffix (λ s. (p : ℕ) → IsBytes s → Denotes (read_units st p 0 s)) (λ p b. tt) (one_bytes st)

from_bytes : (o : Opening) (s : List ℕ) → IsBytes s → Denotes (read_from o s)
from_bytes (opens st n) s b = rw (read_skip st n n s) (units_bytes_lem st (drop n s) n (bytes_drop n s b))
from_bytes unopened s b = tt

pub token_bytes_lem : (s bs : List ℕ) (e : ℕ) → read_token s ≡ accepted bs e → IsBytes s → IsBytes bs
unfolding read_token
token_bytes_lem s bs e t b = rw t at (from_bytes (opening s) s b)
