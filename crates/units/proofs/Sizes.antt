-- How long a unit is: each kind of escape is shown to fit into the text that it was read from and to denote fewer bytes than it
-- takes, and a literal character to fit and to denote itself.
-- Assumes nothing.
use Prim.Native.Nat.{ℕ, zero, suc, ◌+◌, ◌-◌, ◌*◌, ◌≤◌, ◌<◌, zero-le, suc-le-suc}
use Prim.Native.Char.{code}
use mathlib.Core.Bool.{true, false, ◌&&◌}
use mathlib.Core.List.{List, [], ◌∷◌}
use mathlib.Core.Logic.{inl, inr}
use mathlib.Core.Path.{◌≡◌, refl}
use native.Mathlib.Omega.{arith}
use lib.Dec.{ltb, eqb, lit<, lit≤}
use lib.ListN.{length, take, drop, get_or, length-drop}
use lib.Seq.{length-take-le}
use borrow.Author.Tests.{eqb-true, ltb-true, leb-true}
use Rattle.prelude.specs.declared.refusals.Refusal.{Refusal}
use Rattle.prelude.specs.Bytes.{backslash}
use Rattle.prelude.specs.Pick.{pick}
use Rattle.prelude.specs.Refusals.{control, byte_escape, FromTo, UnitFault}
use Rattle.prelude.proofs.Cases.{split, and_left, and_right}
use Rattle.prelude.proofs.Picks.{pick_case}
use Rattle.prelude.proofs.Rest.{get_or_inside}
use Rattle.utf8.specs.Utf8.{between, char_len, char_by}
use Rattle.utf8.proofs.Characters.{char_le}
use Rattle.utf8.proofs.Encoded.{encode_few}
use Rattle.utf8.proofs.Faults.{fault_told}
use Rattle.notation.specs.declared.styles.Style.{Style}
use Rattle.notation.specs.declared.styles.Style.TheVariants.{Json, Unicode, Bytes}
use Rattle.notation.specs.Styles.{quote, StringUnit, close, took, fault}
use Rattle.escapes.specs.Hex.{hex_val, hex_digits, hex_run}
use Rattle.escapes.specs.Escapes.{lookup, letters_of, high, is_low, low_half, code_unit, four_digits, scalar, is_braced, braced, code_point, raw_byte, letter_escape, escape}
use Rattle.units.specs.Units.{literal, unit_at}

-- an escape with m bytes from its backslash on: it fits, and denotes fewer bytes than it takes; or a refusal of an escape
abbrev pub Sized : ℕ → StringUnit → Type 0
Sized m close = ⊥
Sized m (took n bs) = (length bs < n) × (n ≤ m)
Sized m (fault refusal) = FromTo control byte_escape refusal

pub run_le : (k : ℕ) (r : List ℕ) → hex_run k r ≤ length r
unfolding hex_digits pick
run_le zero r = zero-le
run_le (suc k) [] = zero-le
run_le (suc k) (c ∷ r) = split (ltb (hex_val c) 16) (λ e. rw e (suc-le-suc (run_le k r))) (λ e. rw e zero-le)

low_length : (r : List ℕ) → 0 < low_half r → 6 ≤ length r
unfolding low_half pick
low_length r h =
    split (is_low r)
    (λ e. let n : hex_run 4 (drop 2 r) ≡ 4 = eqb-true _ 4 (and_right (eqb (get_or r 0 0) backslash && eqb (get_or r 1 0) (code "u")) _ (and_left _ _ e)) in
    omega (arith, run_le 4 (drop 2 r), length-drop 2 r))
    (λ e. omega (arith, rw e at h))

code_sized : (v w m : ℕ) → 6 ≤ m → (0 < w → 12 ≤ m) → Sized m (code_unit v w)
unfolding code_unit
code_sized v w m h g =
    pick_case (Sized m) (high v && ltb 0 w) _ _
    (λ e. (omega (arith, encode_few (0x10000 + (v - 0xd800) * 0x400 + (w - 0xdc00))), g (ltb-true 0 w (and_right (high v) _ e))))
    (λ e. (omega (arith, encode_few v), h))

four_sized : (r : List ℕ) → Sized (suc (suc (length r))) (four_digits r)
unfolding four_digits
four_sized r =
    pick_case (Sized (suc (suc (length r)))) (eqb (hex_run 4 r) 4) _ _
    (λ e. let n : hex_run 4 r ≡ 4 = eqb-true _ 4 e in
    code_sized _ _ _ (omega (arith, run_le 4 r)) (λ h. omega (arith, low_length (drop 4 r) h, length-drop 4 r)))
    (λ e. (lit≤ tt, lit≤ tt))

scalar_sized : (n v m : ℕ) → 4 < n → n ≤ m → Sized m (scalar n v)
unfolding scalar
scalar_sized n v m h g =
    pick_case (Sized m) (between 0xd800 0xdfff v) _ _ (λ e. (lit≤ tt, lit≤ tt))
    (λ e. pick_case (Sized m) (ltb 0x10ffff v) _ _ (λ d. (lit≤ tt, lit≤ tt)) (λ d. (omega (arith, encode_few v), g)))

braced_sized : (r : List ℕ) → Sized (suc (suc (length r))) (braced r)
unfolding braced
braced_sized [] = (lit≤ tt, lit≤ tt)
braced_sized (c ∷ r) =
    pick_case (Sized (suc (suc (suc (length r))))) (is_braced c r) _ _
    (λ e. let b : between 1 6 (hex_run 7 r) ≡ true = and_right (eqb c (code "{")) _ (and_left _ (eqb (get_or r (hex_run 7 r) 0) (code "}")) e) in
    let l : 1 ≤ hex_run 7 r = leb-true 1 _ (and_left _ _ b) in
    let q : get_or r (hex_run 7 r) 0 ≡ code "}" = eqb-true _ (code "}") (and_right (eqb c (code "{") && between 1 6 (hex_run 7 r)) _ e) in
    let i : hex_run 7 r < length r = get_or_inside r (hex_run 7 r) (λ z. omega arith) in
    scalar_sized _ _ _ (omega arith) (omega arith))
    (λ e. (lit≤ tt, lit≤ tt))

point_sized : (st : Style) (r : List ℕ) → Sized (suc (suc (length r))) (code_point st r)
point_sized Json r = four_sized r
point_sized Unicode r = braced_sized r
point_sized Bytes r = braced_sized r

raw_sized : (st : Style) (r : List ℕ) → Sized (suc (suc (length r))) (raw_byte st r)
unfolding raw_byte
raw_sized Json r = (lit≤ tt, lit≤ tt)
raw_sized Unicode r = (lit≤ tt, lit≤ tt)
raw_sized Bytes r =
    pick_case (Sized (suc (suc (length r)))) (eqb (hex_run 2 r) 2) _ _
    (λ e. let n : hex_run 2 r ≡ 2 = eqb-true _ 2 e in (lit< tt, omega (arith, run_le 2 r)))
    (λ e. (lit≤ tt, lit≤ tt))

letter_sized : (m b : ℕ) → Sized (suc (suc m)) (letter_escape b)
letter_sized m zero = (lit≤ tt, lit≤ tt)
letter_sized m (suc b) = (lit< tt, omega arith)

pub escape_sized : (st : Style) (r : List ℕ) → Sized (suc (length r)) (escape st r)
unfolding escape
escape_sized st [] = (lit≤ tt, lit≤ tt)
escape_sized st (c ∷ r) =
    pick_case (Sized (suc (suc (length r)))) (eqb c (code "u")) _ _ (λ e. point_sized st r)
    (λ e. pick_case (Sized (suc (suc (length r)))) (eqb c (code "y")) _ _ (λ d. raw_sized st r) (λ d. letter_sized (length r) (lookup c (letters_of st))))

-- what stands first in s, where no closing quote does: a unit that fits and denotes itself or fewer bytes; or a unit's refusal
abbrev pub Fits : List ℕ → StringUnit → Type 0
Fits s close = ⊥
Fits s (took n bs) = ((0 < n) × (n ≤ length s)) × ((length bs ≤ n) × (length bs ≡ n → bs ≡ take n s))
Fits s (fault refusal) = UnitFault refusal

escape_fits : (s : List ℕ) (u : StringUnit) → Sized (length s) u → Fits s u
escape_fits s close h = h
escape_fits s (took n bs) h = ((omega (arith, h.0), h.1), (omega (arith, h.0), λ e. absurd (omega (arith, h.0))))
escape_fits s (fault refusal) h = inl h

literal_fits : (n : ℕ) (s : List ℕ) → char_len s ≡ n → n ≤ length s → Fits s (literal (char_by n s) s)
literal_fits zero s e h = let (bad, (is, within)) = fault_told s e in rw is (inr within)
literal_fits (suc n) s e h = ((omega arith, h), (omega (arith, length-take-le (suc n) s h), λ e. refl))

pub unit_fits : (st : Style) (x : ℕ) (r : List ℕ) → eqb x (quote st) ≡ false → Fits (x ∷ r) (unit_at st (x ∷ r))
unfolding unit_at pick
unit_fits st x r e =
    rw e
    (pick_case (Fits (x ∷ r)) (eqb x backslash) _ _ (λ d. escape_fits (x ∷ r) (escape st r) (escape_sized st r))
    (λ d. pick_case (Fits (x ∷ r)) (ltb x 32) _ _ (λ l. inl (lit≤ tt, lit≤ tt)) (λ l. literal_fits (char_len (x ∷ r)) (x ∷ r) refl (char_le (x ∷ r)))))

no_unit : (st : Style) (x : ℕ) (r : List ℕ) → eqb x (quote st) ≡ true → unit_at st (x ∷ r) ≡ close
unfolding unit_at pick
no_unit st x r e = rw e

took_fits : (st : Style) (s : List ℕ) (n : ℕ) (bs : List ℕ) → unit_at st s ≡ took n bs → Fits s (took n bs)
unfolding unit_at
took_fits st [] n bs e = let z : ◌≡◌ {A = ℕ} 0 1 = cc in absurd (omega arith)
took_fits st (x ∷ r) n bs e =
    split (eqb x (quote st))
    (λ q. let y : ◌≡◌ {A = ℕ} 0 1 = cc (no_unit st x r q) in absurd (omega arith))
    (λ q. rw e at (unit_fits st x r q))

-- a unit takes at least one byte, and no more than there are
pub took_size : (st : Style) (s : List ℕ) (n : ℕ) (bs : List ℕ) → unit_at st s ≡ took n bs → (0 < n) × (n ≤ length s)
took_size st s n bs e = (took_fits st s n bs e).0

-- a unit of n bytes denotes itself, or fewer bytes
pub took_raw : (st : Style) (s : List ℕ) (n : ℕ) (bs : List ℕ) → unit_at st s ≡ took n bs → (length bs ≤ n) × (length bs ≡ n → bs ≡ take n s)
took_raw st s n bs e = (took_fits st s n bs e).1

pub close_quote : (st : Style) (x : ℕ) (r : List ℕ) → unit_at st (x ∷ r) ≡ close → x ≡ quote st
close_quote st x r e = split (eqb x (quote st)) (λ q. eqb-true x (quote st) q) (λ q. absurd (rw e at (unit_fits st x r q)))

-- a unit's refusal is its own: only where a text ends is it cut off
pub unit_fault : (st : Style) (x : ℕ) (r : List ℕ) (refusal : Refusal) → unit_at st (x ∷ r) ≡ fault refusal → UnitFault refusal
unit_fault st x r refusal e =
    split (eqb x (quote st))
    (λ q. let y : ◌≡◌ {A = ℕ} 0 1 = cc (no_unit st x r q) in absurd (omega arith))
    (λ q. rw e at (unit_fits st x r q))
