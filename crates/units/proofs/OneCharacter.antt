-- Each unit of `u''` denotes one character: a literal one is one, an escape the pattern of a scalar value or an ASCII byte.
-- Assumes nothing.
use Prim.Native.Nat.{ℕ, zero, suc, ◌<◌, suc-le-suc}
use Prim.Native.Char.{code}
use mathlib.Core.List.{List, [], ◌∷◌, append-nil}
use mathlib.Core.Path.{◌≡◌, refl}
use native.Mathlib.Omega.{arith}
use lib.Dec.{ltb, eqb, lit<}
use lib.Seq.{length-take-le}
use borrow.Author.Tests.{ltb-false, le-leb}
use Rattle.prelude.specs.Bytes.{single_quote, backslash}
use Rattle.prelude.proofs.Picks.{pick_case}
use Rattle.utf8.specs.Utf8.{between, char_len, char_by}
use Rattle.utf8.proofs.Characters.{char_length, char_take, ascii_len}
use Rattle.utf8.proofs.Faults.{fault_told}
use Rattle.utf8.proofs.Encoded.{OneChar, encode_char}
use Rattle.notation.specs.declared.styles.Style.TheVariants.{Unicode}
use Rattle.notation.specs.Styles.{StringUnit, close, took, fault}
use Rattle.escapes.specs.Escapes.{lookup, letters_of, scalar, is_braced, braced, raw_byte, letter_escape, escape}
use Rattle.units.specs.Units.{literal, unit_at}
use Rattle.units.proofs.WrittenBack.{lookup_each}

abbrev pub Whole : StringUnit → Type 0
Whole close = Unit
Whole (took n bs) = OneChar bs
Whole (fault refusal) = Unit

scalar_whole : (n v : ℕ) → Whole (scalar n v)
unfolding scalar
scalar_whole n v =
    pick_case Whole (between 0xd800 0xdfff v) _ _ (λ e. tt)
    (λ e. pick_case Whole (ltb 0x10ffff v) _ _ (λ d. tt)
    (λ d. encode_char v (
      suc-le-suc (ltb-false 0x10ffff v d),
      λ h g. let z : ◌≡◌ {A = ℕ} 0 1 = cc (le-leb 0xd800 v h, le-leb v 0xdfff g) in omega arith,
    )))

braced_whole : (r : List ℕ) → Whole (braced r)
unfolding braced
braced_whole [] = tt
braced_whole (c ∷ r) = pick_case Whole (is_braced c r) _ _ (λ e. scalar_whole _ _) (λ e. tt)

letter_whole : (b : ℕ) → ((b ≡ 0 → ⊥) → b < 0x80) → Whole (letter_escape b)
letter_whole zero h = tt
letter_whole (suc b) h = ascii_len (suc b) [] (h (λ z. omega arith))

letters_ascii : (c : ℕ) → (lookup c (letters_of Unicode) ≡ 0 → ⊥) → lookup c (letters_of Unicode) < 0x80
letters_ascii =
    lookup_each (λ k v. v < 0x80) (letters_of Unicode)
    (lit< tt, (lit< tt, (lit< tt, (lit< tt, (lit< tt, (lit< tt, (lit< tt, (lit< tt, (lit< tt, tt)))))))))

escape_whole : (r : List ℕ) → Whole (escape Unicode r)
unfolding escape raw_byte
escape_whole [] = tt
escape_whole (c ∷ r) =
    pick_case Whole (eqb c (code "u")) _ _ (λ e. braced_whole r)
    (λ e. pick_case Whole (eqb c (code "y")) _ _ (λ d. tt) (λ d. letter_whole (lookup c (letters_of Unicode)) (letters_ascii c)))

literal_whole : (x : ℕ) (r : List ℕ) (n : ℕ) → char_len (x ∷ r) ≡ n → Whole (literal (char_by n (x ∷ r)) (x ∷ r))
literal_whole x r zero e = let (refusal, (is, within)) = fault_told (x ∷ r) e in rw is tt
literal_whole x r (suc n) e = rw (length-take-le n r (char_length x r n e)) (rw append-nil at (char_take x r [] n e))

pub unit_whole : (s : List ℕ) → Whole (unit_at Unicode s)
unfolding unit_at
unit_whole [] = tt
unit_whole (x ∷ r) =
    pick_case Whole (eqb x single_quote) _ _ (λ e. tt)
    (λ e. pick_case Whole (eqb x backslash) _ _ (λ d. escape_whole r)
    (λ d. pick_case Whole (ltb x 32) _ _ (λ l. tt) (λ l. literal_whole x r (char_len (x ∷ r)) refl)))
