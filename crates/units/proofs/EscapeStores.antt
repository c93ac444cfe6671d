-- The escapes that the writer stores, form by form: the array that the code copies is the definition's list.
-- Assumes nothing.
use mathlib.Core.Path.{◌≡◌, refl, sym}
use mathlib.Core.Bool.{false}
use mathlib.Core.List.{List, [], ◌∷◌}
use Prim.Native.Nat.{ℕ, zero, suc, pred, ◌+◌, ◌-◌, ◌/◌, ◌%◌, ◌≤◌, ◌<◌}
use Prim.Native.Char.{code}
use native.Mathlib.Numerals.{add-one}
use native.Mathlib.Omega.{arith}
use borrow.Author.Tests.{eq-eqb, ne_eqb, eqb-true, eqb-false, ltb-true}
use lib.Dec.{ltb, eqb}
use lib.ListN.{length, set, length-set}
use lib.Seq.{sets, set_out}
use Rattle.prelude.specs.Bytes.{backslash}
use Rattle.prelude.specs.Pick.{pick}
use Rattle.prelude.proofs.Cases.{split}
use Rattle.prelude.proofs.Stores.{sets_out}
use Rattle.utf8.specs.Utf8.{char_len}
use Rattle.utf8.proofs.Characters.{ascii_len}
use Rattle.notation.specs.declared.styles.Form.{Form}
use Rattle.notation.specs.declared.styles.Form.TheVariants.{AsJson, AsBytes}
use Rattle.escapes.specs.Escapes.{lookup}
use Rattle.units.specs.Written.{hex_digit, by_number, escaped, escape_byte, written}
use Rattle.notation.specs.Styles.{style_of}
use Rattle.notation.specs.Literals.{literal_len}
use Rattle.units.proofs.WrittenBack.{escaped_ascii, unescaped}

module _ (form : Form) (x : ℕ) where
  module _ (h l : ℕ) (eh : h ≡ hex_digit (x / 16)) (el : l ≡ hex_digit (x % 16)) where
    pub json_number : form ≡ AsJson → backslash ∷ code "u" ∷ code "0" ∷ code "0" ∷ h ∷ l ∷ [] ≡ by_number form x
    unfolding by_number
    json_number e = rw (e, eh, el)

    pub bytes_number : form ≡ AsBytes → backslash ∷ code "y" ∷ h ∷ l ∷ [] ≡ by_number form x
    unfolding by_number
    bytes_number e = rw (e, eh, el)

  pub json_length : form ≡ AsJson → 6 ≡ length (by_number form x)
  unfolding by_number
  json_length e = rw e

  pub bytes_length : form ≡ AsBytes → 4 ≡ length (by_number form x)
  unfolding by_number
  bytes_length e = rw e

  module _ (k : ℕ) (ek : k ≡ lookup x (escaped form)) where
    pub by_letter : (k ≡ 0 → ⊥) → backslash ∷ k ∷ [] ≡ escape_byte form x
    unfolding escape_byte pick
    by_letter h = rw (← ek, ne_eqb k 0 h)

    pub as_number : k ≡ 0 → by_number form x ≡ escape_byte form x
    unfolding escape_byte pick
    as_number h = rw (← ek, eq-eqb k 0 h)

-- two bytes stored where there is room for none, one or both
module _ (a b o : ℕ) (l : List ℕ) where
  pub two_out : length l ≤ o → l ≡ sets l o (a ∷ b ∷ [])
  two_out h = sym (sets_out (a ∷ b ∷ []) l o h)

  pub two_first : length l - o ≡ 1 → set l o a ≡ sets l o (a ∷ b ∷ [])
  two_first h = sym (set_out (set l o a) (suc o) b (omega (arith, length-set l o a)))

  pub two_both : set (set l o a) (o + 1) b ≡ sets l o (a ∷ b ∷ [])
  two_both = rw (add-one o)

-- a character without an escape is literal
no_escape : (form : Form) (x : ℕ) (r : List ℕ) (n : ℕ) → literal_len (style_of form) (x ∷ r) ≡ 0 → char_len (x ∷ r) ≡ suc n → lookup x (escaped form) ≡ 0
    → ltb x 32 ≡ false → suc n ≡ 0
unfolding literal_len pick
no_escape form x r n e c q l = let (a, b) = unescaped form x q in simp (a, b, l, c) at e

-- where no literal character stands, one byte is written, and by its escape
pub escape_written : (form : Form) (x : ℕ) (r : List ℕ) → literal_len (style_of form) (x ∷ r) ≡ 0
    → (written form (char_len (x ∷ r)) x r ≡ escape_byte form x) × (pred (char_len (x ∷ r)) ≡ 0)
unfolding written escape_byte pick
escape_written form x r e = go (char_len (x ∷ r)) refl
  where
    go : (n : ℕ) → char_len (x ∷ r) ≡ n → (written form n x r ≡ escape_byte form x) × (pred n ≡ 0)
    go zero c =
        split (eqb (lookup x (escaped form)) 0) (λ q. (rw q refl, refl))
        (λ q. absurd (omega (arith, c, ascii_len x r (escaped_ascii form x (eqb-false _ 0 q)))))
    go (suc n) c =
        split (eqb (lookup x (escaped form)) 0)
        (λ q. split (ltb x 32)
        (λ l. (simp (q, l), omega (arith, c, ascii_len x r (let h : x < 32 = ltb-true x 32 l in omega arith))))
        (λ l. absurd (omega (arith, no_escape form x r n e c (eqb-true _ 0 q) l))))
        (λ q. (simp q, omega (arith, c, ascii_len x r (escaped_ascii form x (eqb-false _ 0 q)))))
