-- A literal character is a unit that denotes itself, and is written as it is.
-- Assumes nothing.
use Prim.Native.Nat.{ℕ, suc, ◌≤◌}
use mathlib.Core.Bool.{false}
use mathlib.Core.List.{List, [], ◌∷◌}
use mathlib.Core.Path.{◌≡◌}
use native.Mathlib.Omega.{arith}
use lib.Dec.{ltb, eqb}
use lib.ListN.{take}
use borrow.Author.Tests.{ltb-false, ne_eqb}
use Rattle.prelude.specs.Bytes.{backslash}
use Rattle.prelude.specs.Pick.{pick}
use Rattle.utf8.specs.Utf8.{char_len}
use Rattle.notation.specs.declared.styles.Style.{Style}
use Rattle.notation.specs.declared.styles.Form.{Form}
use Rattle.notation.specs.Styles.{quote, took, style_of}
use Rattle.escapes.specs.Escapes.{lookup}
use Rattle.notation.specs.Literals.{literal_len}
use Rattle.notation.proofs.LiteralLaws.{literal_is, literal_nil}
use Rattle.units.specs.Units.{unit_at}
use Rattle.units.specs.Written.{escaped, written}

pub literal_unit : (st : Style) (s : List ℕ) (n : ℕ) → literal_len st s ≡ suc n → unit_at st s ≡ took (suc n) (take (suc n) s)
unfolding unit_at pick
literal_unit st [] n e = absurd (omega (arith, literal_nil st))
literal_unit st (x ∷ r) n e = let l = literal_is st x r n e in simp (l.no_quote, l.no_slash, l.no_control, l.size)

-- as it is written
no_escape : (form : Form) (x : ℕ) → eqb x (quote (style_of form)) ≡ false → eqb x backslash ≡ false → ltb x 32 ≡ false → lookup x (escaped form) ≡ 0
unfolding lookup pick
no_escape form x q b c =
    let h : 32 ≤ x = ltb-false x 32 c in
    simp (q, b, ne_eqb x 8 (λ z. omega arith), ne_eqb x 12 (λ z. omega arith), ne_eqb x 10 (λ z. omega arith), ne_eqb x 13 (λ z. omega arith), ne_eqb x 9 (λ z. omega arith))

pub literal_written : (form : Form) (x : ℕ) (r : List ℕ) (n : ℕ) → literal_len (style_of form) (x ∷ r) ≡ suc n → written form (char_len (x ∷ r)) x r ≡ x ∷ take n r
unfolding written pick
literal_written form x r n e =
    let l = literal_is (style_of form) x r n e in
    simp (l.size, no_escape form x l.no_quote l.no_slash l.no_control, l.no_control)
