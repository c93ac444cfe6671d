-- Units that denote one byte, by the few bytes that tell them: the tests on them decide each `pick` of the definition.
-- Assumes nothing.
use Rattle.std.specs.Prelude.{Option}
use Prim.Native.Nat.{ℕ, suc, ◌+◌, ◌<◌}
use Prim.Native.Char.{code}
use mathlib.Core.List.{List, [], ◌∷◌}
use mathlib.Core.Path.{◌≡◌, refl, sym, ap, ◌∙◌, subst}
use native.Mathlib.Omega.{arith}
use native.Mathlib.Numerals.{add-one}
use borrow.Author.Tests.{lt-ltb, eq-eqb, ne_eqb}
use lib.ListN.{length, get_or, drop}
use lib.Seq.{drop-cons}
use Rattle.prelude.specs.Bytes.{single_quote, backslash}
use Rattle.prelude.specs.Pick.{pick}
use Rattle.prelude.proofs.Picks.{pick_true, pick_false}
use Rattle.utf8.specs.Class.{class_of}
use Rattle.utf8.specs.Utf8.{encode}
use Rattle.notation.specs.declared.styles.Style.{Style}
use Rattle.notation.specs.declared.styles.Style.TheVariants.{Json, Unicode, Bytes}
use Rattle.notation.specs.Styles.{quote, took}
use Rattle.escapes.specs.Hex.{hex_run, hex_number}
use Rattle.escapes.specs.Escapes.{lookup, letters, letters_of, low_half, code_unit, four_digits, raw_byte, escape}
use Rattle.units.specs.declared.single_escapes.Single.{Single}
use Rattle.units.specs.Units.{unit_at, Denotes}
use Rattle.escapes.proofs.EscapeLaws.{unit_below, letter_some, raw_two}
use Rattle.notation.proofs.LiteralClasses.{plain_char}
use Rattle.units.proofs.LiteralUnits.{literal_unit}
use Rattle.units.proofs.UnitLaws.{unit_escape}

-- `\u` and four digits of a number below 0x80
encode_ascii : (v : ℕ) → v < 0x80 → encode v ≡ v ∷ []
unfolding encode
encode_ascii v h = pick_true _ _ _ (lt-ltb _ _ h)

ascii_unit : (v w : ℕ) → v < 0x80 → code_unit v w ≡ took 6 (v ∷ [])
ascii_unit v w h = unit_below v w (omega arith) ∙ ap (took 6) (encode_ascii v h)

pub four_ascii : (r : List ℕ) (n v : ℕ) → n ≡ hex_run 4 r → v ≡ hex_number 4 r → n ≡ 4 → v < 0x80 → four_digits r ≡ took 6 (v ∷ [])
unfolding four_digits
four_ascii r n v en ev h l = pick_true _ _ _ (eq-eqb _ _ (sym en ∙ h)) ∙ rw (← ev) (ascii_unit v (low_half (drop 4 r)) l)

pub two_raw : (r : List ℕ) (n v : ℕ) → n ≡ hex_run 2 r → v ≡ hex_number 2 r → n ≡ 2 → raw_byte Bytes r ≡ took 4 (v ∷ [])
two_raw r n v en ev h = sym (raw_two (took 4 (v ∷ [])) r n v en ev h refl)

-- behind a backslash and the byte a
module _ (st : Style) (a : ℕ) (r : List ℕ) where
  module _ (f : Option Single) where
    pub by_number_lem : st ≡ Json → a ≡ code "u" → Denotes f (four_digits r) → Denotes f (escape st (a ∷ r))
    unfolding escape pick
    by_number_lem e h l = rw (e, h) l

    pub by_byte_lem : st ≡ Bytes → a ≡ code "y" → Denotes f (raw_byte Bytes r) → Denotes f (escape st (a ∷ r))
    unfolding escape pick
    by_byte_lem e h l = rw (e, h) l

  pub unicode_quote : st ≡ Unicode → a ≡ single_quote → escape st (a ∷ r) ≡ took 2 (single_quote ∷ [])
  unfolding escape lookup pick
  unicode_quote e h = rw (e, h) refl

  pub bytes_quote : st ≡ Bytes → a ≡ single_quote → escape st (a ∷ r) ≡ took 2 (single_quote ∷ [])
  unfolding escape lookup pick
  bytes_quote e h = rw (e, h) refl

-- a letter of every style
no_letter : (k : ℕ) → lookup k letters ≡ 0 → (a b : ℕ) → b ≡ lookup a letters → (b ≡ 0 → ⊥) → a ≡ k → ⊥
no_letter k z a b e h q = h (e ∙ ap (λ (x : ℕ). lookup x letters) q ∙ z)

letter_of : (st : Style) (a b : ℕ) → b ≡ lookup a letters → (b ≡ 0 → ⊥) → b ≡ lookup a (letters_of st)
unfolding lookup pick
letter_of Json a b e h = e
letter_of Unicode a b e h = e ∙ sym (pick_false _ _ _ (ne_eqb a single_quote (no_letter single_quote refl a b e h)))
letter_of Bytes a b e h = e ∙ sym (pick_false _ _ _ (ne_eqb a single_quote (no_letter single_quote refl a b e h)))

letter_escape_lem : (st : Style) (a b : ℕ) (r : List ℕ) → b ≡ lookup a letters → (b ≡ 0 → ⊥) → escape st (a ∷ r) ≡ took 2 (b ∷ [])
unfolding escape lookup pick
letter_escape_lem st a b r e h =
    pick_false _ _ _ (ne_eqb a (code "u") (no_letter (code "u") refl a b e h)) ∙ pick_false _ _ _ (ne_eqb a (code "y") (no_letter (code "y") refl a b e h))
    ∙ rw (← letter_of st a b e h) (sym (letter_some (took 2 (b ∷ [])) b b refl (let z : 0 < b = omega arith in (z, refl))))

-- the same at a place of a text
module _ (st : Style) (s : List ℕ) (at : ℕ) (h : at < length s) where
  pub letter_at : (b : ℕ) → b ≡ lookup (get_or s at 0) letters → (b ≡ 0 → ⊥) → escape st (drop at s) ≡ took 2 (b ∷ [])
  letter_at b e z = rw (drop-cons s at 0 h) (letter_escape_lem st (get_or s at 0) b (drop (suc at) s) e z)

  pub special_at : (f : Option Single) → Denotes f (escape st (get_or s at 0 ∷ drop (at + 1) s)) → Denotes f (escape st (drop at s))
  special_at f l = subst (Denotes f) (ap (λ (m : ℕ). escape st (get_or s at 0 ∷ drop m s)) (add-one at) ∙ ap (escape st) (sym (drop-cons s at 0 h))) l

  -- a plain character, and the backslash
  pub plain_unit : (k : ℕ) → k ≡ class_of (get_or s at 0) → k ≡ 0 → unit_at st (drop at s) ≡ took 1 (get_or s at 0 ∷ [])
  plain_unit k e z =
      literal_unit st (drop at s) 0 (sym (plain_char st s at k h e z)) ∙ rw (drop-cons s at 0 h) refl

  no_slash : (u : Style) → quote u ≡ backslash → ⊥
  no_slash Json e = omega arith
  no_slash Unicode e = omega arith
  no_slash Bytes e = omega arith

  pub slash_unit : get_or s at 0 ≡ backslash → unit_at st (drop at s) ≡ escape st (drop (at + 1) s)
  slash_unit e = sym (unit_escape st s at h (quote st) refl (escape st (drop (at + 1) s)) (λ q. no_slash st (sym q ∙ e)) e refl)
