-- Valid data in `""`: a character of several bytes has none that is escaped, so the text of the data is that of its bytes.
-- Assumes nothing.
use mathlib.Core.Path.{◌≡◌, refl, sym, ap, ◌∙◌, subst}
use mathlib.Core.Bool.{Bool, true, false}
use mathlib.Core.List.{List, [], ◌∷◌, ◌++◌}
use Prim.Native.Nat.{ℕ, zero, suc, pred, ◌≤◌}
use native.Mathlib.Omega.{arith}
use borrow.Author.Tests.{eqb-true, ltb-true, ltb-false, ne_eqb, leb-true}
use lib.Dec.{ltb, leb, eqb, lit≤}
use lib.ListN.{take, drop}
use Rattle.prelude.specs.Bytes.{double_quote, backslash}
use Rattle.prelude.specs.Pick.{pick}
use Rattle.prelude.proofs.Cases.{split, and_left, and_right, or_none, never}
use Rattle.prelude.proofs.Suffix.{by_suffix}
use Rattle.utf8.specs.Utf8.{between, char_len, valid_from, positive}
use Rattle.utf8.proofs.Characters.{tails, low_bound, char_tails, valid_skip}
use Rattle.notation.specs.declared.styles.Style.TheVariants.{Json}
use Rattle.notation.specs.declared.styles.Form.TheVariants.{AsJson}
use Rattle.escapes.specs.Escapes.{lookup}
use Rattle.notation.specs.Literals.{literal_len}
use Rattle.units.specs.Written.{escape_byte}
use Rattle.notation.proofs.LiteralLaws.{literal_char}
use Rattle.units.proofs.LiteralUnits.{literal_written}
use Rattle.units.proofs.EscapeStores.{escape_written}
use Rattle.strings_write.specs.Write.{write_units}
use Rattle.bytewise.specs.inner.Bytewise.{byte_text, bytes_text}
use Rattle.bytewise.proofs.ByteTexts.{unslashed}
use Rattle.strings_write.proofs.WriteSteps.{write_skip}

-- a byte from 0x80 up
high_text : (b : ℕ) → 0x80 ≤ b → byte_text b ≡ b ∷ []
high_text b h =
    unslashed b (or_none _ _ (ne_eqb b double_quote (λ z. omega arith)) (ne_eqb b backslash (λ z. omega arith))) (omega arith)

quote_text : backslash ∷ double_quote ∷ [] ≡ escape_byte AsJson double_quote
unfolding escape_byte pick lookup
quote_text = refl

slash_text : backslash ∷ backslash ∷ [] ≡ escape_byte AsJson backslash
unfolding escape_byte pick lookup
slash_text = refl

-- a byte where a character stands that isn't literal has its escape
marked_text : (x : ℕ) (r : List ℕ) → positive (char_len (x ∷ r)) ≡ true → literal_len Json (x ∷ r) ≡ 0 → byte_text x ≡ escape_byte AsJson x
unfolding byte_text pick literal_len
marked_text x r c l =
    split (ltb x 32) (λ a. rw a)
    (λ a. split (eqb x double_quote)
    (λ q. let e : x ≡ double_quote = eqb-true x double_quote q in rw e quote_text)
    (λ q. split (eqb x backslash)
    (λ b. let e : x ≡ backslash = eqb-true x backslash b in rw e slash_text)
    (λ b. let z : char_len (x ∷ r) ≡ 0 = simp (a, q, b) at l in
    let y : ◌≡◌ {A = Bool} false true = ap positive (sym z) ∙ c in never cc)))

-- and the first byte of a literal character stands as it is
literal_text : (x : ℕ) (r : List ℕ) (n : ℕ) → literal_len Json (x ∷ r) ≡ suc n → byte_text x ≡ x ∷ []
unfolding literal_len pick
literal_text x r n l =
    split (ltb x 32)
    (λ a. let q : eqb x double_quote ≡ false = ne_eqb x double_quote (λ z. omega (arith, ltb-true x 32 a)) in
    let b : eqb x backslash ≡ false = ne_eqb x backslash (λ z. omega (arith, ltb-true x 32 a)) in
    let y : ◌≡◌ {A = ℕ} 0 (suc n) = simp (a, q, b) at l in absurd (omega arith))
    (λ a. split (eqb x double_quote)
    (λ q. let y : ◌≡◌ {A = ℕ} 0 (suc n) = simp q at l in absurd (omega arith))
    (λ q. split (eqb x backslash)
    (λ b. let y : ◌≡◌ {A = ℕ} 0 (suc n) = simp (q, b) at l in absurd (omega arith))
    (λ b. unslashed x (or_none _ _ q b) (ltb-false x 32 a))))

tails_text : (low high n : ℕ) (r : List ℕ) → 0x80 ≤ low → tails low high n r ≡ true → bytes_text r ≡ take n r ++ bytes_text (drop n r)
unfolding tails bytes_text
tails_text low high zero r h e = refl
tails_text low high (suc n) [] h e = refl
tails_text low high (suc n) (b ∷ r) h e =
    let g : low ≤ b = leb-true low b (and_left (leb low b) _ (and_left (between low high b) _ e)) in
    rw (high_text b (omega arith)) (ap (λ (l : List ℕ). b ∷ l) (tails_text 0x80 0xbf n r (lit≤ tt) (and_right (between low high b) _ e)))

abbrev Same : List ℕ → Type 0
Same s = valid_from 0 s ≡ true → write_units AsJson 0 s ≡ bytes_text s

valid_first : (x : ℕ) (r : List ℕ) → valid_from 0 (x ∷ r) ≡ true → (positive (char_len (x ∷ r)) ≡ true) × (valid_from 0 (drop (pred (char_len (x ∷ r))) r) ≡ true)
unfolding valid_from
valid_first x r v = (and_left _ _ v, sym (valid_skip (pred (char_len (x ∷ r))) r) ∙ and_right (positive (char_len (x ∷ r))) _ v)

same_one : (x : ℕ) (r : List ℕ) → ((k : ℕ) → Same (drop k r)) → Same (x ∷ r)
unfolding write_units bytes_text
same_one x r ih v = go (literal_len Json (x ∷ r)) refl
  where
    go : (l : ℕ) → literal_len Json (x ∷ r) ≡ l → write_units AsJson 0 (x ∷ r) ≡ bytes_text (x ∷ r)
    go zero e =
        let w = valid_first x r v in
        let f = escape_written AsJson x r e in
        let p : write_units AsJson (pred (char_len (x ∷ r))) r ≡ bytes_text r =
        ap (λ (k : ℕ). write_units AsJson k r) f.1 ∙ ih 0 (subst (λ (k : ℕ). valid_from 0 (drop k r) ≡ true) f.1 w.1) in
        λ i. (f.0 ∙ sym (marked_text x r w.0 e)) i ++ p i
    go (suc l) e =
        let m : char_len (x ∷ r) ≡ suc l = literal_char Json (x ∷ r) l e in
        let d : valid_from 0 (drop l r) ≡ true = subst (λ (k : ℕ). valid_from 0 (drop (pred k) r) ≡ true) m (valid_first x r v).1 in
        let p : write_units AsJson (pred (char_len (x ∷ r))) r ≡ bytes_text (drop l r) =
        ap (λ (k : ℕ). write_units AsJson (pred k) r) m ∙ write_skip AsJson l r ∙ ih l d in
        let t : bytes_text r ≡ take l r ++ bytes_text (drop l r) = tails_text _ _ l r (low_bound _) (char_tails x r l m).1 in
        (λ i. literal_written AsJson x r l e i ++ p i) ∙ rw (literal_text x r l e) (ap (λ (q : List ℕ). x ∷ q) (sym t))

pub bytewise : (s : List ℕ) → valid_from 0 s ≡ true → write_units AsJson 0 s ≡ bytes_text s
unfolding write_units bytes_text
bytewise = by_suffix Same (λ v. refl) same_one
