-- Literal characters by the class of their first byte: what the class tells agrees with what the byte tells, by one test over all
-- 256 bytes and style by style.
-- Assumes nothing.
use Prim.Native.Nat.{ℕ, zero, suc, ◌+◌, ◌≤◌, ◌<◌}
use mathlib.Core.Bool.{true, false}
use mathlib.Core.List.{List, ◌∷◌}
use mathlib.Core.Path.{◌≡◌, refl, sym, ap, ◌∙◌}
use native.Mathlib.Omega.{arith}
use lib.Dec.{ltb, eqb}
use lib.ListN.{length, get_or, drop}
use lib.Seq.{drop-cons, get_or-drop}
use borrow.Author.Tests.{lt-ltb, le-ltb, eq-eqb, ne_eqb}
use Rattle.prelude.specs.Bytes.{double_quote, single_quote, backslash}
use Rattle.prelude.specs.Pick.{pick}
use Rattle.prelude.proofs.Cases.{split}
use Rattle.prelude.proofs.Tables.{all_below}
use Rattle.utf8.specs.Class.{class_of}
use Rattle.utf8.specs.Utf8.{tail, low_of, high_of, two_bytes, three_bytes, long_len, len_by, char_len}
use Rattle.utf8.proofs.ByteClasses.{class_last, by_byte_lem}
use Rattle.notation.specs.declared.styles.Style.{Style}
use Rattle.notation.specs.declared.styles.Style.TheVariants.{Json, Unicode, Bytes}
use Rattle.notation.specs.Styles.{quote, bare_class}
use Rattle.notation.specs.Literals.{literal_len}

-- none, one byte, or as many as a lead announces: by the class, and by the byte
abbrev by_class : ℕ → ℕ → ℕ
by_class bare k = pick (eqb k 0) 1 (pick (ltb k 6) (pick (eqb k bare) 1 0) 2)

abbrev by_byte : Style → ℕ → ℕ → ℕ
by_byte st x k = pick (eqb x (quote st)) 0 (pick (eqb x backslash) 0 (pick (ltb x 32) 0 (pick (ltb k 5) 1 (pick (ltb k 6) 0 2))))

agrees : (st : Style) → all_below (λ b. eqb (by_class (bare_class st) (class_of b)) (by_byte st b (class_of b))) 0xf5 ≡ true
unfolding class_of pick
agrees Json = refl
agrees Unicode = refl
agrees Bytes = refl

no_quote : (st : Style) (x : ℕ) → 0xf5 ≤ x → eqb x (quote st) ≡ false
no_quote Json x h = ne_eqb x double_quote (λ z. omega arith)
no_quote Unicode x h = ne_eqb x single_quote (λ z. omega arith)
no_quote Bytes x h = ne_eqb x single_quote (λ z. omega arith)

byte_agrees : (st : Style) (x : ℕ) → by_class (bare_class st) (class_of x) ≡ by_byte st x (class_of x)
unfolding pick
byte_agrees st =
    by_byte_lem (by_class (bare_class st)) (λ x. by_byte st x (class_of x)) (agrees st)
    (λ x h. rw (class_last x h, no_quote st x h, ne_eqb x backslash (λ z. omega arith), le-ltb x 32 (omega arith)))

-- as many as a lead announces are m
abbrev with : ℕ → ℕ → ℕ
with zero m = 0
with (suc zero) m = 1
with (suc (suc n)) m = m

with_class : (bare k m : ℕ) → pick (eqb k 0) 1 (pick (ltb k 6) (pick (eqb k bare) 1 0) m) ≡ with (by_class bare k) m
unfolding pick
with_class bare k m =
    split (eqb k 0) (λ e. simp e)
    (λ e. split (ltb k 6) (λ d. split (eqb k bare) (λ c. simp (e, d, c)) (λ c. simp (e, d, c))) (λ d. simp (e, d)))

with_byte : (st : Style) (x k m : ℕ)
    → pick (eqb x (quote st)) 0 (pick (eqb x backslash) 0 (pick (ltb x 32) 0 (pick (ltb k 5) 1 (pick (ltb k 6) 0 m)))) ≡ with (by_byte st x k) m
unfolding pick
with_byte st x k m =
    split (eqb x (quote st)) (λ e. simp e)
    (λ e. split (eqb x backslash) (λ d. simp (e, d))
    (λ d. split (ltb x 32) (λ c. simp (e, d, c))
    (λ c. split (ltb k 5) (λ b. simp (e, d, c, b))
    (λ b. split (ltb k 6) (λ a. simp (e, d, c, b, a)) (λ a. simp (e, d, c, b, a))))))

-- the literal character at the head, as the class of its first byte tells it
pub literal_class : (st : Style) (x : ℕ) (r : List ℕ)
    → pick (eqb (class_of x) 0) 1
    (pick (ltb (class_of x) 6) (pick (eqb (class_of x) (bare_class st)) 1 0) (long_len (class_of x) (get_or r 0 0) (get_or r 1 0) (get_or r 2 0)))
    ≡ literal_len st (x ∷ r)
unfolding literal_len char_len len_by
literal_class st x r =
    let m : ℕ = long_len (class_of x) (get_or r 0 0) (get_or r 1 0) (get_or r 2 0) in
    with_class (bare_class st) (class_of x) m ∙ ap (λ (n : ℕ). with n m) (byte_agrees st x) ∙ sym (with_byte st x (class_of x) m)

-- the same at a place of a text, for each way that the code takes
module _ (st : Style) (s : List ℕ) (at k : ℕ) (h : at < length s) (ek : k ≡ class_of (get_or s at 0)) where
  abbrev long : ℕ
  long = long_len k (get_or (drop at s) 1 0) (get_or (drop at s) 2 0) (get_or (drop at s) 3 0)

  at_class : pick (eqb k 0) 1 (pick (ltb k 6) (pick (eqb k (bare_class st)) 1 0) long) ≡ literal_len st (drop at s)
  at_class = rw (drop-cons s at 0 h, ek) (literal_class st (get_or s at 0) (drop (suc at) s))

  pub plain_char : k ≡ 0 → 1 ≡ literal_len st (drop at s)
  unfolding pick
  plain_char e = rw (eq-eqb k 0 e) at at_class

  pub bare_quote : (k ≡ 0 → ⊥) → k < 6 → k ≡ bare_class st → 1 ≡ literal_len st (drop at s)
  unfolding pick
  bare_quote e d c = simp (ne_eqb k 0 e, lt-ltb k 6 d, eq-eqb k (bare_class st) c) at at_class

  pub no_char : (k ≡ 0 → ⊥) → k < 6 → (k ≡ bare_class st → ⊥) → 0 ≡ literal_len st (drop at s)
  unfolding pick
  no_char e d c = simp (ne_eqb k 0 e, lt-ltb k 6 d, ne_eqb k (bare_class st) c) at at_class

  pub long_char : (n : ℕ) → n ≡ long → (k ≡ 0 → ⊥) → 6 ≤ k → n ≡ literal_len st (drop at s)
  unfolding pick
  long_char n q e d = q ∙ (simp (ne_eqb k 0 e, le-ltb k 6 d) at at_class)

  behind : (i : ℕ) → get_or (drop at s) i 0 ≡ get_or s (at + i) 0
  behind i = get_or-drop at s i 0

  pub two_bytes_lem : k ≡ 6 → tail (get_or s (at + 1) 0) ≡ true → 2 ≡ literal_len st (drop at s)
  unfolding long_len two_bytes pick
  two_bytes_lem e a = long_char 2 (sym (rw (e, behind 1, a) refl)) (λ z. omega arith) (omega arith)

  pub three_bytes_lem : k ≡ 7 → (tail (get_or s (at + 1) 0) ≡ true) × (tail (get_or s (at + 2) 0) ≡ true) → 3 ≡ literal_len st (drop at s)
  unfolding long_len three_bytes low_of high_of pick
  three_bytes_lem e a = long_char 3 (sym (rw (e, behind 1, behind 2, a.0, a.1) refl)) (λ z. omega arith) (omega arith)
