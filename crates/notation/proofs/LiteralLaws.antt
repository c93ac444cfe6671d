-- Literal characters and runs of them: what holds of a run is shown character by character, by one induction for all such laws.
-- Assumes nothing.
use Prim.Native.Nat.{ℕ, zero, suc, ◌+◌, ◌≤◌, ◌<◌}
use mathlib.Core.Bool.{true, false}
use mathlib.Core.List.{List, [], ◌∷◌, append-nil}
use mathlib.Core.Path.{◌≡◌, refl, sym, ap, ◌∙◌, subst}
use native.Mathlib.Omega.{arith}
use lib.Dec.{ltb, eqb, lit<, lit≤}
use lib.ListN.{length, get_or, take, drop, length-drop, drop_of_length-le}
use lib.Seq.{drop-drop, take-add, length-take-le}
use borrow.Author.Tests.{ltb-false}
use Rattle.prelude.specs.Bytes.{backslash}
use Rattle.prelude.specs.Pick.{pick}
use Rattle.prelude.proofs.Cases.{split}
use Rattle.prelude.proofs.Suffix.{by_suffix}
use Rattle.utf8.specs.Utf8.{char_len, valid_from}
use Rattle.utf8.proofs.Characters.{char_le, char_length, char_take, valid_char, valid_step}
use Rattle.notation.specs.declared.styles.Style.{Style}
use Rattle.notation.specs.declared.styles.Style.TheVariants.{Json, Unicode, Bytes}
use Rattle.notation.specs.Styles.{quote}
use Rattle.notation.specs.Literals.{literal_len, literal_run, or_stop}

pub quote_ascii : (st : Style) → (32 ≤ quote st) × (quote st < 128)
quote_ascii Json = (lit≤ tt, lit< tt)
quote_ascii Unicode = (lit≤ tt, lit< tt)
quote_ascii Bytes = (lit≤ tt, lit< tt)

-- the first byte of a literal character
pub record Literal (st : Style) (x : ℕ) (r : List ℕ) (n : ℕ) : Type 0 where
  pub no_quote : eqb x (quote st) ≡ false
  pub no_slash : eqb x backslash ≡ false
  pub no_control : ltb x 32 ≡ false
  pub size : char_len (x ∷ r) ≡ suc n

pub literal_is : (st : Style) (x : ℕ) (r : List ℕ) (n : ℕ) → literal_len st (x ∷ r) ≡ suc n → Literal st x r n
unfolding literal_len pick
literal_is st x r n e =
    split (eqb x (quote st)) (λ a. absurd (omega (arith, rw a at e)))
    (λ a. split (eqb x backslash) (λ b. absurd (omega (arith, simp (a, b) at e)))
    (λ b. split (ltb x 32) (λ c. absurd (omega (arith, simp (a, b, c) at e)))
    (λ c. record { no_quote = a; no_slash = b; no_control = c; size = simp (a, b, c) at e })))

pub literal_nil : (st : Style) → literal_len st [] ≡ 0
unfolding literal_len
literal_nil st = refl

pub literal_char : (st : Style) (s : List ℕ) (n : ℕ) → literal_len st s ≡ suc n → char_len s ≡ suc n
literal_char st [] n e = absurd (omega (arith, literal_nil st))
literal_char st (x ∷ r) n e = (literal_is st x r n e).size

-- a literal character begins with no control
pub literal_printed : (st : Style) (s : List ℕ) (n : ℕ) → literal_len st s ≡ suc n → 32 ≤ get_or s 0 0
literal_printed st [] n e = absurd (omega (arith, literal_nil st))
literal_printed st (x ∷ r) n e = ltb-false x 32 (literal_is st x r n e).no_control

-- what holds of no bytes where no literal character stands, and of a literal character and a run behind it, holds of every run
pub run_skip : (st : Style) (k : ℕ) (s : List ℕ) → k ≤ length s → literal_run st k s ≡ k + literal_run st 0 (drop k s)
unfolding literal_run
run_skip st zero s h = omega arith
run_skip st (suc k) [] h = absurd (omega arith)
run_skip st (suc k) (x ∷ r) h = omega (arith, run_skip st k r (omega arith))

module _ (st : Style) (P : List ℕ → ℕ → Type 0) (stop : (s : List ℕ) → literal_len st s ≡ 0 → P s 0)
    (on : (s : List ℕ) (n m : ℕ) → literal_len st s ≡ suc n → suc n ≤ length s → P (drop (suc n) s) m → P s (suc n + m)) where
  one : (x : ℕ) (r : List ℕ) → ((k : ℕ) → P (drop k r) (literal_run st 0 (drop k r))) → P (x ∷ r) (literal_run st 0 (x ∷ r))
  unfolding literal_run
  one x r ih = go (literal_len st (x ∷ r)) refl
    where
      go : (n : ℕ) → literal_len st (x ∷ r) ≡ n → P (x ∷ r) (or_stop n (λ m. literal_run st m r))
      go zero e = stop (x ∷ r) e
      go (suc n) e =
          let f : suc n ≤ suc (length r) = rw (literal_char st (x ∷ r) n e) at (char_le (x ∷ r)) in
          let g : suc n + literal_run st 0 (drop n r) ≡ suc (literal_run st n r) = omega (arith, run_skip st n r (omega arith)) in
          subst (P (x ∷ r)) g (on (x ∷ r) n (literal_run st 0 (drop n r)) e f (ih n))

  pub by_run : (s : List ℕ) → P s (literal_run st 0 s)
  unfolding literal_run
  by_run = by_suffix (λ s. P s (literal_run st 0 s)) (stop [] (literal_nil st)) one

pub run_fits : (st : Style) (s : List ℕ) → literal_run st 0 s ≤ length s
run_fits st = by_run st (λ s n. n ≤ length s) (λ s e. omega arith) (λ s n m e f h. omega (arith, length-drop (suc n) s))

-- no literal character stands behind a run
pub run_ends : (st : Style) (s : List ℕ) → literal_len st (drop (literal_run st 0 s) s) ≡ 0
run_ends st =
    by_run st (λ s n. literal_len st (drop n s) ≡ 0) (λ s e. e)
    (λ s n m e f h. ap (literal_len st) (sym (drop-drop m (suc n) s)) ∙ h)

-- a run is characters
pub run_valid : (st : Style) (s : List ℕ) → valid_from 0 s ≡ valid_from 0 (drop (literal_run st 0 s) s)
run_valid st =
    by_run st (λ s n. valid_from 0 s ≡ valid_from 0 (drop n s)) (λ s e. refl)
    (λ s n m e f h.
    let c : char_len s ≡ suc n = literal_char st s n e in
    valid_step s (λ z. omega arith) ∙ ap (λ (k : ℕ). valid_from 0 (drop k s)) c ∙ h ∙ ap (valid_from 0) (drop-drop m (suc n) s))

utf8_more : (st : Style) (s : List ℕ) (n m : ℕ) → literal_len st s ≡ suc n → valid_from 0 (take m (drop (suc n) s)) ≡ true
    → valid_from 0 (take (suc n + m) s) ≡ true
utf8_more st [] n m e h = absurd (omega (arith, literal_nil st))
utf8_more st (x ∷ r) n m e h =
    let c : char_len (x ∷ r) ≡ suc n = literal_char st (x ∷ r) n e in
    let l : length (take n r) ≡ n = length-take-le n r (char_length x r n c) in
    let d : char_len (x ∷ take n r) ≡ suc (length (take n r)) =
    ap (λ (t : List ℕ). char_len (x ∷ t)) (sym (append-nil (take n r))) ∙ char_take x r [] n c ∙ ap suc (sym l) in
    ap (valid_from 0) (take-add (suc n) m (x ∷ r)) ∙ valid_char x (take n r) (take m (drop n r)) d ∙ h

-- and so it is valid UTF-8 by itself
pub run_utf8 : (st : Style) (s : List ℕ) → valid_from 0 (take (literal_run st 0 s) s) ≡ true
unfolding valid_from
run_utf8 st = by_run st (λ s n. valid_from 0 (take n s) ≡ true) (λ s e. refl) (λ s n m e f h. utf8_more st s n m e h)

pub all_literal : (st : Style) (s : List ℕ) → literal_run st 0 s ≡ length s → valid_from 0 s ≡ true
unfolding valid_from
all_literal st s e = run_valid st s ∙ rw (e, drop_of_length-le s {i = length s} (omega arith))
