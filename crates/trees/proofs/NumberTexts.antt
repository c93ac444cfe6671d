-- A legal number's first byte begins nothing else, by one test of all bytes below 0x3a.
-- Assumes nothing.
use Prim.Native.Nat.{ℕ, ◌<◌}
use mathlib.Core.Bool.{Bool, true, false}
use mathlib.Core.List.{List, ◌∷◌}
use mathlib.Core.Path.{◌≡◌, refl}
use native.Mathlib.Omega.{arith}
use lib.Dec.{leb, eqb}
use borrow.Author.Tests.{eqb-true, leb-true}
use Rattle.prelude.specs.Pick.{pick}
use Rattle.prelude.proofs.Cases.{split, and_right, never}
use Rattle.prelude.proofs.Picks.{pick_case}
use Rattle.prelude.proofs.Tables.{at_below}
use Rattle.notation.specs.Marks.{opening}
use Rattle.tokens.specs.declared.starts.Start.TheVariants.{Number}
use Rattle.tokens.specs.Blanks.{is_space}
use Rattle.tokens.specs.Words.{is_letter, is_digit}
use Rattle.tokens.specs.Numbers.{int, number_kind}
use Rattle.tokens.specs.Starts.{is_opening, start_of}
use Rattle.trees.proofs.Firsts.{solid, begins, unpicked}

-- "starts with `-` or a digit"
abbrev leads : ℕ → Bool
leads x = pick (eqb x 0x2d) true (is_digit x)

abbrev Led : ℕ → ℕ → Type 0
Led x k = (k ≡ 0 → ⊥) → leads x ≡ true

number_led : (x : ℕ) (r : List ℕ) → Led x (number_kind (x ∷ r))
unfolding number_kind int pick
number_led x r =
    split (eqb x 0x2d) (λ e h. rw e)
    (λ e. rw e
    (pick_case (λ k. (k ≡ 0 → ⊥) → is_digit x ≡ true) (eqb x 0x30) _ _ (λ d h. rw (eqb-true x 0x30 d))
    (λ d. pick_case (λ k. (k ≡ 0 → ⊥) → is_digit x ≡ true) (is_digit x) _ _ (λ g h. g) (λ g h. absurd (h refl)))))

-- what leads a number, whatever follows it, begins nothing else
only : List ℕ → ℕ → Bool
only r x = pick (leads x) (pick (is_opening (opening (x ∷ r))) false (pick (is_letter x) false (begins x))) true

led_below : (x : ℕ) → leads x ≡ true → x < 0x3a
unfolding pick
led_below x e =
    split (eqb x 0x2d) (λ d. omega (arith, eqb-true x 0x2d d)) (λ d. omega (arith, leb-true x 0x39 (and_right (leb 0x30 x) _ (rw d at e))))

led_only : (r : List ℕ) (x : ℕ) → leads x ≡ true → pick (is_opening (opening (x ∷ r))) false (pick (is_letter x) false (begins x)) ≡ true
unfolding only begins solid is_space is_letter opening pick
led_only r x e = rw e at (at_below (only r) 0x3a refl x (led_below x e))

led_start : (x : ℕ) (r : List ℕ) → leads x ≡ true → is_opening (opening (x ∷ r)) ≡ false → is_letter x ≡ false → start_of (x ∷ r) ≡ Number
unfolding start_of pick
led_start x r e a b =
    rw (a, b) (split (is_digit x) (λ d. rw d) (λ d. rw d (split (eqb x 0x2d) (λ c. rw c) (λ c. never (let z = rw (c, d) at e in cc)))))

pub number_begins : (x : ℕ) (w : List ℕ) → (number_kind (x ∷ w) ≡ 0 → ⊥) → (r : List ℕ) → (begins x ≡ true) × (start_of (x ∷ r) ≡ Number)
number_begins x w h r =
    let e = number_led x w h in
    let (a, o) = unpicked (is_opening (opening (x ∷ r))) _ (led_only r x e) in
    let (b, c) = unpicked (is_letter x) _ o in
    (c, led_start x r e a b)
