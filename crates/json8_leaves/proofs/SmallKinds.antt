-- A word's value has a kind up to 2, and a number one up to 4: by the grammar's parts, none of which answers another.
-- Assumes nothing.
use mathlib.Core.Path.{◌≡◌}
use mathlib.Core.List.{List, [], ◌∷◌}
use Prim.Native.Nat.{ℕ, zero, suc, ◌+◌, ◌≤◌}
use native.Mathlib.Omega.{arith}
use lib.Dec.{eqb, lit≤}
use lib.ListN.{length}
use Rattle.std.specs.Prelude.{Some, None}
use Rattle.prelude.specs.Pick.{pick}
use Rattle.prelude.proofs.Cases.{split, never}
use Rattle.prelude.proofs.Picks.{pick_case}
use Rattle.tokens.proofs.Grammar.{found_same}
use Rattle.tokens.specs.Words.{is_digit, same_bytes, null_word, false_word, true_word, word_value}
use Rattle.tokens.specs.Numbers.{is_e, is_sign, in_exp, exp_digits, behind_e, behind_frac, in_frac, behind_point, behind_int, in_int, int, number_kind, number_token, found, legal, number_from, number_at}

pub word_kind : (w : List ℕ) (k : ℕ) → word_value w ≡ Some k → k ≤ 2
unfolding word_value pick
word_kind w k e =
    split (same_bytes w null_word) (λ a. let z : 0 ≡ k = (let y : Some 0 ≡ Some k = rw a at e in cc) in omega arith)
    (λ a. split (same_bytes w false_word) (λ b. let z : 1 ≡ k = (let y : Some 1 ≡ Some k = rw (a, b) at e in cc) in omega arith)
    (λ b. split (same_bytes w true_word) (λ c. let z : 2 ≡ k = (let y : Some 2 ≡ Some k = rw (a, b, c) at e in cc) in omega arith)
    (λ c. never (let y : None ≡ Some k = rw (a, b, c) at e in cc))))

abbrev Low : ℕ → Type 0
Low k = k ≤ 4

in_exp_lem : (w : List ℕ) → Low (in_exp w)
unfolding in_exp
in_exp_lem [] = lit≤ tt
in_exp_lem (x ∷ r) = pick_case Low (is_digit x) _ _ (λ e. in_exp_lem r) (λ e. lit≤ tt)

exp_digits_lem : (w : List ℕ) → Low (exp_digits w)
unfolding exp_digits
exp_digits_lem [] = lit≤ tt
exp_digits_lem (x ∷ r) = pick_case Low (is_digit x) _ _ (λ e. in_exp_lem r) (λ e. lit≤ tt)

behind_e_lem : (w : List ℕ) → Low (behind_e w)
unfolding behind_e
behind_e_lem [] = lit≤ tt
behind_e_lem (x ∷ r) = pick_case Low (is_sign x) _ _ (λ e. exp_digits_lem r) (λ e. exp_digits_lem (x ∷ r))

behind_frac_lem : (w : List ℕ) → Low (behind_frac w)
unfolding behind_frac
behind_frac_lem [] = lit≤ tt
behind_frac_lem (x ∷ r) = pick_case Low (is_e x) _ _ (λ e. behind_e_lem r) (λ e. lit≤ tt)

in_frac_lem : (w : List ℕ) → Low (in_frac w)
unfolding in_frac
in_frac_lem [] = lit≤ tt
in_frac_lem (x ∷ r) = pick_case Low (is_digit x) _ _ (λ e. in_frac_lem r) (λ e. behind_frac_lem (x ∷ r))

behind_point_lem : (w : List ℕ) → Low (behind_point w)
unfolding behind_point
behind_point_lem [] = lit≤ tt
behind_point_lem (x ∷ r) = pick_case Low (is_digit x) _ _ (λ e. in_frac_lem r) (λ e. lit≤ tt)

behind_int_lem : (w : List ℕ) → Low (behind_int w)
unfolding behind_int
behind_int_lem [] = lit≤ tt
behind_int_lem (x ∷ r) = pick_case Low (eqb x 0x2e) _ _ (λ e. behind_point_lem r) (λ e. pick_case Low (is_e x) _ _ (λ d. behind_e_lem r) (λ d. lit≤ tt))

in_int_lem : (w : List ℕ) → Low (in_int w)
unfolding in_int
in_int_lem [] = lit≤ tt
in_int_lem (x ∷ r) = pick_case Low (is_digit x) _ _ (λ e. in_int_lem r) (λ e. behind_int_lem (x ∷ r))

whole : (w : List ℕ) → Low (int w)
unfolding int
whole [] = lit≤ tt
whole (x ∷ r) = pick_case Low (eqb x 0x30) _ _ (λ e. behind_int_lem r) (λ e. pick_case Low (is_digit x) _ _ (λ d. in_int_lem r) (λ d. lit≤ tt))

kind_low : (w : List ℕ) → Low (number_kind w)
unfolding number_kind
kind_low [] = lit≤ tt
kind_low (x ∷ r) = pick_case Low (eqb x 0x2d) _ _ (λ e. whole r) (λ e. whole (x ∷ r))

pub number_kind_lem : (s : List ℕ) (kind len : ℕ) → found kind len ≡ number_at s → kind ≤ 4
unfolding number_at number_from
number_kind_lem s kind len e = go (number_kind (number_token s)) (0 + length (number_token s)) (kind_low (number_token s)) e
  where
    go : (k n : ℕ) → k ≤ 4 → found kind len ≡ legal k n → kind ≤ 4
    go zero n h q = never cc
    go (suc k) n h q = let (a, b) = found_same _ _ _ _ q in omega arith
