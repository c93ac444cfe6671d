-- A legal number's text: each of its bytes goes on a number and its kind is 3 or 4, line by line of the grammar; so it is its own longest
-- run, and the token reader's answer for a text tells which number all of it is.
-- Assumes nothing.
use Prim.Native.Nat.{ℕ, zero, suc, ◌+◌, ◌≤◌}
use mathlib.Core.Bool.{Bool, true}
use mathlib.Core.List.{List, [], ◌∷◌, ◌++◌, append-nil}
use mathlib.Core.Path.{◌≡◌, refl, sym, ap, ◌∙◌}
use native.Mathlib.Nat.{zero-add}
use native.Mathlib.Omega.{arith}
use borrow.Author.Tests.{eqb-true}
use lib.Dec.{eqb, lit≤}
use lib.ListN.{length}
use lib.Seq.{take-length}
use Rattle.std.specs.Prelude.{Option, Some, None}
use Rattle.prelude.specs.Pick.{pick}
use Rattle.prelude.proofs.Cases.{never}
use Rattle.prelude.proofs.Picks.{pick_case}
use Rattle.tokens.specs.declared.numbers.Number.{Number}
use Rattle.tokens.specs.Words.{is_digit, run_of}
use Rattle.tokens.specs.Numbers.{is_e, is_sign, is_number, in_exp, exp_digits, behind_e, behind_frac, in_frac, behind_point, behind_int, in_int, int, number_token, number_kind, kind_told, found, number_from, number_at}
use Rattle.tokens.proofs.Runs.{run_more, run_take}
use Rattle.tokens.proofs.Grammar.{digit_number, sign_number, e_number, found_same}

-- each byte passes a test
abbrev pub All : (ℕ → Bool) → List ℕ → Type 0
All f [] = Unit
All f (x ∷ r) = (f x ≡ true) × All f r

pub run_back : (f : ℕ → Bool) (w r : List ℕ) → All f w → run_of f r ≡ [] → run_of f (w ++ r) ≡ w
run_back f [] r a e = e
run_back f (x ∷ w) r a e = run_more f x (w ++ r) a.0 ∙ ap (λ (z : List ℕ). x ∷ z) (run_back f w r a.1 e)

-- what a part of the grammar answers of a text
abbrev Legal : List ℕ → ℕ → Type 0
Legal w k = (k ≡ 0 → ⊥) → All is_number w × ((3 ≤ k) × (k ≤ 4))

wrong : (w : List ℕ) → Legal w 0
wrong w h = absurd (h refl)

more : (x : ℕ) (r : List ℕ) (k : ℕ) → is_number x ≡ true → Legal r k → Legal (x ∷ r) k
more x r k e f h = let (a, b) = f h in ((e, a), b)

is_number_lem : (v x : ℕ) → is_number v ≡ true → eqb x v ≡ true → is_number x ≡ true
is_number_lem v x h e = rw (eqb-true x v e) h

exp_legal : (w : List ℕ) → Legal w (in_exp w)
unfolding in_exp
exp_legal [] = λ h. (tt, (lit≤ tt, lit≤ tt))
exp_legal (x ∷ r) = pick_case (Legal (x ∷ r)) (is_digit x) _ _ (λ e. more x r (in_exp r) (digit_number x e) (exp_legal r)) (λ e. wrong (x ∷ r))

digits_legal : (w : List ℕ) → Legal w (exp_digits w)
unfolding exp_digits
digits_legal [] = wrong []
digits_legal (x ∷ r) = pick_case (Legal (x ∷ r)) (is_digit x) _ _ (λ e. more x r (in_exp r) (digit_number x e) (exp_legal r)) (λ e. wrong (x ∷ r))

e_legal : (w : List ℕ) → Legal w (behind_e w)
unfolding behind_e
e_legal [] = wrong []
e_legal (x ∷ r) =
    pick_case (Legal (x ∷ r)) (is_sign x) _ _ (λ e. more x r (exp_digits r) (sign_number x e) (digits_legal r)) (λ e. digits_legal (x ∷ r))

behind_frac_legal : (w : List ℕ) → Legal w (behind_frac w)
unfolding behind_frac
behind_frac_legal [] = λ h. (tt, (lit≤ tt, lit≤ tt))
behind_frac_legal (x ∷ r) = pick_case (Legal (x ∷ r)) (is_e x) _ _ (λ e. more x r (behind_e r) (e_number x e) (e_legal r)) (λ e. wrong (x ∷ r))

frac_legal : (w : List ℕ) → Legal w (in_frac w)
unfolding in_frac
frac_legal [] = λ h. (tt, (lit≤ tt, lit≤ tt))
frac_legal (x ∷ r) =
    pick_case (Legal (x ∷ r)) (is_digit x) _ _ (λ e. more x r (in_frac r) (digit_number x e) (frac_legal r)) (λ e. behind_frac_legal (x ∷ r))

point_legal : (w : List ℕ) → Legal w (behind_point w)
unfolding behind_point
point_legal [] = wrong []
point_legal (x ∷ r) = pick_case (Legal (x ∷ r)) (is_digit x) _ _ (λ e. more x r (in_frac r) (digit_number x e) (frac_legal r)) (λ e. wrong (x ∷ r))

behind_int_legal : (w : List ℕ) → Legal w (behind_int w)
unfolding behind_int is_number is_sign pick
behind_int_legal [] = λ h. (tt, (lit≤ tt, lit≤ tt))
behind_int_legal (x ∷ r) =
    pick_case (Legal (x ∷ r)) (eqb x 0x2e) _ _ (λ e. more x r (behind_point r) (is_number_lem 0x2e x refl e) (point_legal r))
    (λ d. pick_case (Legal (x ∷ r)) (is_e x) _ _ (λ e. more x r (behind_e r) (e_number x e) (e_legal r)) (λ e. wrong (x ∷ r)))

in_int_legal : (w : List ℕ) → Legal w (in_int w)
unfolding in_int
in_int_legal [] = λ h. (tt, (lit≤ tt, lit≤ tt))
in_int_legal (x ∷ r) =
    pick_case (Legal (x ∷ r)) (is_digit x) _ _ (λ e. more x r (in_int r) (digit_number x e) (in_int_legal r)) (λ e. behind_int_legal (x ∷ r))

int_legal : (w : List ℕ) → Legal w (int w)
unfolding int is_number pick
int_legal [] = wrong []
int_legal (x ∷ r) =
    pick_case (Legal (x ∷ r)) (eqb x 0x30) _ _ (λ e. more x r (behind_int r) (is_number_lem 0x30 x refl e) (behind_int_legal r))
    (λ d. pick_case (Legal (x ∷ r)) (is_digit x) _ _ (λ e. more x r (in_int r) (digit_number x e) (in_int_legal r)) (λ e. wrong (x ∷ r)))

pub number_legal : (w : List ℕ) → (number_kind w ≡ 0 → ⊥) → All is_number w × ((3 ≤ number_kind w) × (number_kind w ≤ 4))
unfolding number_kind is_number is_sign pick
number_legal [] = wrong []
number_legal (x ∷ r) =
    pick_case (Legal (x ∷ r)) (eqb x 0x2d) _ _ (λ e. more x r (int r) (is_number_lem 0x2d x refl e) (int_legal r)) (λ e. int_legal (x ∷ r))

-- all of a text is one run
abbrev Whole : List ℕ → Type 0
Whole s = number_token s ≡ s

number_whole : (s : List ℕ) → (number_kind s ≡ 0 → ⊥) → Whole s
unfolding run_of
number_whole s h = rw (append-nil s) at (run_back is_number s [] (number_legal s h).0 refl)

-- a run as long as the text is the text
run_all : (s : List ℕ) → length (number_token s) ≡ length s → Whole s
run_all s e = run_take is_number s ∙ rw e (take-length s)

-- what the token reader answers of a text
module _ (s : List ℕ) (v : Option Number) (told : v ≡ number_at s) where
  found_is : (w : Number) → v ≡ Some w → (Some w.kind ≡ kind_told (number_kind (number_token s))) × (length (number_token s) ≡ w.len)
  unfolding number_at number_from
  found_is w e = go (number_kind (number_token s)) refl
    where
      go : (j : ℕ) → number_kind (number_token s) ≡ j → (Some w.kind ≡ kind_told (number_kind (number_token s))) × (length (number_token s) ≡ w.len)
      go zero q = never (let z : ◌≡◌ {A = Option Number} None (Some w) = sym (told ∙ rw q) ∙ e in cc)
      go (suc j) q =
          let z : found (suc j) (0 + length (number_token s)) ≡ found w.kind w.len = sym (told ∙ rw q) ∙ e in
          let (a, b) = found_same _ _ _ _ z in
          (rw q (ap Some (sym a)), sym (zero-add _) ∙ b)

  malformed_kind : v ≡ None → number_kind (number_token s) ≡ 0
  unfolding number_at number_from
  malformed_kind e = go (number_kind (number_token s)) refl
    where
      go : (j : ℕ) → number_kind (number_token s) ≡ j → number_kind (number_token s) ≡ 0
      go zero q = q
      go (suc j) q = never (let z : found (suc j) (0 + length (number_token s)) ≡ None = sym (told ∙ rw q) ∙ e in cc)

  -- were it a number, it would be its own run
  no_number : (Whole s → ⊥) → 0 ≡ number_kind s
  no_number f = go (number_kind s) refl
    where
      go : (j : ℕ) → number_kind s ≡ j → 0 ≡ number_kind s
      go zero q = sym q
      go (suc j) q = absurd (f (number_whole s (λ y. let z : suc j ≡ 0 = sym q ∙ y in omega (arith, z))))

  none_kind : v ≡ None → 0 ≡ number_kind s
  none_kind e = go (number_kind s) refl
    where
      go : (j : ℕ) → number_kind s ≡ j → 0 ≡ number_kind s
      go zero q = sym q
      go (suc j) q =
          let w : Whole s = number_whole s (λ y. let z : suc j ≡ 0 = sym q ∙ y in omega (arith, z)) in
          sym (malformed_kind e) ∙ ap number_kind w

  pub none_legal : v ≡ None → None ≡ kind_told (number_kind s)
  none_legal e = ap kind_told (none_kind e)

  pub longer : (w : Number) → v ≡ Some w → (w.len ≡ length s → ⊥) → None ≡ kind_told (number_kind s)
  longer w e d = ap kind_told (no_number (λ q. d (sym (found_is w e).1 ∙ ap length q)))

  pub all_of_it : (w : Number) → v ≡ Some w → w.len ≡ length s → Some w.kind ≡ kind_told (number_kind s)
  all_of_it w e l =
      let q : Whole s = run_all s ((found_is w e).1 ∙ l) in
      (found_is w e).0 ∙ ap (λ (t : List ℕ). kind_told (number_kind t)) q
