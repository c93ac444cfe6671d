-- The grammar at a place of the text: the run there is empty or begins with the byte at that place, so a part of the grammar goes on to
-- the next at the byte behind, over a run of digits, or stops.
-- Assumes nothing.
use mathlib.Core.Path.{◌≡◌, refl, sym, ap, ◌∙◌}
use mathlib.Core.Bool.{true, false}
use mathlib.Core.List.{List, [], ◌∷◌}
use Prim.Native.Nat.{ℕ, zero, suc, ◌+◌, ◌-◌, ◌≤◌, ◌<◌}
use native.Mathlib.Omega.{arith}
use native.Mathlib.Nat.{add-zero}
use borrow.Author.Tests.{ne_eqb}
use lib.Dec.{eqb}
use Rattle.std.specs.Prelude.{Option, Some, None}
use lib.ListN.{length, get_or, drop, length-drop}
use lib.Seq.{drop-drop}
use Rattle.prelude.specs.Pick.{pick}
use Rattle.prelude.proofs.Cases.{split, never}
use Rattle.prelude.proofs.Rest.{get_or_inside}
use Rattle.tokens.specs.declared.numbers.Number.{Number}
use Rattle.tokens.specs.Words.{is_digit, run_of}
use Rattle.tokens.specs.Numbers.{is_e, is_sign, is_number, number_token, found, legal, ends, in_exp, exp_digits, behind_e, behind_frac, in_frac, behind_point, behind_int, in_int, int, number_kind, number_from, number_at}
use Rattle.tokens.specs.inner.Parts.{Leads}
use Rattle.tokens.proofs.Runs.{run_more, run_none, run_le}

pub digit_number : (x : ℕ) → is_digit x ≡ true → is_number x ≡ true
unfolding is_number pick
digit_number x e = rw e

pub sign_number : (x : ℕ) → is_sign x ≡ true → is_number x ≡ true
unfolding is_number pick
sign_number x e = split (is_digit x) (λ d. rw d) (λ d. rw (d, e))

pub e_number : (x : ℕ) → is_e x ≡ true → is_number x ≡ true
unfolding is_number pick
e_number x e =
    split (is_digit x) (λ d. rw d) (λ d. split (is_sign x) (λ g. rw (d, g)) (λ g. split (eqb x 0x2e) (λ p. rw (d, g, p)) (λ p. rw (d, g, p, e))))

-- past the end every byte is 0, which no run has
zero_not : is_number 0 ≡ false
unfolding is_number is_sign is_e pick
zero_not = refl

-- the run at a place begins with the byte there, or is empty
module _ (r : List ℕ) (x : ℕ) (ex : x ≡ get_or r 0 0) where
  pub head_more : is_number x ≡ true → number_token r ≡ x ∷ number_token (drop 1 r)
  head_more e = go r ex
    where
      go : (t : List ℕ) → x ≡ get_or t 0 0 → number_token t ≡ x ∷ number_token (drop 1 t)
      go [] q = never (let z : false ≡ true = sym zero_not ∙ ap is_number (sym q) ∙ e in cc)
      go (y ∷ t) q = rw (sym q) (run_more is_number x t e)

  pub head_none : is_number x ≡ false → number_token r ≡ []
  unfolding run_of
  head_none e = go r ex
    where
      go : (t : List ℕ) → x ≡ get_or t 0 0 → number_token t ≡ []
      go [] q = refl
      go (y ∷ t) q = run_none is_number y t (ap is_number (sym q) ∙ e)

  pub head_inside : is_number x ≡ true → 0 < length r
  head_inside e =
      get_or_inside r 0 (λ z. never (let q : true ≡ false = sym e ∙ ap is_number (ex ∙ z) ∙ zero_not in cc))

-- from one part of the grammar to the next, at a place of the text whose byte there is x
module _ (s : List ℕ) (at x : ℕ) (ex : x ≡ get_or (drop at s) 0 0) where
  pub next_inside : is_number x ≡ true → at + 1 ≤ length s
  next_inside e = omega (arith, head_inside (drop at s) x ex e, length-drop at s)

  pub goes_on : (part next : List ℕ → ℕ) (v : Option Number) → v ≡ number_from next (at + 1) (drop (at + 1) s) → is_number x ≡ true
      → ((w : List ℕ) → part (x ∷ w) ≡ next w) → v ≡ number_from part at (drop at s)
  unfolding number_from
  goes_on part next v e h f =
      let l : at + 1 + length (number_token (drop (at + 1) s)) ≡ at + suc (length (number_token (drop (at + 1) s))) = omega arith in
      e ∙ rw (head_more (drop at s) x ex h, drop-drop 1 at s, f (number_token (drop (at + 1) s)), l)

  pub stays : (part same : List ℕ → ℕ) (v : Option Number) → v ≡ number_from same at (drop at s) → part [] ≡ same []
      → ((w : List ℕ) → part (x ∷ w) ≡ same (x ∷ w)) → v ≡ number_from part at (drop at s)
  unfolding number_from
  stays part same v e z f =
      e ∙ split (is_number x)
      (λ h. rw (head_more (drop at s) x ex h, f (number_token (drop 1 (drop at s)))))
      (λ h. rw (head_none (drop at s) x ex h, z))

  pub fails : (part : List ℕ → ℕ) → part [] ≡ 0 → ((w : List ℕ) → part (x ∷ w) ≡ 0) → None ≡ number_from part at (drop at s)
  unfolding number_from
  fails part z f =
      split (is_number x)
      (λ h. rw (head_more (drop at s) x ex h, f (number_token (drop 1 (drop at s)))))
      (λ h. rw (head_none (drop at s) x ex h, z))

  pub too_long_lem : (kind : ℕ) → is_number x ≡ true → None ≡ number_from (ends kind) at (drop at s)
  unfolding number_from
  too_long_lem kind h = rw (head_more (drop at s) x ex h)

  pub whole : (kind : ℕ) → 0 < kind → is_number x ≡ false → found kind at ≡ number_from (ends kind) at (drop at s)
  unfolding number_from
  whole zero p h = absurd (omega arith)
  whole (suc k) p h = rw (head_none (drop at s) x ex h, add-zero at)

-- over digits
module _ (part next : List ℕ → ℕ) (digit : (x : ℕ) (w : List ℕ) → is_digit x ≡ true → part (x ∷ w) ≡ part w)
    (other : (x : ℕ) (w : List ℕ) → is_digit x ≡ false → part (x ∷ w) ≡ next (x ∷ w)) (none : part [] ≡ next []) where
  over : (r : List ℕ) (n : ℕ) → number_from next (n + length (run_of is_digit r)) (drop (length (run_of is_digit r)) r) ≡ number_from part n r
  unfolding run_of number_from
  over [] n = ap (λ (k : ℕ). legal k (n + 0 + 0)) (sym none) ∙ ap (legal (part [])) (add-zero (n + 0))
  over (x ∷ r) n =
      split (is_digit x)
      (λ d. let m : n + suc (length (run_of is_digit r)) ≡ suc n + length (run_of is_digit r) = omega arith in
      let l : n + suc (length (number_token r)) ≡ suc n + length (number_token r) = omega arith in
      rw (run_more is_digit x r d, run_more is_number x r (digit_number x d), m, l, digit x (number_token r) d) (over r (suc n)))
      (λ d. split (is_number x)
      (λ h. rw (run_none is_digit x r d, run_more is_number x r h, add-zero n, other x (number_token r) d))
      (λ h. rw (run_none is_digit x r d, run_none is_number x r h, none) (simp add-zero)))

  pub over_digits : (s : List ℕ) (at e : ℕ) (v : Option Number) → e ≡ at + length (run_of is_digit (drop at s)) → v ≡ number_from next e (drop e s) → v ≡ number_from part at (drop at s)
  over_digits s at e v ee ev =
      ev ∙ ap (λ (k : ℕ). number_from next k (drop k s)) ee ∙ ap (number_from next (at + length (run_of is_digit (drop at s)))) (sym (drop-drop (length (run_of is_digit (drop at s))) at s))
      ∙ over (drop at s) at

pub digits_inside : (s : List ℕ) (at e : ℕ) → e ≡ at + length (run_of is_digit (drop at s)) → at ≤ length s → e ≤ length s
digits_inside s at e ee h = omega (arith, run_le is_digit (drop at s), length-drop at s)

-- the parts that begin with a run of digits
pub exp_over : (s : List ℕ) (at e : ℕ) (v : Option Number) → e ≡ at + length (run_of is_digit (drop at s)) → v ≡ number_from (ends 4) e (drop e s) → v ≡ number_from in_exp at (drop at s)
unfolding in_exp pick
exp_over = over_digits in_exp (ends 4) (λ x w d. rw d) (λ x w d. rw d) refl

pub frac_over : (s : List ℕ) (at e : ℕ) (v : Option Number) → e ≡ at + length (run_of is_digit (drop at s)) → v ≡ number_from behind_frac e (drop e s) → v ≡ number_from in_frac at (drop at s)
unfolding in_frac behind_frac pick
frac_over = over_digits in_frac behind_frac (λ x w d. rw d) (λ x w d. rw d) refl

pub int_over : (s : List ℕ) (at e : ℕ) (v : Option Number) → e ≡ at + length (run_of is_digit (drop at s)) → v ≡ number_from behind_int e (drop e s) → v ≡ number_from in_int at (drop at s)
unfolding in_int behind_int pick
int_over = over_digits in_int behind_int (λ x w d. rw d) (λ x w d. rw d) refl

-- each part by the byte that stands there
module _ (s : List ℕ) (at x : ℕ) (v : Option Number) (ex : x ≡ get_or (drop at s) 0 0) where
  pub exp_digit : is_digit x ≡ true → v ≡ number_from in_exp (at + 1) (drop (at + 1) s) → v ≡ number_from exp_digits at (drop at s)
  unfolding exp_digits pick
  exp_digit d e = goes_on s at x ex exp_digits in_exp v e (digit_number x d) (λ w. rw d)

  pub exp_none : is_digit x ≡ false → None ≡ number_from exp_digits at (drop at s)
  unfolding exp_digits pick
  exp_none d = fails s at x ex exp_digits refl (λ w. rw d)

  pub e_sign : is_sign x ≡ true → v ≡ number_from exp_digits (at + 1) (drop (at + 1) s) → v ≡ number_from behind_e at (drop at s)
  unfolding behind_e pick
  e_sign d e = goes_on s at x ex behind_e exp_digits v e (sign_number x d) (λ w. rw d)

  pub e_plain : is_sign x ≡ false → v ≡ number_from exp_digits at (drop at s) → v ≡ number_from behind_e at (drop at s)
  unfolding behind_e exp_digits pick
  e_plain d e = stays s at x ex behind_e exp_digits v e refl (λ w. rw d)

  pub frac_e : is_e x ≡ true → v ≡ number_from behind_e (at + 1) (drop (at + 1) s) → v ≡ number_from behind_frac at (drop at s)
  unfolding behind_frac pick
  frac_e d e = goes_on s at x ex behind_frac behind_e v e (e_number x d) (λ w. rw d)

  pub frac_end : is_e x ≡ false → v ≡ number_from (ends 4) at (drop at s) → v ≡ number_from behind_frac at (drop at s)
  unfolding behind_frac pick
  frac_end d e = stays s at x ex behind_frac (ends 4) v e refl (λ w. rw d)

  pub point_digit : is_digit x ≡ true → v ≡ number_from in_frac (at + 1) (drop (at + 1) s) → v ≡ number_from behind_point at (drop at s)
  unfolding behind_point pick
  point_digit d e = goes_on s at x ex behind_point in_frac v e (digit_number x d) (λ w. rw d)

  pub point_none : is_digit x ≡ false → None ≡ number_from behind_point at (drop at s)
  unfolding behind_point pick
  point_none d = fails s at x ex behind_point refl (λ w. rw d)

  pub int_point : x ≡ 0x2e → v ≡ number_from behind_point (at + 1) (drop (at + 1) s) → v ≡ number_from behind_int at (drop at s)
  unfolding behind_int is_number is_sign pick
  int_point d e = goes_on s at x ex behind_int behind_point v e (rw d) (λ w. rw d)

  pub point_inside : x ≡ 0x2e → at + 1 ≤ length s
  unfolding is_number is_sign pick
  point_inside d = next_inside s at x ex (rw d)

  module _ (p : x ≡ 0x2e → ⊥) where
    pub int_e : is_e x ≡ true → v ≡ number_from behind_e (at + 1) (drop (at + 1) s) → v ≡ number_from behind_int at (drop at s)
    unfolding behind_int pick
    int_e d e = goes_on s at x ex behind_int behind_e v e (e_number x d) (λ w. rw (ne_eqb x 0x2e p, d))

    pub int_end : is_e x ≡ false → v ≡ number_from (ends 3) at (drop at s) → v ≡ number_from behind_int at (drop at s)
    unfolding behind_int pick
    int_end d e = stays s at x ex behind_int (ends 3) v e refl (λ w. rw (ne_eqb x 0x2e p, d))

  pub zero_int : x ≡ 0x30 → v ≡ number_from behind_int (at + 1) (drop (at + 1) s) → v ≡ number_from int at (drop at s)
  unfolding int is_number pick
  zero_int d e = goes_on s at x ex int behind_int v e (rw d) (λ w. rw d)

  pub zero_inside : x ≡ 0x30 → at + 1 ≤ length s
  unfolding is_number pick
  zero_inside d = next_inside s at x ex (rw d)

  module _ (p : x ≡ 0x30 → ⊥) where
    pub digit_int : is_digit x ≡ true → v ≡ number_from in_int (at + 1) (drop (at + 1) s) → v ≡ number_from int at (drop at s)
    unfolding int pick
    digit_int d e = goes_on s at x ex int in_int v e (digit_number x d) (λ w. rw (ne_eqb x 0x30 p, d))

    pub no_int : is_digit x ≡ false → None ≡ number_from int at (drop at s)
    unfolding int pick
    no_int d = fails s at x ex int refl (λ w. rw (ne_eqb x 0x30 p, d))

  pub minus_on : x ≡ 0x2d → v ≡ number_from int (at + 1) (drop (at + 1) s) → v ≡ number_from number_kind at (drop at s)
  unfolding number_kind is_number is_sign pick
  minus_on d e = goes_on s at x ex number_kind int v e (rw d) (λ w. rw d)

  pub minus_inside : x ≡ 0x2d → at + 1 ≤ length s
  unfolding is_number is_sign pick
  minus_inside d = next_inside s at x ex (rw d)

  pub no_minus : (x ≡ 0x2d → ⊥) → v ≡ number_from int at (drop at s) → v ≡ number_from number_kind at (drop at s)
  unfolding number_kind int pick
  no_minus d e = stays s at x ex number_kind int v e refl (λ w. rw (ne_eqb x 0x2d d))

-- the places that lead on
module _ (s : List ℕ) (at x : ℕ) (ex : x ≡ get_or (drop at s) 0 0) where
  pub minus_leads : x ≡ 0x2d → Leads number_kind int s at (at + 1)
  minus_leads d = record { inside = minus_inside s at x None ex d; same = minus_on s at x _ ex d refl }

  pub plain_leads : at ≤ length s → (x ≡ 0x2d → ⊥) → Leads number_kind int s at at
  plain_leads h d = record { inside = h; same = no_minus s at x _ ex d refl }

  pub sign_leads : is_sign x ≡ true → Leads behind_e exp_digits s at (at + 1)
  sign_leads d = record { inside = next_inside s at x ex (sign_number x d); same = e_sign s at x _ ex d refl }

  pub unsigned_leads : at ≤ length s → is_sign x ≡ false → Leads behind_e exp_digits s at at
  unsigned_leads h d = record { inside = h; same = e_plain s at x _ ex d refl }

  pub zero_leads : x ≡ 0x30 → Leads int behind_int s at (at + 1)
  zero_leads d = record { inside = zero_inside s at x None ex d; same = zero_int s at x _ ex d refl }

  pub digits_lead : (x ≡ 0x30 → ⊥) → is_digit x ≡ true → (e : ℕ) → e ≡ at + 1 + length (run_of is_digit (drop (at + 1) s)) → Leads int behind_int s at e
  digits_lead p d e ee =
      let h : at + 1 ≤ length s = next_inside s at x ex (digit_number x d) in
      record { inside = digits_inside s (at + 1) e ee h; same = digit_int s at x _ ex p d (int_over s (at + 1) e _ ee refl) }

  pub no_digit : is_digit x ≡ false → None ≡ number_from int at (drop at s)
  no_digit d = no_int s at x None ex (λ z. never (let q : true ≡ false = sym (ap is_digit z) ∙ d in cc)) d

-- the same number has the same kind and length
abbrev kind_in : Option Number → ℕ
kind_in (Some v) = v.kind
kind_in None = 0

abbrev len_in : Option Number → ℕ
len_in (Some v) = v.len
len_in None = 0

pub found_same : (k n j m : ℕ) → found k n ≡ found j m → (k ≡ j) × (n ≡ m)
found_same k n j m e = (ap kind_in e, ap len_in e)

-- the token's length, from its place
pub legal_at : (s : List ℕ) (from kind end : ℕ) (v : Option Number) → v ≡ number_from number_kind from (drop from s) → v ≡ found kind end
    → found kind (end - from) ≡ number_at (drop from s)
unfolding number_at number_from
legal_at s from kind end v e f = go (number_kind (number_token (drop from s))) (length (number_token (drop from s))) (sym e ∙ f)
  where
    go : (k n : ℕ) → legal k (from + n) ≡ found kind end → found kind (end - from) ≡ legal k (0 + n)
    go zero n q = never cc
    go (suc k) n q =
        let (a, b) = found_same _ _ _ _ q in
        let d : end - from ≡ 0 + n = omega arith in
        rw (sym a, d)

pub legal_inside : (s : List ℕ) (from kind end : ℕ) (v : Option Number) → v ≡ number_from number_kind from (drop from s) → v ≡ found kind end → from ≤ end
unfolding number_from
legal_inside s from kind end v e f = go (number_kind (number_token (drop from s))) (length (number_token (drop from s))) (sym e ∙ f)
  where
    go : (k n : ℕ) → legal k (from + n) ≡ found kind end → from ≤ end
    go zero n q = never cc
    go (suc k) n q = let (a, b) = found_same _ _ _ _ q in omega arith

pub malformed_at : (s : List ℕ) (from : ℕ) (v : Option Number) → v ≡ number_from number_kind from (drop from s) → v ≡ None → None ≡ number_at (drop from s)
unfolding number_at number_from
malformed_at s from v e f = go (number_kind (number_token (drop from s))) (length (number_token (drop from s))) (sym e ∙ f)
  where
    go : (k n : ℕ) → legal k (from + n) ≡ None → None ≡ legal k (0 + n)
    go zero n q = refl
    go (suc k) n q = never cc
