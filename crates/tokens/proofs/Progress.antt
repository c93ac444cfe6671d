-- A token takes a byte, and tokens and blanks end inside the text: by induction on the text, and by the byte that a token begins with.
-- Assumes nothing.
use mathlib.Core.Path.{◌≡◌, refl, subst}
use mathlib.Core.Bool.{Bool, true, false}
use mathlib.Core.List.{List, [], ◌∷◌}
use Prim.Native.Nat.{ℕ, zero, suc, pred, ◌+◌, ◌≤◌, ◌<◌}
use native.Mathlib.Omega.{arith}
use borrow.Author.Tests.{eqb-true}
use lib.Dec.{eqb}
use lib.ListN.{length, drop, length-drop}
use Rattle.std.specs.Prelude.{Option, Some, None, Result, Ok, Err}
use Rattle.prelude.specs.declared.refusals.Refusal.{Refusal}
use Rattle.prelude.specs.declared.refusals.Refused.{Refused}
use Rattle.prelude.specs.Pick.{pick}
use Rattle.prelude.specs.Refusals.{utf8_bad_encoding, utf8_too_large, FromTo}
use Rattle.prelude.proofs.Cases.{split, never}
use Rattle.prelude.proofs.Suffix.{by_suffix}
use Rattle.utf8.specs.Utf8.{char_len, char_by, char_at}
use Rattle.notation.specs.Marks.{opening}
use Rattle.utf8.proofs.Faults.{fault_told}
use Rattle.tokens.specs.declared.numbers.Number.{Number}
use Rattle.tokens.specs.declared.starts.Start.{Start}
use Rattle.tokens.specs.declared.starts.Start.TheVariants.{Ended, String, Word, Number as NumberStart, List as ListStart, Dict, Nothing}
use Rattle.tokens.specs.Blanks.{is_space, Passing, pass, token, fault, in_comment, passing, pass_on, blanks_from, blanks}
use Rattle.tokens.specs.Words.{is_letter, is_digit, is_word, word_of}
use Rattle.tokens.specs.Numbers.{is_number, is_sign, number_token, number_kind, legal, number_from, number_at}
use Rattle.tokens.specs.Starts.{is_opening, start_of}
use Rattle.tokens.proofs.Runs.{run_more, run_le}
use Rattle.tokens.proofs.Skipping.{blanks_skip, good_len}
use Rattle.tokens.proofs.Grammar.{digit_number}

-- behind i bytes, in a text of which s is left
abbrev pub Passed : ℕ → List ℕ → Result ℕ Refused → Type 0
Passed i s (Ok j) = (i ≤ j) × (j ≤ i + length s)
Passed i s (Err f) = ((i ≤ f.place) × (f.place ≤ i + length s)) × FromTo utf8_bad_encoding utf8_too_large f.refusal

abbrev Within : List ℕ → Passing → Type 0
Within s (pass o n) = (0 < n) × (n ≤ length s)
Within s token = Unit
Within s (fault refusal) = FromTo utf8_bad_encoding utf8_too_large refusal

bad_refusal : (s : List ℕ) (refusal : Refusal) → char_at s ≡ Err refusal → FromTo utf8_bad_encoding utf8_too_large refusal
bad_refusal s refusal e = go (char_len s) refl e
  where
    go : (n : ℕ) → char_len s ≡ n → char_by n s ≡ Err refusal → FromTo utf8_bad_encoding utf8_too_large refusal
    go zero l e =
        let (why, (f, r)) = fault_told s l in
        let z : ◌≡◌ {A = Result ℕ Refusal} (Err why) (Err refusal) = rw f at e in
        let q : why ≡ refusal = cc in
        subst (FromTo utf8_bad_encoding utf8_too_large) q r
    go (suc n) l e = never cc

comment_within : (s : List ℕ) (c : Result ℕ Refusal) → char_at s ≡ c → Within s (in_comment c)
comment_within s (Ok n) e = good_len s n e
comment_within s (Err refusal) e = bad_refusal s refusal e

passing_within : (o : Bool) (x : ℕ) (r : List ℕ) → Within (x ∷ r) (passing o x (char_at (x ∷ r)))
unfolding passing pick
passing_within true x r = split (eqb x 0x0a) (λ e. rw e (omega arith, omega arith)) (λ e. rw e (comment_within (x ∷ r) (char_at (x ∷ r)) refl))
passing_within false x r =
    split (is_space x) (λ e. rw e (omega arith, omega arith))
    (λ e. split (eqb x 0x23) (λ d. rw (e, d) (omega arith, omega arith)) (λ d. rw (e, d) tt))

passed_more : (i n : ℕ) (s u : List ℕ) (b : Result ℕ Refused) → n + length u ≤ length s → Passed (i + n) u b → Passed i s b
passed_more i n s u (Ok j) h p = omega arith
passed_more i n s u (Err f) h p = (omega (arith, p.0), p.1)

abbrev AllPassed : List ℕ → Type 0
AllPassed s = (o : Bool) (i : ℕ) → Passed i s (blanks_from o i 0 s)

passed_one : (x : ℕ) (r : List ℕ) → ((k : ℕ) → AllPassed (drop k r)) → AllPassed (x ∷ r)
unfolding blanks_from
passed_one x r ih o i = go (passing o x (char_at (x ∷ r))) (passing_within o x r)
  where
    go : (q : Passing) → Within (x ∷ r) q → Passed i (x ∷ r) (pass_on i q (λ c j k. blanks_from c j k r))
    go (pass c n) h =
        rw (blanks_skip c (i + n) (pred n) r)
        (passed_more i n (x ∷ r) (drop (pred n) r) (blanks_from c (i + n) 0 (drop (pred n) r)) (omega (arith, length-drop (pred n) r)) (ih (pred n) c (i + n)))
    go token h = (omega arith, omega arith)
    go (fault refusal) h = (omega arith, h)

pub blanks_passed : (s : List ℕ) → Passed 0 s (blanks s)
unfolding blanks_from
blanks_passed s = by_suffix AllPassed (λ o i. (omega arith, omega arith)) passed_one s false 0

-- where a token begins, its mark or a byte of it stands
abbrev pub Begun : List ℕ → Start → Type 0
Begun s Ended = length s ≡ 0
Begun s String = is_opening (opening s) ≡ true
Begun s Word = 0 < length (word_of s)
Begun s NumberStart = 0 < length (number_token s)
Begun s ListStart = 0 < length s
Begun s Dict = 0 < length s
Begun s Nothing = Unit

letter_word : (x : ℕ) → is_letter x ≡ true → is_word x ≡ true
unfolding is_word pick
letter_word x e = rw e

minus_number : (x : ℕ) → eqb x 0x2d ≡ true → is_number x ≡ true
unfolding is_number is_sign pick
minus_number x e = rw (eqb-true x 0x2d e)

number_begun : (x : ℕ) (r : List ℕ) → is_number x ≡ true → 0 < length (number_token (x ∷ r))
number_begun x r e = rw (run_more is_number x r e) (omega arith)

pub start_begun : (s : List ℕ) → Begun s (start_of s)
unfolding start_of pick
start_begun [] = refl
start_begun (x ∷ r) =
    split (is_opening (opening (x ∷ r))) (λ a. rw a a)
    (λ a. split (is_letter x) (λ b. rw (a, b, run_more is_word x r (letter_word x b)) (omega arith))
    (λ b. split (is_digit x) (λ d. rw (a, b, d) (number_begun x r (digit_number x d)))
    (λ d. split (eqb x 0x2d) (λ e. rw (a, b, d, e) (number_begun x r (minus_number x e)))
    (λ e. split (eqb x 0x5b) (λ f. rw (a, b, d, e, f) (omega arith))
    (λ f. split (eqb x 0x7b) (λ g. rw (a, b, d, e, f, g) (omega arith)) (λ g. rw (a, b, d, e, f, g) tt))))))

-- a legal number is its token
abbrev pub Sized : List ℕ → Option Number → Type 0
Sized s (Some v) = (v.len ≡ length (number_token s)) × (v.len ≤ length s)
Sized s None = Unit

pub number_sized : (s : List ℕ) → Sized s (number_at s)
unfolding number_at number_from
number_sized s = go (number_kind (number_token s))
  where
    go : (k : ℕ) → Sized s (legal k (0 + length (number_token s)))
    go zero = tt
    go (suc k) = (omega arith, omega (arith, run_le is_number s))
