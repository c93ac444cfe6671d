-- Skipping in a loop: what is skipped from a place on, in an open comment or not, is what is skipped from the start; each turn passes
-- the whitespace, the mark or the character that the definition passes.
-- Assumes nothing.
use mathlib.Core.Path.{◌≡◌, refl, sym, ap, ◌∙◌}
use mathlib.Core.Bool.{Bool, true, false}
use mathlib.Core.List.{List, [], ◌∷◌}
use Prim.Native.Nat.{ℕ, zero, suc, ◌+◌, ◌-◌, ◌≤◌, ◌<◌}
use native.Mathlib.Omega.{arith}
use borrow.Author.Tests.{ne_eqb}
use lib.ListN.{length, get_or, drop, length-drop, drop_of_length-le}
use lib.Seq.{drop-cons, drop-drop}
use Rattle.std.specs.Prelude.{Result, Ok, Err}
use Rattle.prelude.specs.declared.refusals.Refusal.{Refusal}
use Rattle.prelude.specs.Pick.{pick}
use Rattle.prelude.specs.Refusals.{refused_at}
use Rattle.prelude.proofs.Cases.{never}
use Rattle.utf8.specs.Class.{class_of}
use Rattle.utf8.specs.Utf8.{char_len, char_by, char_at}
use Rattle.utf8.proofs.CharSteps.{is_one}
use Rattle.utf8.proofs.Characters.{char_le}
use Rattle.utf8.proofs.Faults.{fault_told}
use Rattle.tokens.specs.Blanks.{is_space, pass, token, fault, passing, blanks_from, blanks}

pub blanks_skip : (o : Bool) (i k : ℕ) (s : List ℕ) → blanks_from o i k s ≡ blanks_from o i 0 (drop k s)
unfolding blanks_from
blanks_skip o i zero s = refl
blanks_skip o i (suc k) [] = refl
blanks_skip o i (suc k) (x ∷ r) = blanks_skip o i k r

-- one step, by what stands first
pub step_pass : (o b : Bool) (i n : ℕ) (s : List ℕ) → 0 < length s → 0 < n → passing o (get_or s 0 0) (char_at s) ≡ pass b n
    → blanks_from o i 0 s ≡ blanks_from b (i + n) 0 (drop n s)
unfolding blanks_from
step_pass o b i n [] l h e = absurd (omega arith)
step_pass o b i zero (x ∷ r) l h e = absurd (omega arith)
step_pass o b i (suc k) (x ∷ r) l h e = rw e (blanks_skip b (i + suc k) k r)

step_token : (o : Bool) (i : ℕ) (s : List ℕ) → 0 < length s → passing o (get_or s 0 0) (char_at s) ≡ token → blanks_from o i 0 s ≡ Ok i
unfolding blanks_from
step_token o i [] l e = refl
step_token o i (x ∷ r) l e = rw e

step_fault : (o : Bool) (i : ℕ) (refusal : Refusal) (s : List ℕ) → 0 < length s → passing o (get_or s 0 0) (char_at s) ≡ fault refusal → blanks_from o i 0 s ≡ Err (refused_at refusal i)
unfolding blanks_from
step_fault o i refusal [] l e = absurd (omega arith)
step_fault o i refusal (x ∷ r) l e = rw e

-- a character that stands has a length, and stands inside
pub good_len : (s : List ℕ) (n : ℕ) → char_at s ≡ Ok n → (0 < n) × (n ≤ length s)
good_len s n e = go (char_len s) refl e (char_le s)
  where
    go : (k : ℕ) → char_len s ≡ k → char_by k s ≡ Ok n → k ≤ length s → (0 < n) × (n ≤ length s)
    go zero l e h =
        let (why, (f, r)) = fault_told s l in
        let z : ◌≡◌ {A = Result ℕ Refusal} (Err why) (Ok n) = rw f at e in never cc
    go (suc k) l e h = let q : suc k ≡ n = cc in (omega arith, omega arith)

-- where the length isn't 0, the check gives it
good_of : (s : List ℕ) (n : ℕ) → n ≡ char_len s → (n ≡ 0 → ⊥) → char_at s ≡ Ok n
good_of s zero e h = absurd (h refl)
good_of s (suc n) e h = rw (← e)

pub comment_further : (s : List ℕ) (at n : ℕ) → char_at (drop at s) ≡ Ok n → 0 < n
comment_further s at n e = (good_len (drop at s) n e).0

-- the loop's invariant
pub record Skipping (s : List ℕ) (from at : ℕ) (o : Bool) : Type 0 where
  pub onward : from ≤ at
  pub inside : at ≤ length s
  pub same : blanks (drop from s) ≡ blanks_from o (at - from) 0 (drop at s)

pub begun : (s : List ℕ) (from : ℕ) → from ≤ length s → Skipping s from from false
begun s from h = record { onward = omega arith; inside = h; same = ap (λ (n : ℕ). blanks_from false n 0 (drop from s)) (let z : 0 ≡ from - from = omega arith in z) }

module _ (s : List ℕ) (from at : ℕ) (o : Bool) (i : Skipping s from at o) where
  pub ended : length s ≤ at → Ok (at - from) ≡ blanks (drop from s)
  unfolding blanks_from
  ended h = sym (i.same ∙ ap (blanks_from o (at - from) 0) (drop_of_length-le s h))

  module _ (h : at < length s) where
    first : get_or (drop at s) 0 0 ≡ get_or s at 0
    first = rw (drop-cons s at 0 h)

    some : 0 < length (drop at s)
    some = omega (arith, length-drop at s)

    moved : (b : Bool) (n : ℕ) → 0 < n → at + n ≤ length s → passing o (get_or s at 0) (char_at (drop at s)) ≡ pass b n → Skipping s from (at + n) b
    moved b n p l e =
        let z : at - from + n ≡ at + n - from = omega (arith, i.onward) in
        record {
          onward = omega (arith, i.onward);
          inside = l;
          same = i.same ∙ step_pass o b (at - from) n (drop at s) some p (rw first e) ∙ rw (z, drop-drop n at s);
        }

    module _ (inside : o ≡ true) where
      pub comment_end : get_or s at 0 ≡ 10 → Skipping s from (at + 1) false
      unfolding passing pick
      comment_end e = moved false 1 (omega arith) (omega arith) (rw (inside, e))

      pub comment_char : (get_or s at 0 ≡ 10 → ⊥) → (n : ℕ) → char_at (drop at s) ≡ Ok n → Skipping s from (at + n) o
      unfolding passing pick
      comment_char ne n e =
          let g : (0 < n) × (n ≤ length (drop at s)) = good_len (drop at s) n e in
          moved o n g.0 (omega (arith, g.1, length-drop at s)) (rw (inside, e, ne_eqb (get_or s at 0) 10 ne))

      pub comment_plain : (get_or s at 0 ≡ 10 → ⊥) → (k : ℕ) → k ≡ class_of (get_or s at 0) → k ≡ 0 → Skipping s from (at + 1) o
      comment_plain ne k ek z = comment_char ne 1 (sym (is_one s at k h ek (omega arith)))

      pub comment_long : (get_or s at 0 ≡ 10 → ⊥) → (n : ℕ) → n ≡ char_len (drop at s) → (n ≡ 0 → ⊥) → Skipping s from (at + n) o
      comment_long ne n e z = comment_char ne n (good_of (drop at s) n e z)

      pub comment_ill : (get_or s at 0 ≡ 10 → ⊥) → (refusal : Refusal) → char_at (drop at s) ≡ Err refusal → Err (refused_at refusal (at - from)) ≡ blanks (drop from s)
      unfolding passing pick
      comment_ill ne refusal e =
          sym (i.same ∙ step_fault o (at - from) refusal (drop at s) some (rw (first, inside, e, ne_eqb (get_or s at 0) 10 ne)))

    module _ (outside : o ≡ false) where
      pub space_on : is_space (get_or s at 0) ≡ true → Skipping s from (at + 1) o
      unfolding passing pick
      space_on e = moved o 1 (omega arith) (omega arith) (rw (outside, e))

      module _ (no_space : is_space (get_or s at 0) ≡ false) where
        pub mark_on : get_or s at 0 ≡ 35 → Skipping s from (at + 1) true
        unfolding passing pick
        mark_on e = moved true 1 (omega arith) (omega arith) (rw (outside, no_space, e))

        pub token_here : (get_or s at 0 ≡ 35 → ⊥) → Ok (at - from) ≡ blanks (drop from s)
        unfolding passing pick
        token_here ne = sym (i.same ∙ step_token o (at - from) (drop at s) some (rw (first, outside, no_space, ne_eqb (get_or s at 0) 35 ne)))
