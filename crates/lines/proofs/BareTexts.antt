-- The bare check in a loop: what is found from a place on is what is found in the whole, a character at a time.
-- Assumes nothing.
use mathlib.Core.Path.{◌≡◌, refl, sym, ap, ◌∙◌}
use mathlib.Core.List.{List, [], ◌∷◌}
use Prim.Native.Nat.{ℕ, zero, suc, ◌+◌, ◌≤◌, ◌<◌}
use native.Mathlib.Omega.{arith}
use borrow.Author.Tests.{lt-ltb, le-ltb, ltb-true, ltb-false, eq-eqb, ne_eqb}
use lib.Dec.{ltb, eqb}
use lib.ListN.{length, get_or, drop, length-drop, drop_of_length-le}
use lib.Seq.{drop-drop, drop-cons}
use Rattle.prelude.specs.Pick.{pick}
use Rattle.prelude.proofs.Cases.{split, never}
use Rattle.utf8.specs.Class.{class_of}
use Rattle.std.specs.Prelude.{⊤, Some, None, Result, Ok, Err}
use Rattle.prelude.specs.declared.refusals.Refusal.{Refusal}
use Rattle.prelude.specs.declared.refusals.Refused.{Refused}
use Rattle.prelude.specs.Refusals.{control, refused_at}
use Rattle.utf8.specs.Utf8.{char_len, char_fault, refused_by, char_by, char_at}
use Rattle.utf8.proofs.ByteClasses.{by_byte_lem}
use Rattle.utf8.proofs.CharSteps.{one_byte}
use Rattle.utf8.proofs.Characters.{char_le}
use Rattle.utf8.proofs.Faults.{fault_told}
use Rattle.notation.specs.declared.styles.Style.{Style}
use Rattle.notation.specs.Literals.{literal_run}
use Rattle.runs.specs.inner.Blocks.{Running}
use Rattle.runs.proofs.LiteralRuns.{here}
use Rattle.notation.proofs.LiteralLaws.{literal_char, literal_printed, by_run, run_fits}
use Rattle.lines.specs.Line.{bare_fault, bare_from, bare}

pub bare_skip : (p k : ℕ) (s : List ℕ) → bare_from p k s ≡ bare_from p 0 (drop k s)
unfolding bare_from
bare_skip p zero s = refl
bare_skip p (suc k) [] = refl
bare_skip p (suc k) (x ∷ r) = bare_skip p k r

-- a control has class 1, and nothing else has
class_control : (x : ℕ) → ◌≡◌ {A = ℕ} (pick (eqb (class_of x) 1) 1 0) (pick (ltb x 32) 1 0)
unfolding pick class_of
class_control =
    by_byte_lem (λ k. pick (eqb k 1) 1 0) (λ b. pick (ltb b 32) 1 0) refl (λ a h. rw (le-ltb a 32 (omega arith)))

is_control : (x : ℕ) → class_of x ≡ 1 → x < 32
unfolding pick
is_control x e =
    split (ltb x 32) (λ b. ltb-true x 32 b)
    (λ b. let z : ◌≡◌ {A = ℕ} 1 0 = rw (eq-eqb (class_of x) 1 e, b) at (class_control x) in absurd (omega arith))

no_control : (x : ℕ) → (class_of x ≡ 1 → ⊥) → 32 ≤ x
unfolding pick
no_control x e =
    split (ltb x 32)
    (λ b. let z : ◌≡◌ {A = ℕ} 0 1 = rw (ne_eqb (class_of x) 1 e, b) at (class_control x) in absurd (omega arith))
    (λ b. ltb-false x 32 b)

-- a character that may stand
fine : (x n : ℕ) (s : List ℕ) → (n ≡ 0 → ⊥) → (x < 32 → x ≡ 9) → bare_fault x (char_by n s) ≡ None
unfolding bare_fault pick
fine x zero s h g = absurd (h refl)
fine x (suc n) s h g =
    split (ltb x 32) (λ b. simp (b, eq-eqb x 9 (g (ltb-true x 32 b)))) (λ b. rw b)

bare_good : (p n : ℕ) (s : List ℕ) → 0 < length s → char_len s ≡ n → (n ≡ 0 → ⊥) → (get_or s 0 0 < 32 → get_or s 0 0 ≡ 9)
    → bare_from p 0 s ≡ bare_from (p + n) 0 (drop n s)
unfolding bare_from
bare_good p n [] h e z g = absurd (omega arith)
bare_good p zero (x ∷ r) h e z g = absurd (z refl)
bare_good p (suc n) (x ∷ r) h e z g = rw (e, fine x (suc n) (x ∷ r) z g) (bare_skip (p + suc n) n r)

-- what the check answers
good_is : (s : List ℕ) (n : ℕ) → char_at s ≡ Ok n → (char_len s ≡ n) × (n ≡ 0 → ⊥)
good_is s n e = go (char_len s) refl e
  where
    go : (m : ℕ) → char_len s ≡ m → char_by m s ≡ Ok n → (char_len s ≡ n) × (n ≡ 0 → ⊥)
    go zero z w = let (fault, (q, b)) = fault_told s z in let y : Err fault ≡ Ok n = sym (ap refused_by q) ∙ w in never (cc)
    go (suc m) z w = let y : suc m ≡ n = cc in (z ∙ y, λ q. omega (arith, y, q))

bad_is : (s : List ℕ) (refusal : Refusal) → char_at s ≡ Err refusal → (char_len s ≡ 0) × (char_fault s ≡ Some refusal)
bad_is s refusal e = go (char_len s) refl e
  where
    go : (m : ℕ) → char_len s ≡ m → char_by m s ≡ Err refusal → (char_len s ≡ 0) × (char_fault s ≡ Some refusal)
    go zero z w =
        let (fault, (q, b)) = fault_told s z in
        let y : ◌≡◌ {A = Result ℕ Refusal} (Err fault) (Err refusal) = sym (ap refused_by q) ∙ w in
        let f : fault ≡ refusal = cc in (z, q ∙ ap Some f)
    go (suc m) z w = never (cc)

-- a fault is the character's own
pub bare_stuck : (p : ℕ) (s : List ℕ) (fault : Refusal) → 0 < length s → char_len s ≡ 0 → char_fault s ≡ Some fault → 32 ≤ get_or s 0 0
    → bare_from p 0 s ≡ Err (refused_at fault p)
unfolding bare_from bare_fault pick
bare_stuck p [] fault h e q g = absurd (omega arith)
bare_stuck p (x ∷ r) fault h e q g = simp (e, q, le-ltb x 32 g)

bare_control : (p : ℕ) (s : List ℕ) → 0 < length s → get_or s 0 0 < 32 → (get_or s 0 0 ≡ 9 → ⊥) → bare_from p 0 s ≡ Err (refused_at control p)
unfolding bare_from bare_fault pick
bare_control p [] h l g = absurd (omega arith)
bare_control p (x ∷ r) h l g = simp (lt-ltb x 32 l, ne_eqb x 9 g)

-- literal characters in front are taken off
run_bare : (st : Style) (s : List ℕ) (p : ℕ) → bare_from p 0 s ≡ bare_from (p + literal_run st 0 s) 0 (drop (literal_run st 0 s) s)
run_bare st =
    by_run st (λ s n. (p : ℕ) → bare_from p 0 s ≡ bare_from (p + n) 0 (drop n s))
    (λ s e p. ap (λ (q : ℕ). bare_from q 0 s) (let z : p ≡ p + 0 = omega arith in z))
    (λ s n m e f h p.
    let l : 32 ≤ get_or s 0 0 = literal_printed st s n e in
    let q : p + suc n + m ≡ p + (suc n + m) = omega arith in
    bare_good p (suc n) s (omega arith) (literal_char st s n e) (λ z. omega arith) (λ g. absurd (omega arith)) ∙ h (p + suc n)
    ∙ (λ i. bare_from (q i) 0 (drop-drop m (suc n) s i)))

module _ (st : Style) (s : List ℕ) (at : ℕ) (r : Running st s 0 at) where
  -- a run that reaches the end
  pub all_run : at ≡ length s → literal_run st 0 s ≡ length s
  unfolding literal_run
  all_run e = omega (arith, rw (drop_of_length-le s {i = at} (omega arith)) at r.same)

  pub run_fine : at ≡ length s → Ok tt ≡ bare s
  unfolding bare bare_from
  run_fine e = sym (run_bare st s 0 ∙ rw (all_run e, drop_of_length-le s {i = length s} (omega arith)))

  pub run_inside : (e : ℕ) → e ≡ at + literal_run st 0 (drop at s) → e ≤ length s
  run_inside e h = omega (arith, r.same, run_fits st s)

  pub behind_run : (e : ℕ) (c : Result ⊤ Refused) → e ≡ at + literal_run st 0 (drop at s) → c ≡ bare_from e 0 (drop e s) → c ≡ bare s
  unfolding bare
  behind_run e c h g =
      let z : e ≡ 0 + literal_run st 0 s = omega (arith, r.same) in
      let y : e ≡ literal_run st 0 s = omega (arith, r.same) in
      g ∙ (λ i. bare_from (z i) 0 (drop (y i) s)) ∙ sym (run_bare st s 0)

-- the run from the first byte on
pub whole_inside : (st : Style) (s : List ℕ) (e : ℕ) → e ≡ 0 + literal_run st 0 (drop 0 s) → e ≤ length s
whole_inside st s e h = run_inside st s 0 (here st s 0 (omega arith)) e h

pub behind_whole : (st : Style) (s : List ℕ) (e : ℕ) (c : Result ⊤ Refused) → e ≡ 0 + literal_run st 0 (drop 0 s) → c ≡ bare_from e 0 (drop e s) → c ≡ bare s
behind_whole st s = behind_run st s 0 (here st s 0 (omega arith))

-- the loop's invariant at a place
pub record Passing (s : List ℕ) (from at : ℕ) : Type 0 where
  pub inside : at ≤ length s
  pub same : bare_from from 0 (drop from s) ≡ bare_from at 0 (drop at s)

pub begun : (s : List ℕ) (from : ℕ) → from ≤ length s → Passing s from from
begun s from h = record { inside = h; same = refl }

module _ (s : List ℕ) (from at : ℕ) (i : Passing s from at) where
  pub ended : length s ≤ at → Ok tt ≡ bare_from from 0 (drop from s)
  unfolding bare_from
  ended h = sym (i.same ∙ ap (bare_from at 0) (drop_of_length-le s h))

  module _ (h : at < length s) where
    some : 0 < length (drop at s)
    some = omega (arith, length-drop at s)

    first : get_or (drop at s) 0 0 ≡ get_or s at 0
    first = rw (drop-cons s at 0 h)

    moved : (n : ℕ) → char_len (drop at s) ≡ n → (n ≡ 0 → ⊥) → (get_or s at 0 < 32 → get_or s at 0 ≡ 9) → Passing s from (at + n)
    moved n e p g = record {
      inside = omega (arith, char_le (drop at s), length-drop at s, i.inside);
      same = i.same ∙ bare_good at n (drop at s) some e p (λ l. first ∙ g (omega (arith, first))) ∙ ap (bare_from (at + n) 0) (drop-drop n at s);
    }

    stuck : (fault : Refusal) → char_fault (drop at s) ≡ Some fault → char_len (drop at s) ≡ 0 → 32 ≤ get_or s at 0
        → Err (refused_at fault at) ≡ bare_from from 0 (drop from s)
    stuck fault q e g = sym (i.same ∙ bare_stuck at (drop at s) fault some e q (omega (arith, first)))

    controlled : get_or s at 0 < 32 → (get_or s at 0 ≡ 9 → ⊥) → Err (refused_at control at) ≡ bare_from from 0 (drop from s)
    controlled l g = sym (i.same ∙ bare_control at (drop at s) some (omega (arith, first)) (λ z. g (sym first ∙ z)))

    -- the loop's turns, way by way
    module _ (k : ℕ) (ek : k ≡ class_of (get_or s at 0)) where
      class_over : 5 ≤ k → 32 ≤ get_or s at 0
      class_over l = no_control (get_or s at 0) (λ z. omega arith)

      pub plain_on : k < 5 → (k ≡ 1 → ⊥) → Passing s from (at + 1)
      plain_on l g =
          let m : 32 ≤ get_or s at 0 = no_control (get_or s at 0) (λ z. g (ek ∙ z)) in
          moved 1 (one_byte s at k h ek l) (λ z. omega arith) (λ z. absurd (omega arith))

      pub tab_on : k < 5 → get_or s at 0 ≡ 9 → Passing s from (at + 1)
      tab_on l g = moved 1 (one_byte s at k h ek l) (λ z. omega arith) (λ z. g)

      pub control_stop : k ≡ 1 → (get_or s at 0 ≡ 9 → ⊥) → Err (refused_at control at) ≡ bare_from from 0 (drop from s)
      control_stop l g = controlled (is_control (get_or s at 0) (sym ek ∙ l)) g

      module _ (l : 5 ≤ k) where
        pub good_on : (n : ℕ) → Ok n ≡ char_at (drop at s) → Passing s from (at + n)
        good_on n e =
            let (g, p) = good_is (drop at s) n (sym e) in
            let m : 32 ≤ get_or s at 0 = class_over l in
            moved n g p (λ q. absurd (omega arith))

        pub further : (n : ℕ) → Ok n ≡ char_at (drop at s) → 0 < n
        further n e = let (g, p) = good_is (drop at s) n (sym e) in omega (arith, p)

        pub bad_stop : (fault : Refusal) → Err fault ≡ char_at (drop at s) → Err (refused_at fault at) ≡ bare_from from 0 (drop from s)
        bad_stop fault e = let (g, q) = bad_is (drop at s) fault (sym e) in stuck fault q g (class_over l)
