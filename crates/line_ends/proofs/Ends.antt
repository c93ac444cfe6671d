-- The bytes before the first LF, from a place on: byte by byte and by blocks.
-- Assumes nothing.
use Prim.Native.Nat.{ℕ, zero, suc, ◌+◌, ◌≤◌, ◌<◌}
use mathlib.Core.Bool.{true, false}
use mathlib.Core.List.{List, [], ◌∷◌}
use mathlib.Core.Path.{◌≡◌, refl, ap, ◌∙◌}
use native.Mathlib.Omega.{arith}
use borrow.Author.Tests.{eq-eqb, ne_eqb}
use lib.Dec.{eqb}
use lib.ListN.{length, drop, get_or, length-drop}
use lib.Seq.{drop-cons}
use Rattle.prelude.proofs.Cases.{split}
use Rattle.prelude.specs.Bytes.{LF}
use Rattle.prelude.specs.Pick.{pick}
use Rattle.line_ends.specs.inner.Ends.{line_run, NoLf}

pub run_nil : line_run [] ≡ 0
unfolding line_run pick
run_nil = refl

pub run_on : (b : ℕ) (r : List ℕ) → eqb b LF ≡ false → line_run (b ∷ r) ≡ suc (line_run r)
unfolding line_run pick
run_on b r e = rw e

pub run_lf : (b : ℕ) (r : List ℕ) → eqb b LF ≡ true → line_run (b ∷ r) ≡ 0
unfolding line_run pick
run_lf b r e = rw e

pub run_within : (r : List ℕ) → line_run r ≤ length r
run_within [] = omega (arith, run_nil)
run_within (x ∷ r) =
    let h : line_run r ≤ length r = run_within r in
    split (eqb x LF) (λ e. omega (arith, run_lf x r e)) (λ e. omega (arith, run_on x r e))

pub at_on : (s : List ℕ) (i : ℕ) → i < length s → (get_or s i 0 ≡ LF → ⊥) → line_run (drop i s) ≡ suc (line_run (drop (suc i) s))
at_on s i h e = rw (drop-cons s i 0) (run_on (get_or s i 0) (drop (suc i) s) (ne_eqb _ _ e))

pub at_lf : (s : List ℕ) (i : ℕ) → i < length s → get_or s i 0 ≡ LF → line_run (drop i s) ≡ 0
at_lf s i h e = rw (drop-cons s i 0) (run_lf (get_or s i 0) (drop (suc i) s) (eq-eqb _ _ e))

pub at_end_lem : (s : List ℕ) (i : ℕ) → length s ≤ i → line_run (drop i s) ≡ 0
at_end_lem s i h = omega (arith, run_within (drop i s), length-drop i s)

pub run_block : (n : ℕ) (s : List ℕ) (i : ℕ) → i + n ≤ length s → NoLf s i n → line_run (drop i s) ≡ n + line_run (drop (i + n) s)
run_block zero s i h g = omega (arith, ap (λ (k : ℕ). line_run (drop k s)) (let z : i ≡ i + 0 = omega arith in z))
run_block (suc n) s i h g =
    let a : line_run (drop i s) ≡ suc (line_run (drop (suc i) s)) =
    at_on s i (omega arith) (λ e. g 0 (omega arith) (ap (λ (k : ℕ). get_or s k 0) (let z : i + 0 ≡ i = omega arith in z) ∙ e)) in
    let b : line_run (drop (suc i) s) ≡ n + line_run (drop (suc i + n) s) =
    run_block n s (suc i) (omega arith) (λ k l e. g (suc k) (omega arith) (ap (λ (j : ℕ). get_or s j 0) (let z : i + suc k ≡ suc i + k = omega arith in z) ∙ e)) in
    omega (arith, a, b, ap (λ (k : ℕ). line_run (drop k s)) (let z : suc i + n ≡ i + suc n = omega arith in z))

pub run_inside : (p : List ℕ) (i : ℕ) → i ≤ length p → i + line_run (drop i p) ≤ length p
run_inside p i h = omega (arith, run_within (drop i p), length-drop i p)
