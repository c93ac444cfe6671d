-- Runs of plain bytes, by induction on the text: a run goes on at a plain byte and stops at any other, so eight classes or-ed to 0 are
-- eight plain bytes.
-- Assumes nothing.
use mathlib.Core.Path.{◌≡◌, refl, sym, ap, ◌∙◌}
use mathlib.Core.Bool.{true, false}
use mathlib.Core.List.{List, [], ◌∷◌}
use Prim.Native.Nat.{ℕ, zero, suc, ◌+◌, ◌-◌, ◌*◌, ◌/◌, ◌≤◌, ◌<◌}
use native.Mathlib.Omega.{arith}
use borrow.Author.Tests.{eq-eqb, ne_eqb, eqb-true, eqb-false, le-leb, lt-leb, leb-true}
use lib.Dec.{eqb, leb, leb-suc-suc, leb-suc-zero}
use lib.Bits.{bit_or, or_zero_l, or_add_and, and_le_l, and_le_r}
use lib.ListN.{length, get_or, drop, length-drop}
use lib.Seq.{drop-cons, drop-drop}
use Rattle.prelude.proofs.Cases.{split}
use Rattle.prelude.proofs.Picks.{pick_true, pick_false}
use Rattle.utf8.specs.Class.{class_of, plain_run}

pub run_plain : (x : ℕ) (r : List ℕ) → eqb (class_of x) 0 ≡ true → plain_run (x ∷ r) ≡ suc (plain_run r)
unfolding plain_run
run_plain x r e = pick_true (eqb (class_of x) 0) _ _ e

pub run_stop : (x : ℕ) (r : List ℕ) → eqb (class_of x) 0 ≡ false → plain_run (x ∷ r) ≡ 0
unfolding plain_run
run_stop x r e = pick_false (eqb (class_of x) 0) _ _ e

run_nil : plain_run [] ≡ 0
unfolding plain_run
run_nil = refl

pub run_within : (r : List ℕ) → plain_run r ≤ length r
run_within [] = omega (arith, run_nil)
run_within (x ∷ r) =
    let h : plain_run r ≤ length r = run_within r in
    split (eqb (class_of x) 0) (λ e. omega (arith, run_plain x r e)) (λ e. omega (arith, run_stop x r e))

pub run_more : (n : ℕ) (r : List ℕ) → n ≤ plain_run r → plain_run r ≡ n + plain_run (drop n r)
run_more zero r h = omega arith
run_more (suc n) [] h = let z : plain_run [] ≡ 0 = run_nil in absurd (let b : ⊥ = omega arith in b)
run_more (suc n) (x ∷ r) h =
    split (eqb (class_of x) 0)
    (λ e. let f : plain_run (x ∷ r) ≡ suc (plain_run r) = run_plain x r e in
    let g : plain_run r ≡ n + plain_run (drop n r) = run_more n r (omega arith) in omega arith)
    (λ e. let f : plain_run (x ∷ r) ≡ 0 = run_stop x r e in absurd (let b : ⊥ = omega arith in b))

-- at a place of a text
pub at_plain : (s : List ℕ) (i : ℕ) → i < length s → class_of (get_or s i 0) ≡ 0 → plain_run (drop i s) ≡ suc (plain_run (drop (suc i) s))
at_plain s i h e = rw (drop-cons s i 0) (run_plain (get_or s i 0) (drop (suc i) s) (eq-eqb _ _ e))

pub at_stop : (s : List ℕ) (i : ℕ) → i < length s → (class_of (get_or s i 0) ≡ 0 → ⊥) → plain_run (drop i s) ≡ 0
at_stop s i h e = rw (drop-cons s i 0) (run_stop (get_or s i 0) (drop (suc i) s) (ne_eqb _ _ e))

pub at_end_lem : (s : List ℕ) (i : ℕ) → length s ≤ i → plain_run (drop i s) ≡ 0
at_end_lem s i h = omega (arith, run_within (drop i s), length-drop i s)

pub or_zero : (a b : ℕ) → bit_or a b ≡ 0 → (a ≡ 0) × (b ≡ 0)
or_zero a b e = (omega (arith, or_add_and a b, and_le_r a b, and_le_l a b), omega (arith, or_add_and a b, and_le_r a b, and_le_l a b))

-- one more class in front of those or-ed already
pub one_more : (s : List ℕ) (i j k w : ℕ) → j ≡ suc i → i < length s → eqb w 0 ≡ leb k (plain_run (drop j s))
    → eqb (bit_or (class_of (get_or s i 0)) w) 0 ≡ leb (suc k) (plain_run (drop i s))
one_more s i j k w ej h e =
    split (eqb (class_of (get_or s i 0)) 0)
    (λ p. let q : class_of (get_or s i 0) ≡ 0 = eqb-true _ _ p in
    rw (q, or_zero_l w, at_plain s i h q, leb-suc-suc k (plain_run (drop (suc i) s)), ← ej) e)
    (λ p. let q : (class_of (get_or s i 0) ≡ 0 → ⊥) = eqb-false _ _ p in
    rw (at_stop s i h q, leb-suc-zero k) (ne_eqb (bit_or (class_of (get_or s i 0)) w) 0 (λ z. q (or_zero (class_of (get_or s i 0)) w z).0)))

pub last_one : (s : List ℕ) (i : ℕ) → i < length s → eqb (class_of (get_or s i 0)) 0 ≡ leb 1 (plain_run (drop i s))
last_one s i h =
    split (eqb (class_of (get_or s i 0)) 0)
    (λ p. let q : class_of (get_or s i 0) ≡ 0 = eqb-true _ _ p in
    p ∙ sym (le-leb 1 (plain_run (drop i s)) (omega (arith, at_plain s i h q))))
    (λ p. let q : (class_of (get_or s i 0) ≡ 0 → ⊥) = eqb-false _ _ p in
    p ∙ sym (lt-leb 1 (plain_run (drop i s)) (omega (arith, at_stop s i h q))))

pub eight : (s : List ℕ) (i : ℕ) → i + 8 ≤ length s
    → eqb (bit_or (class_of (get_or s i 0)) (bit_or (class_of (get_or s (i + 1) 0)) (bit_or (class_of (get_or s (i + 2) 0)) (bit_or (class_of (get_or s (i + 3) 0)) (bit_or (class_of (get_or s (i + 4) 0)) (bit_or (class_of (get_or s (i + 5) 0)) (bit_or (class_of (get_or s (i + 6) 0)) (class_of (get_or s (i + 7) 0))))))))) 0
    ≡ leb 8 (plain_run (drop i s))
eight s i h =
    one_more s i (i + 1) 7 _ (omega arith) (omega arith)
    (one_more s (i + 1) (i + 2) 6 _ (omega arith) (omega arith)
    (one_more s (i + 2) (i + 3) 5 _ (omega arith) (omega arith)
    (one_more s (i + 3) (i + 4) 4 _ (omega arith) (omega arith)
    (one_more s (i + 4) (i + 5) 3 _ (omega arith) (omega arith)
    (one_more s (i + 5) (i + 6) 2 _ (omega arith) (omega arith)
    (one_more s (i + 6) (i + 7) 1 _ (omega arith) (omega arith)
    (last_one s (i + 7) (omega arith))))))))

-- eight more plain bytes
pub on : (s : List ℕ) (i : ℕ) → leb 8 (plain_run (drop i s)) ≡ true → plain_run (drop i s) ≡ 8 + plain_run (drop (i + 8) s)
on s i e =
    let m : plain_run (drop i s) ≡ 8 + plain_run (drop 8 (drop i s)) = run_more 8 (drop i s) (leb-true _ _ e) in
    m ∙ ap (λ (l : List ℕ). 8 + plain_run l) (drop-drop 8 i s)

-- behind the eights
pub after_eights : (s : List ℕ) (from i : ℕ) → from ≤ length s → i ≡ from + 8 * (plain_run (drop from s) / 8)
    → (i ≤ length s) × (i + plain_run (drop i s) ≡ from + plain_run (drop from s))
after_eights s from i h e =
    let n : ℕ = 8 * (plain_run (drop from s) / 8) in
    let l : n ≤ plain_run (drop from s) = omega arith in
    let w : plain_run (drop from s) ≤ length s - from = rw length-drop at (run_within (drop from s)) in
    let m : plain_run (drop from s) ≡ n + plain_run (drop (from + n) s) = run_more n (drop from s) l ∙ ap (λ (x : List ℕ). n + plain_run x) (drop-drop n from s) in
    (omega arith, rw e (omega arith))
