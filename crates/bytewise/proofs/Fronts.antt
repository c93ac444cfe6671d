-- The front of the data: bytes that stand for themselves, stored one behind another; a block that is stored twice in part changes
-- nothing, and what is stored over from the start is as if it had never been.
-- Assumes nothing.
use mathlib.Core.Path.{◌≡◌, refl, sym, ap, ◌∙◌, subst}
use mathlib.Core.Bool.{Bool, true, false, not}
use mathlib.Core.List.{List, ◌∷◌, ◌++◌}
use Prim.Native.Nat.{ℕ, ◌+◌, ◌-◌, ◌≤◌, ◌<◌}
use native.Mathlib.Omega.{arith}
use borrow.Author.Tests.{not-true, not-false}
use lib.Dec.{lit≤}
use lib.ListN.{length, get_or, take, drop, set, length-drop}
use lib.Seq.{sets, drop-cons, drop-drop, take-add, length-take-le}
use Rattle.prelude.specs.Bytes.{double_quote}
use Rattle.prelude.proofs.Stores.{sets_append, copied, further}
use Rattle.notation.specs.declared.styles.Style.TheVariants.{Json}
use Rattle.utf8.specs.Utf8.{tail}
use Rattle.runs.specs.inner.Blocks.{Running, Alone, AllAlone, AllTripled, Begun, owed}
use Rattle.runs.proofs.LiteralRuns.{here}
use Rattle.runs.proofs.BlockLaws.{over_block}
use Rattle.runs.proofs.ThreeBytes.{over_threes}
use Rattle.bytewise.specs.inner.Bytewise.{Fronted, Onward, owed_at}

one_stored : (s out : List ℕ) (at : ℕ) → at < length s → set out (at + 1) (get_or s at 0) ≡ sets out (at + 1) (take 1 (drop at s))
one_stored s out at h = rw (drop-cons s at 0 h) refl

pub sixteen_stored : (s out o1 o2 : List ℕ) (at : ℕ) → at + 16 ≤ length s → o1 ≡ sets out (at + 1) (take 8 (drop at s)) → o2 ≡ sets o1 (at + 9) (take 8 (drop (at + 8) s))
    → o2 ≡ sets out (at + 1) (take 16 (drop at s))
sixteen_stored s out o1 o2 at h e f =
    f ∙ ap (λ (x : List ℕ). sets x (at + 9) (take 8 (drop (at + 8) s))) e
    ∙ sets_append (take 8 (drop at s)) (take 8 (drop (at + 8) s)) out (at + 1) (at + 9) (omega (arith, length-take-le 8 (drop at s) (rw (length-drop at s) (omega arith))))
    ∙ ap (sets out (at + 1)) (sym (take-add 8 8 (drop at s) ∙ ap (λ (x : List ℕ). take 8 (drop at s) ++ take 8 x) (drop-drop 8 at s)))

module _ (s : List ℕ) where
  -- n bytes more, the first of which may be stored already
  over : (p at n : ℕ) (o out new : List ℕ) → p ≤ at → at ≤ p + n → p + n ≤ length s → out ≡ sets o 0 (double_quote ∷ take at s)
      → new ≡ sets out (p + 1) (take n (drop p s)) → new ≡ sets o 0 (double_quote ∷ take (p + n) s)
  over p at n o out new h l g e f =
      further s (set o 0 double_quote) 0 1 out new at p n (p + n) p (p + 1) h l refl (omega arith) (omega arith) (omega arith) e f

  pub front_none : (o : List ℕ) → Fronted s o 0 (set o 0 double_quote)
  front_none o = record { run = here Json s 0 (omega arith); stored = refl }

  pub front_block : (at n : ℕ) (out new : List ℕ) → at + n ≤ length s → AllAlone double_quote s at n → new ≡ sets out (at + 1) (take n (drop at s)) → Onward s at (at + n) out new
  front_block at n out new h a w o f = record {
    run = over_block Json s 0 double_quote refl n at f.run h a;
    stored = over at at n o out new (omega arith) (omega arith) h f.stored w;
  }

  pub front_one : (at : ℕ) (out : List ℕ) → at < length s → Alone double_quote (get_or s at 0) → Onward s at (at + 1) out (set out (at + 1) (get_or s at 0))
  front_one at out h a =
      front_block at 1 out _ (omega arith) (λ k l. subst (λ (i : ℕ). Alone double_quote (get_or s i 0)) (let z : at ≡ at + k = omega arith in z) a)
      (rw (drop-cons s at 0 h) refl)

  pub front_last : (p at n : ℕ) (out new : List ℕ) → p ≤ at → at ≤ p + n → p + n ≡ length s → AllAlone double_quote s p n → new ≡ sets out (p + 1) (take n (drop p s))
      → Onward s at (length s) out new
  front_last p at n out new h l g a w o f =
      let m : at + (p + n - at) ≡ length s = omega arith in
      let b : AllAlone double_quote s at (p + n - at) = λ k i. subst (λ (j : ℕ). Alone double_quote (get_or s j 0)) (let z : p + (at - p + k) ≡ at + k = omega arith in z) (a (at - p + k) (omega arith)) in
      record {
        run = subst (Running Json s 0) m (over_block Json s 0 double_quote refl (p + n - at) at f.run (omega arith) b);
        stored = over p at n o out new h l (omega arith) f.stored w ∙ ap (λ (i : ℕ). sets o 0 (double_quote ∷ take i s)) g;
      }

  pub onward_then : (a b c : ℕ) (x y z : List ℕ) → Onward s a b x y → Onward s b c y z → Onward s a c x z
  onward_then a b c x y z f g = λ o h. g o (f o h)

  -- a block from p on that holds the place where the front ends, with what belongs to its last byte
  pub front_threes : (p at e : ℕ) (out new : List ℕ) → p ≤ at → at ≤ p + 16 → p + 18 ≤ length s → Begun (get_or s at 0) (get_or s (at + 1) 0) → AllTripled double_quote s p 16
      → (e ≡ p + 16 + owed_at s (p + 16)) × (new ≡ sets out (p + 1) (take (e - p) (drop p s))) → Onward s at e out new
  front_threes p at e out new h l g b a w o f =
      let r : Running Json s 0 e = over_threes Json s 0 double_quote refl p at e f.run h l (omega arith) b a (w.0 ∙ ap (λ (j : ℕ). p + 16 + owed (tail (get_or s (p + 16) 0)) (tail (get_or s j 0))) (let z : p + 16 + 1 ≡ p + 17 = omega arith in z)) in
      let i : e ≤ length s = r.inside in
      let m : p + (e - p) ≡ e = omega (arith, w.0) in
      record {
        run = r;
        stored = over p at (e - p) o out new h (omega (arith, w.0)) (omega (arith, w.0)) f.stored w.1 ∙ ap (λ (j : ℕ). sets o 0 (double_quote ∷ take j s)) m;
      }

-- continuations stored one by one, by whether each is one
pub owed_none : (s out : List ℕ) (at : ℕ) (t : Bool) → t ≡ tail (get_or s at 0) → not t ≡ true
    → (at ≡ at + owed_at s at) × (out ≡ sets out (at + 1) (take (owed_at s at) (drop at s)))
owed_none s out at t f e =
    let z : tail (get_or s at 0) ≡ false = sym f ∙ not-true t e in
    let w : owed_at s at ≡ 0 = rw z refl in rw w (omega arith, refl)

pub owed_one : (s out : List ℕ) (at : ℕ) (t u : Bool) → at < length s → t ≡ tail (get_or s at 0) → not t ≡ false → u ≡ tail (get_or s (at + 1) 0) → not u ≡ true
    → (at + 1 ≡ at + owed_at s at) × (set out (at + 1) (get_or s at 0) ≡ sets out (at + 1) (take (owed_at s at) (drop at s)))
owed_one s out at t u h f e g d =
    let z : tail (get_or s at 0) ≡ true = sym f ∙ not-false t e in
    let y : tail (get_or s (at + 1) 0) ≡ false = sym g ∙ not-true u d in
    let w : owed_at s at ≡ 1 = rw (z, y) refl in rw (w, drop-cons s at 0 h) (refl, refl)

pub owed_two : (s out : List ℕ) (at : ℕ) (t u : Bool) → at + 2 ≤ length s → t ≡ tail (get_or s at 0) → not t ≡ false → u ≡ tail (get_or s (at + 1) 0) → not u ≡ false
    → (at + 2 ≡ at + owed_at s at) × (set (set out (at + 1) (get_or s at 0)) (at + 2) (get_or s (at + 1) 0) ≡ sets out (at + 1) (take (owed_at s at) (drop at s)))
owed_two s out at t u h f e g d =
    let z : tail (get_or s at 0) ≡ true = sym f ∙ not-false t e in
    let y : tail (get_or s (at + 1) 0) ≡ true = sym g ∙ not-false u d in
    let w : owed_at s at ≡ 2 = rw (z, y) refl in
    let a : at + 1 + 1 ≡ at + 2 = omega arith in
    rw w (
      refl,
      ap (λ (j : ℕ). set (set out (at + 1) (get_or s at 0)) j (get_or s (at + 1) 0)) (sym a)
          ∙ ap (λ (l : List ℕ). set l (at + 1 + 1) (get_or s (at + 1) 0)) (one_stored s out at (omega arith)) ∙ copied s out at (at + 1) 1 (omega arith),
    )

-- a block, and what belongs to its last byte
pub through_stored : (s out o1 o2 : List ℕ) (at r : ℕ) → at + 18 ≤ length s → o1 ≡ sets out (at + 1) (take 16 (drop at s))
    → (r ≡ at + 16 + owed_at s (at + 16)) × (o2 ≡ sets o1 (at + 16 + 1) (take (owed_at s (at + 16)) (drop (at + 16) s)))
    → (r ≡ at + 16 + owed_at s (at + 16)) × (o2 ≡ sets out (at + 1) (take (r - at) (drop at s)))
through_stored s out o1 o2 at r h e w =
    let n : ℕ = owed_at s (at + 16) in
    let d : r - at ≡ 16 + n = omega (arith, w.0) in (
      w.0,
      w.1 ∙ ap (λ (x : List ℕ). sets x (at + 16 + 1) (take n (drop (at + 16) s))) e
          ∙ sets_append (take 16 (drop at s)) (take n (drop (at + 16) s)) out (at + 1) (at + 16 + 1) (omega (arith, length-take-le 16 (drop at s) (rw (length-drop at s) (omega arith))))
          ∙ ap (sets out (at + 1)) (sym (ap (λ (j : ℕ). take j (drop at s)) d ∙ take-add 16 n (drop at s) ∙ ap (λ (x : List ℕ). take 16 (drop at s) ++ take n x) (drop-drop 16 at s))),
    )

owed_most : (t u : Bool) → owed t u ≤ 2
owed_most false u = lit≤ tt
owed_most true false = lit≤ tt
owed_most true true = lit≤ tt

pub threes_inside : (s : List ℕ) (p e : ℕ) → p + 18 ≤ length s → e ≡ p + 16 + owed_at s (p + 16) → e ≤ length s
threes_inside s p e h f = omega (arith, owed_most (tail (get_or s (p + 16) 0)) (tail (get_or s (p + 16 + 1) 0)))
