-- A unit by its first byte, place by place: the definition's decision list at a rest that isn't empty, and the bytes of a literal
-- character, at most four, one by one.
-- Assumes nothing.
use Rattle.std.specs.Prelude.{Option, Some, None, Result, Ok, Err}
use Prim.Native.Nat.{ℕ, zero, suc, ◌+◌, ◌≤◌, ◌<◌}
use mathlib.Core.List.{List, [], ◌∷◌}
use mathlib.Core.Path.{◌≡◌, refl, sym, ap, ◌∙◌}
use native.Mathlib.Omega.{arith}
use native.Mathlib.Numerals.{add-one}
use borrow.Author.Tests.{lt-ltb, le-ltb, eq-eqb, ne_eqb}
use lib.Dec.{ltb, eqb}
use lib.ListN.{length, get_or, take, drop, drop_of_length-le}
use lib.Seq.{drop-cons}
use Rattle.prelude.specs.Bytes.{backslash}
use Rattle.prelude.specs.Pick.{pick}
use Rattle.prelude.specs.declared.refusals.Refusal.{Refusal}
use Rattle.prelude.specs.Refusals.{cut_off, control}
use Rattle.prelude.proofs.Picks.{pick_true, pick_false}
use Rattle.utf8.specs.Utf8.{char_len, char_fault, refused_by, char_by, char_at}
use Rattle.utf8.proofs.Characters.{char_le, char_few}
use Rattle.notation.specs.declared.styles.Style.{Style}
use Rattle.notation.specs.declared.styles.Unit.{Unit as Found}
use Rattle.notation.specs.Styles.{StringUnit, close, took, fault, quote, unit_of, FewOf}
use Rattle.escapes.specs.Escapes.{escape}
use Rattle.units.specs.Units.{literal, unit_at}

good_none : (f : Option Refusal) (n : ℕ) → Ok n ≡ refused_by f → n ≡ 0
good_none (Some bad) n e = absurd (let z : ◌≡◌ {A = ℕ} 0 1 = cc in let f : ⊥ = omega arith in f)
good_none None n e = cc

good_by : (k n : ℕ) (r : List ℕ) → Ok n ≡ char_by k r → n ≡ k
good_by zero n r e = good_none (char_fault r) n e
good_by (suc k) n r e = cc

module _ (r : List ℕ) (n : ℕ) (f : Result ℕ Refusal) (e : f ≡ char_at r) (g : f ≡ Ok n) where
  good_is : n ≡ char_len r
  good_is = good_by (char_len r) n r (sym g ∙ e)

  pub good_few : n ≤ 4
  good_few = omega (arith, good_is, char_few r)

  pub good_inside : n ≤ length r
  good_inside = omega (arith, good_is, char_le r)

  pub literal_good : (l : List ℕ) → l ≡ take n r → took n l ≡ literal (char_at r) r
  literal_good l h = rw (← e, g) (ap (took n) h)

-- a refusal handed on
pub literal_bad : (r : List ℕ) (f : Result ℕ Refusal) → f ≡ char_at r → (m : Refusal) → f ≡ Err m → (u : Result Found Refusal) → u ≡ Err m → (unit_of u ≡ literal (char_at r) r) × FewOf u
literal_bad r f e m g u h = rw (← e, g, h) (refl, tt)

-- k bytes from the place i on, one by one
abbrev reads : ℕ → ℕ → List ℕ → List ℕ
reads zero i r = []
reads (suc k) i r = get_or r i 0 ∷ reads k (suc i) r

front : (k n i : ℕ) (r : List ℕ) → n ≤ k → i + n ≤ length r → take n (reads k i r) ≡ take n (drop i r)
front k zero i r h l = refl
front zero (suc n) i r h l = absurd (let f : ⊥ = omega arith in f)
front (suc k) (suc n) i r h l =
    rw (drop-cons r i 0 (omega arith)) (ap (λ (t : List ℕ). get_or r i 0 ∷ t) (front k n (suc i) r (omega arith) (omega arith)))

pub few_front : (r : List ℕ) (n a b c d : ℕ) → a ≡ get_or r 0 0 → b ≡ get_or r 1 0 → c ≡ get_or r 2 0 → d ≡ get_or r 3 0 → n ≤ 4 → n ≤ length r → take n (a ∷ b ∷ c ∷ d ∷ []) ≡ take n r
few_front r n a b c d ea eb ec ed h l = rw (ea, eb, ec, ed) (front 4 n 0 r h (omega arith))

unit_law : (st : Style) (l : List ℕ) (x : ℕ) (r : List ℕ) → l ≡ x ∷ r → unit_at st l ≡ pick (eqb x (quote st)) close (pick (eqb x backslash) (escape st r) (pick (ltb x 32) (fault control) (literal (char_at l) l)))
unfolding unit_at
unit_law st l x r e = rw e refl

module _ (st : Style) (s : List ℕ) (at : ℕ) where
  pub unit_end : length s ≤ at → fault cut_off ≡ unit_at st (drop at s)
  unfolding unit_at
  unit_end h = rw (drop_of_length-le s h) refl

  module _ (h : at < length s) (q : ℕ) (eq : q ≡ quote st) where
    abbrev x : ℕ
    x = get_or s at 0

    law : unit_at st (drop at s) ≡ pick (eqb x q) close (pick (eqb x backslash) (escape st (drop (at + 1) s)) (pick (ltb x 32) (fault control) (literal (char_at (drop at s)) (drop at s))))
    law = unit_law st (drop at s) x (drop (suc at) s) (drop-cons s at 0 h) ∙ rw (add-one at, eq) refl

    pub unit_close : x ≡ q → close ≡ unit_at st (drop at s)
    unit_close e = sym (law ∙ pick_true _ _ _ (eq-eqb _ _ e))

    module _ (u : StringUnit) (nq : x ≡ q → ⊥) where
      pub unit_escape : x ≡ backslash → u ≡ escape st (drop (at + 1) s) → u ≡ unit_at st (drop at s)
      unit_escape e i = i ∙ sym (law ∙ pick_false _ _ _ (ne_eqb _ _ nq) ∙ pick_true _ _ _ (eq-eqb _ _ e))

      module _ (nb : x ≡ backslash → ⊥) where
        pub unit_control : x < 32 → u ≡ fault control → u ≡ unit_at st (drop at s)
        unit_control e i =
            i ∙ sym (law ∙ pick_false _ _ _ (ne_eqb _ _ nq) ∙ pick_false _ _ _ (ne_eqb _ _ nb) ∙ pick_true _ _ _ (lt-ltb _ _ e))

        pub unit_literal : 32 ≤ x → u ≡ literal (char_at (drop at s)) (drop at s) → u ≡ unit_at st (drop at s)
        unit_literal e i =
            i ∙ sym (law ∙ pick_false _ _ _ (ne_eqb _ _ nq) ∙ pick_false _ _ _ (ne_eqb _ _ nb) ∙ pick_false _ _ _ (le-ltb _ _ e))
