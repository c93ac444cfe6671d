-- A text with a line for each number: a computed test goes through the lines, and a law turns it into each number's sentence. The rows, the text
-- and the number of its lines are all that a new sentence changes.
-- Assumes nothing.
use Prim.Native.Nat.{ℕ, zero, suc, ◌+◌, ◌-◌, ◌≤◌, ◌<◌}
use mathlib.Core.Bool.{Bool, true, false, ◌&&◌}
use mathlib.Core.List.{List, [], ◌∷◌}
use mathlib.Core.Path.{◌≡◌, refl, sym, ap, ◌∙◌}
use native.Mathlib.Numerals.{add-one}
use native.Mathlib.Omega.{arith}
use borrow.Author.Tests.{eq-eqb, ne_eqb, eqb-true, ltb-true}
use lib.Dec.{ltb, eqb}
use lib.ListN.{length, get_or, take, drop, drop_of_length-le}
use lib.Seq.{drop-cons}
use Rattle.prelude.proofs.Cases.{split, never, and_left, and_right}
use Rattle.prelude.proofs.Picks.{pick_true, pick_false}
use Rattle.prelude.specs.Bytes.{ascii, LF}
use Rattle.prelude.specs.Pick.{pick}
use Rattle.line_ends.specs.inner.Ends.{line_run}
use Rattle.sentences.specs.Sentences.{Row, rows, unknown, sentence_in, sentence}
use Rattle.sentences.specs.inner.Lines.{from_line, first_line, line_of}

-- a text behind its first line
abbrev behind : List ℕ → List ℕ
behind [] = []
behind (x ∷ s) = pick (eqb x LF) s (behind s)

-- some words are the first line of a text, and LF stands behind them
abbrev opens : List ℕ → List ℕ → Bool
opens w [] = false
opens [] (x ∷ s) = eqb x LF
opens (c ∷ w) (x ∷ s) = pick (eqb x LF) false (eqb x c) && opens w s

-- every row has a number below k
abbrev under : ℕ → List Row → Bool
under k [] = true
under k (r ∷ rs) = ltb r.number k && under k rs

-- the lines of a text, so many, are the sentences of the numbers from k on, and nothing is left: no line, and no row
abbrev listed : ℕ → ℕ → List Row → List ℕ → Bool
listed zero k rs [] = under k rs
listed zero k rs (x ∷ s) = false
listed (suc c) k rs s = opens (sentence_in rs k) s && listed c (suc k) rs (behind s)

-- a byte of words is none of LF
same_byte : (x c : ℕ) → pick (eqb x LF) false (eqb x c) ≡ true → (eqb x LF ≡ false) × (x ≡ c)
same_byte x c e =
    split (eqb x LF)
    (λ q. never (let z : false ≡ true = sym (pick_true _ _ _ q) ∙ e in cc))
    (λ q. (q, eqb-true x c (sym (pick_false _ _ _ q) ∙ e)))

opened : (w s : List ℕ) → opens w s ≡ true → first_line s ≡ w
unfolding line_run
opened w [] e = never (let z : false ≡ true = e in cc)
opened [] (x ∷ s) e = ap (λ (n : ℕ). take n (x ∷ s)) (pick_true _ _ _ e)
opened (c ∷ w) (x ∷ s) e =
    let f = same_byte x c (and_left (pick (eqb x LF) false (eqb x c)) (opens w s) e) in
    let g : first_line s ≡ w = opened w s (and_right (pick (eqb x LF) false (eqb x c)) (opens w s) e) in
    ap (λ (n : ℕ). take n (x ∷ s)) (pick_false _ _ _ f.0) ∙ (λ i. f.1 i ∷ g i)

-- line n + 1 is line n behind the first
passed : (other w s : List ℕ) (n : ℕ) → opens w s ≡ true → from_line other s (suc n) ≡ from_line other (behind s) n
unfolding from_line
passed other w [] n e = never (let z : false ≡ true = e in cc)
passed other [] (x ∷ s) n e = pick_true _ _ _ e ∙ ap (λ (t : List ℕ). from_line other t n) (sym (pick_true _ _ _ e))
passed other (c ∷ w) (x ∷ s) n e =
    let f = same_byte x c (and_left (pick (eqb x LF) false (eqb x c)) (opens w s) e) in
    pick_false _ _ _ f.0 ∙ passed other w s n (and_right (pick (eqb x LF) false (eqb x c)) (opens w s) e)
    ∙ ap (λ (t : List ℕ). from_line other t n) (sym (pick_false _ _ _ f.0))

first : (other w s : List ℕ) → opens w s ≡ true → from_line other s 0 ≡ s
unfolding from_line
first other w [] e = never (let z : false ≡ true = e in cc)
first other w (x ∷ s) e = refl

unsaid : (rs : List Row) (k n : ℕ) → under k rs ≡ true → k ≤ n → sentence_in rs n ≡ ascii unknown
unfolding sentence_in
unsaid [] k n e h = refl
unsaid (r ∷ rs) k n e h =
    let l = ltb-true r.number k (and_left (ltb r.number k) (under k rs) e) in
    pick_false _ _ _ (ne_eqb n r.number (λ z. omega (arith, z))) ∙ unsaid rs k n (and_right (ltb r.number k) (under k rs) e) h

listed_line : (other : List ℕ) → opens (ascii unknown) other ≡ true → (rs : List Row) (c : ℕ) (s : List ℕ) (k n : ℕ) → listed c k rs s ≡ true
    → sentence_in rs (k + n) ≡ first_line (from_line other s n)
unfolding from_line
listed_line other u rs zero [] k n e = unsaid rs k (k + n) e (omega arith) ∙ sym (opened (ascii unknown) other u)
listed_line other u rs zero (x ∷ s) k n e = never (let z : false ≡ true = e in cc)
listed_line other u rs (suc c) s k zero e =
    let w = and_left (opens (sentence_in rs k) s) _ e in
    ap (sentence_in rs) (let z : k + 0 ≡ k = omega arith in z) ∙ sym (opened (sentence_in rs k) s w) ∙ ap first_line (sym (first other (sentence_in rs k) s w))
listed_line other u rs (suc c) s k (suc n) e =
    ap (sentence_in rs) (let z : k + suc n ≡ suc k + n = omega arith in z)
    ∙ listed_line other u rs c (behind s) (suc k) n (and_right (opens (sentence_in rs k) s) _ e)
    ∙ ap first_line (sym (passed other (sentence_in rs k) s n (and_left (opens (sentence_in rs k) s) _ e)))

-- each number's sentence, where the first line is that of the numbers that no row has
pub sentence_line : (c : ℕ) (s : List ℕ) → opens (ascii unknown) s && listed c 0 rows s ≡ true → (n : ℕ) → sentence n ≡ line_of s n
sentence_line c s e n =
    ap sentence (let z : n ≡ 0 + n = omega arith in z)
    ∙ listed_line s (and_left (opens (ascii unknown) s) _ e) rows c s 0 n (and_right (opens (ascii unknown) s) _ e)

-- line n is looked for: it is the line of those that are left, from i on
pub record Looking (s : List ℕ) (n left i : ℕ) : Type 0 where
  pub inside : i ≤ length s
  pub same : from_line s s n ≡ from_line s (drop i s) left

pub looking_first : (s : List ℕ) (n : ℕ) → Looking s n n 0
looking_first s n = record { inside = omega arith; same = refl }

module _ (s : List ℕ) (n left i : ℕ) (l : Looking s n left i) where
  pub looking_end : length s ≤ i → drop 0 s ≡ from_line s s n
  unfolding from_line
  looking_end h = sym (l.same ∙ ap (λ (t : List ℕ). from_line s t left) (drop_of_length-le s h))

  module _ (h : i < length s) where
    here : drop i s ≡ get_or s i 0 ∷ drop (i + 1) s
    here = rw add-one (drop-cons s i 0 h)

    pub looking_found : left ≡ 0 → drop i s ≡ from_line s s n
    unfolding from_line
    looking_found z = sym (l.same ∙ ap (from_line s (drop i s)) z ∙ ap (λ (t : List ℕ). from_line s t 0) here ∙ sym here)

    module _ (f : left ≡ 0 → ⊥) where
      step : from_line s s n ≡ pick (eqb (get_or s i 0) LF) (from_line s (drop (i + 1) s) (left - 1)) (from_line s (drop (i + 1) s) (suc (left - 1)))
      unfolding from_line
      step =
          let e : left ≡ suc (left - 1) = omega (arith, f) in
          l.same ∙ ap (from_line s (drop i s)) e ∙ ap (λ (t : List ℕ). from_line s t (suc (left - 1))) here

      pub looking_line : get_or s i 0 ≡ LF → Looking s n (left - 1) (i + 1)
      looking_line e = record { inside = omega arith; same = step ∙ pick_true _ _ _ (eq-eqb _ LF e) }

      pub looking_byte : (get_or s i 0 ≡ LF → ⊥) → Looking s n left (i + 1)
      looking_byte g =
          let e : suc (left - 1) ≡ left = omega (arith, f) in
          record { inside = omega arith; same = step ∙ pick_false _ _ _ (ne_eqb _ LF g) ∙ ap (from_line s (drop (i + 1) s)) e }

-- the bytes from one place to the other are the line
pub line_between : (s : List ℕ) (n at end : ℕ) → drop at s ≡ from_line s s n → end ≡ at + line_run (drop at s) → take (end - at) (drop at s) ≡ line_of s n
line_between s n at end e f =
    let k : end - at ≡ line_run (drop at s) = omega (arith, f) in
    ap (λ (m : ℕ). take m (drop at s)) k ∙ ap first_line e
