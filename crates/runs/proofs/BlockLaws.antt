-- Blocks of literal characters: what a byte's test leaves makes it a character, alone or with the next byte, and by induction on
-- the number of bytes tested a run goes on behind them.
-- Assumes nothing.
use Prim.Native.Nat.{ℕ, zero, suc, ◌+◌, ◌-◌, ◌≤◌, ◌<◌}
use mathlib.Core.Bool.{Bool, true, false, ◌||◌, not, beq}
use mathlib.Core.List.{List, ◌∷◌}
use mathlib.Core.Path.{◌≡◌, refl, sym, ap, ◌∙◌, subst}
use native.Mathlib.Omega.{arith}
use lib.Dec.{ltb, leb, eqb}
use lib.ListN.{length, get_or, drop}
use lib.Seq.{drop-cons, get_or-drop}
use borrow.Author.Count.{below_more}
use borrow.Author.Tests.{ltb-true, ltb-false, leb-true, leb-false, eqb-false, le-ltb, lt-ltb, ne_eqb, le-leb, lt-leb}
use Rattle.prelude.specs.Bytes.{double_quote, backslash}
use Rattle.prelude.specs.Pick.{pick}
use Rattle.prelude.proofs.Cases.{split, or_left, or_right, never}
use Rattle.utf8.specs.Class.{class_of}
use Rattle.utf8.specs.Utf8.{tail, two_bytes, long_len, len_by, char_len}
use Rattle.utf8.proofs.Characters.{ascii_len}
use Rattle.notation.specs.declared.styles.Style.{Style}
use Rattle.notation.specs.declared.styles.Style.TheVariants.{Json}
use Rattle.notation.specs.Styles.{quote}
use Rattle.notation.specs.Literals.{literal_len}
use Rattle.runs.specs.inner.Blocks.{Running, Alone, Paired, AllAlone, AllPaired, continued}
use Rattle.notation.proofs.LiteralClasses.{two_bytes_lem}
use Rattle.runs.proofs.LiteralRuns.{here, moved}

pub same_test : (a b : Bool) → not (beq a b) ≡ false → a ≡ b
same_test true true e = refl
same_test true false e = e
same_test false true e = sym e
same_test false false e = refl

pub same_none : (a b : Bool) → a ≡ b → not (beq a b) ≡ false
same_none true b e = rw (sym e) refl
same_none false b e = rw (sym e) refl

pub alone : (q b : ℕ) → ltb b 32 || (leb 128 b || (eqb b backslash || eqb b q)) ≡ false → Alone q b
alone q b e =
    let f = or_right (ltb b 32) _ e in
    let g = or_right (leb 128 b) _ f in
    record {
      printed = ltb-false b 32 (or_left _ _ e);
      ascii = leb-false 128 b (or_left _ _ f);
      no_slash = eqb-false b backslash (or_left _ _ g);
      no_quote = eqb-false b q (or_right (eqb b backslash) _ g);
    }

pub alone_none : (q b : ℕ) → Alone q b → ltb b 32 || (leb 128 b || (eqb b backslash || eqb b q)) ≡ false
alone_none q b a =
    rw (le-ltb b 32 a.printed, lt-leb 128 b a.ascii, ne_eqb b backslash a.no_slash, ne_eqb b q a.no_quote) refl

pub paired : (q b c : ℕ) (t : Bool) → t ≡ tail c
    → ltb b 32 || (leb 224 b || (eqb b backslash || (eqb b q || (eqb b 192 || (eqb b 193 || not (beq t (leb 192 b))))))) ≡ false
    → Paired q b c
paired q b c t et e =
    let f = or_right (ltb b 32) _ e in
    let g = or_right (leb 224 b) _ f in
    let h = or_right (eqb b backslash) _ g in
    let i = or_right (eqb b q) _ h in
    let j = or_right (eqb b 192) _ i in
    let m : t ≡ leb 192 b = same_test t (leb 192 b) (or_right (eqb b 193) _ j) in
    let x : (b ≡ 192 → ⊥) = eqb-false b 192 (or_left _ _ i) in
    let y : (b ≡ 193 → ⊥) = eqb-false b 193 (or_left _ _ j) in
    record {
      printed = ltb-false b 32 (or_left _ _ e);
      short = leb-false 224 b (or_left _ _ f);
      no_slash = eqb-false b backslash (or_left _ _ g);
      no_quote = eqb-false b q (or_left _ _ h);
      lead = λ l. omega arith;
      behind_lead = λ l. sym et ∙ m ∙ le-leb 192 b l;
      behind_other = λ l. sym et ∙ m ∙ lt-leb 192 b l;
    }

-- one byte more before the first that is found
pub first_more : (q : ℕ) (s : List ℕ) (at k first place next : ℕ) (found : Bool) → ((j : ℕ) → j < k → j < first → Alone q (get_or s (at + j) 0))
    → (found ≡ false → Alone q (get_or s (at + k) 0)) → (found ≡ true → place ≡ k) → next ≤ first → next ≤ place
    → (j : ℕ) → j < k + 1 → j < next → Alone q (get_or s (at + j) 0)
first_more q s at k first place next found f g e a b =
    below_more (λ j. j < next → Alone q (get_or s (at + j) 0)) k (λ j h l. f j h (omega arith))
    (λ l. split found (λ y. let z : place ≡ k = e y in let x : ⊥ = omega arith in absurd x) g)

-- the least of two numbers is at most so far below the second as the first is
pub least_near : (n a b d : ℕ) → (a ≤ b → n ≡ a) → (b ≤ a → n ≡ b) → b ≤ a + d → b ≤ n + d
least_near n a b d f g h =
    split (leb a b) (λ e. omega (arith, f (leb-true a b e))) (λ e. let l : b < a = leb-false a b e in omega (arith, g (omega arith)))

pub tail_ascii : (b : ℕ) → b < 0x80 → tail b ≡ false
tail_ascii b h = rw (lt-leb 0x80 b h) refl

pub tail_is : (b : ℕ) → 0x80 ≤ b → b < 0xc0 → tail b ≡ true
tail_is b h g = rw (le-leb 0x80 b h) (le-leb b 0xbf (omega arith))

pub tail_lead : (b : ℕ) → 0xc0 ≤ b → tail b ≡ false
tail_lead b h = rw (le-leb 0x80 b (omega arith)) (lt-leb b 0xbf (omega arith))

class_two : (b : ℕ) → 0xc2 ≤ b → b < 0xe0 → class_of b ≡ 6
unfolding class_of pick
class_two b h g =
    simp (
      le-ltb b 0x20 (omega arith),
      ne_eqb b 0x22 (λ z. omega arith),
      ne_eqb b 0x27 (λ z. omega arith),
      ne_eqb b 0x5c (λ z. omega arith),
      le-ltb b 0x80 (omega arith),
      le-ltb b 0xc0 (omega arith),
      le-ltb b 0xc2 h,
      lt-ltb b 0xe0 g,
    )

pub two_len : (b : ℕ) (r : List ℕ) → 0xc2 ≤ b → b < 0xe0 → tail (get_or r 0 0) ≡ true → char_len (b ∷ r) ≡ 2
unfolding char_len len_by long_len two_bytes pick
two_len b r h g e = rw (class_two b h g, e) refl

module _ (st : Style) (s : List ℕ) where
  pub char_at_lem : (at : ℕ) → at < length s → 32 ≤ get_or s at 0 → (get_or s at 0 ≡ backslash → ⊥) → (get_or s at 0 ≡ quote st → ⊥)
      → char_len (get_or s at 0 ∷ drop (suc at) s) ≡ literal_len st (drop at s)
  unfolding literal_len pick
  char_at_lem at h p b q = rw (drop-cons s at 0 h) (simp (ne_eqb _ _ q, ne_eqb _ _ b, le-ltb _ _ p))

  -- a byte at which a run ends
  pub stop_byte : (at q : ℕ) → at < length s → q ≡ quote st → ltb (get_or s at 0) 32 || (eqb (get_or s at 0) backslash || eqb (get_or s at 0) q) ≡ true
      → 0 ≡ literal_len st (drop at s)
  unfolding literal_len pick
  stop_byte at q h eq e =
      let b : ℕ = get_or s at 0 in
      let f : ltb b 32 || (eqb b backslash || eqb b (quote st)) ≡ true = rw eq at e in
      rw (drop-cons s at 0 h)
      (split (eqb b (quote st)) (λ x. simp x)
      (λ x. split (eqb b backslash) (λ y. simp (x, y))
      (λ y. split (ltb b 32) (λ z. simp (x, y, z)) (λ z. let u : ◌≡◌ {A = Bool} false true = simp (x, y, z) at f in never cc))))

  pub one_char : (at : ℕ) → at < length s → Alone (quote st) (get_or s at 0) → 1 ≡ literal_len st (drop at s)
  one_char at h a = sym (ascii_len _ _ a.ascii) ∙ char_at_lem at h a.printed a.no_slash a.no_quote

  two_char : (at : ℕ) → at < length s → Paired (quote st) (get_or s at 0) (get_or s (at + 1) 0) → 0xc0 ≤ get_or s at 0
      → 2 ≡ literal_len st (drop at s)
  two_char at h p l =
      let e : get_or (drop (suc at) s) 0 0 ≡ get_or s (at + 1) 0 = get_or-drop (suc at) s 0 0 ∙ ap (λ (i : ℕ). get_or s i 0) (let z : suc at + 0 ≡ at + 1 = omega arith in z) in
      sym (two_len (get_or s at 0) (drop (suc at) s) (p.lead l) p.short (ap tail e ∙ p.behind_lead l))
      ∙ char_at_lem at h p.printed p.no_slash p.no_quote

  module _ (from : ℕ) where
    pub alone_run : (n at : ℕ) → Running st s from at → at + n ≤ length s → AllAlone (quote st) s at n → Running st s from (at + n)
    alone_run zero at k h a = subst (Running st s from) (let z : at ≡ at + 0 = omega arith in z) k
    alone_run (suc n) at k h a =
        let i : Running st s from (at + n) = alone_run n at k (omega arith) (λ j l. a j (omega arith)) in
        subst (Running st s from) (let z : at + n + 1 ≡ at + suc n = omega arith in z)
        (moved st s from (at + n) 1 i (one_char (at + n) (omega arith) (a n (omega arith))))

    -- behind a byte and what belongs to it, the same of the next byte
    on : (i : ℕ) → i < length s → Paired (quote st) (get_or s i 0) (get_or s (i + 1) 0) → Running st s from (i + continued (tail (get_or s i 0)))
        → Running st s from (i + 1 + continued (tail (get_or s (i + 1) 0)))
    on i h p k =
        let b : ℕ = get_or s i 0 in
        let next : (m : ℕ) (t : Bool) → Running st s from m → m ≡ i + 1 + continued t → tail (get_or s (i + 1) 0) ≡ t
        → Running st s from (i + 1 + continued (tail (get_or s (i + 1) 0))) =
        λ m t r e f. subst (λ (x : Bool). Running st s from (i + 1 + continued x)) (sym f) (subst (Running st s from) e r) in
        let now : (t : Bool) (m : ℕ) → tail b ≡ t → i + continued t ≡ m → Running st s from m =
        λ t m f e. subst (Running st s from) e (subst (λ (x : Bool). Running st s from (i + continued x)) f k) in
        split (ltb b 0x80)
        (λ l. let a : b < 0x80 = ltb-true b 0x80 l in
        let r : Running st s from (i + 1) =
        moved st s from i 1 (now false i (tail_ascii b a) (omega arith)) (one_char i h (record { printed = p.printed; ascii = a; no_slash = p.no_slash; no_quote = p.no_quote })) in
        next (i + 1) false r (omega arith) (p.behind_other (omega arith)))
        (λ l. let a : 0x80 ≤ b = ltb-false b 0x80 l in
        split (ltb b 0xc0)
        (λ m. let c : b < 0xc0 = ltb-true b 0xc0 m in next (i + 1) false (now true (i + 1) (tail_is b a c) refl) (omega arith) (p.behind_other c))
        (λ m. let c : 0xc0 ≤ b = ltb-false b 0xc0 m in
        next (i + 2) true (moved st s from i 2 (now false i (tail_lead b c) (omega arith)) (two_char i h p c)) (omega arith) (p.behind_lead c)))

    pub pair_run : (n at : ℕ) → Running st s from at → at + n < length s → tail (get_or s at 0) ≡ false → AllPaired (quote st) s at n
        → Running st s from (at + n + continued (tail (get_or s (at + n) 0)))
    pair_run zero at k h t a =
        subst (λ (i : ℕ). Running st s from (i + continued (tail (get_or s i 0)))) (let z : at ≡ at + 0 = omega arith in z)
        (subst (λ (x : Bool). Running st s from (at + continued x)) (sym t) (subst (Running st s from) (let z : at ≡ at + 0 = omega arith in z) k))
    pair_run (suc n) at k h t a =
        subst (λ (i : ℕ). Running st s from (i + continued (tail (get_or s i 0)))) (let z : at + n + 1 ≡ at + suc n = omega arith in z)
        (on (at + n) (omega arith) (a n (omega arith)) (pair_run n at k (omega arith) t (λ j l. a j (omega arith))))

-- what holds in two blocks that meet, or overlap, holds up to the end of the second
joined : (P : ℕ → Type 0) (a p n last : ℕ) → p + n ≡ last → p ≤ a + n → ((k : ℕ) → k < n → P (a + k)) → ((k : ℕ) → k < n → P (p + k))
    → (from m : ℕ) → a ≤ from → from + m ≡ last → (k : ℕ) → k < m → P (from + k)
joined P a p n last e g f h from m l t k i =
    split (ltb (from + k) (a + n))
    (λ u. let v : from + k < a + n = ltb-true (from + k) (a + n) u in
    subst P (let z : a + (from + k - a) ≡ from + k = omega arith in z) (f (from + k - a) (omega arith)))
    (λ u. let v : a + n ≤ from + k = ltb-false (from + k) (a + n) u in
    subst P (let z : p + (from + k - p) ≡ from + k = omega arith in z) (h (from + k - p) (omega arith)))

pub with_next : (e : ℕ) (r t : Bool) → r ≡ t → r ≡ true → e + 1 ≡ e + continued t
with_next e r t f g = ap (λ (x : Bool). e + continued x) (sym g ∙ f)

pub without_next : (e : ℕ) (r t : Bool) → r ≡ t → r ≡ false → e ≡ e + continued t
without_next e r t f g = (let z : e ≡ e + 0 = omega arith in z) ∙ ap (λ (x : Bool). e + continued x) (sym g ∙ f)

-- the same for each way that the code takes, where q is the quote that it was told and no test found anything
module _ (st : Style) (s : List ℕ) (from : ℕ) (q : ℕ) (eq : q ≡ quote st) where
  pub over_block : (n at : ℕ) → Running st s from at → at + n ≤ length s → AllAlone q s at n → Running st s from (at + n)
  over_block n at k h a = alone_run st s from n at k h (rw eq at a)

  pub over_pairs : (at e : ℕ) (t : Bool) → Running st s from at → at + 33 ≤ length s → t ≡ tail (get_or s at 0) → t ≡ false → AllPaired q s at 32
      → e ≡ at + 32 + continued (tail (get_or s (at + 32) 0)) → Running st s from e
  over_pairs at e t k h f g a p =
      subst (Running st s from) (sym p) (pair_run st s from 32 at k (omega arith) (sym f ∙ g) (rw eq at a))

  -- two blocks, the first of which begins at or before the place, and the second of which ends at another
  module _ (a p n last : ℕ) (e : p + n ≡ last) (g : p ≤ a + n) (h : a ≤ from) (l : from ≤ last) where
    pub over_two : last ≤ length s → AllAlone q s a n → AllAlone q s p n → Running st s from last
    over_two i x y =
        let m : ℕ = last - from in
        let z : from + m ≡ last = omega arith in
        let b : AllAlone q s from m = joined (λ k. Alone q (get_or s k 0)) a p n last e g x y from m h z in
        subst (Running st s from) z (alone_run st s from m from (here st s from (omega arith)) (omega arith) (rw eq at b))

    pub over_two_pairs : (r : ℕ) (t : Bool) → last < length s → t ≡ tail (get_or s from 0) → t ≡ false → AllPaired q s a n → AllPaired q s p n
        → r ≡ last + continued (tail (get_or s last 0)) → Running st s from r
    over_two_pairs r t i f u x y w =
        let m : ℕ = last - from in
        let z : from + m ≡ last = omega arith in
        let b : AllPaired q s from m = joined (λ k. Paired q (get_or s k 0) (get_or s (k + 1) 0)) a p n last e g x y from m h z in
        subst (Running st s from) (ap (λ (j : ℕ). j + continued (tail (get_or s j 0))) z ∙ sym w)
        (pair_run st s from m from (here st s from (omega arith)) (omega arith) (sym f ∙ u) (rw eq at b))

  pub over_one : (at : ℕ) → Running st s from at → at < length s → Alone q (get_or s at 0) → Running st s from (at + 1)
  over_one at k h a = moved st s from at 1 k (one_char st s at h (rw eq at a))

  pub over_byte : from < length s → Alone q (get_or s from 0) → Running st s from (from + 1)
  over_byte h a = over_one from (here st s from (omega arith)) h a

-- two blocks of n bytes that hold all of a text in `""` from a place on but its last byte, for each n
module _ (n : ℕ) {s : List ℕ} {from : ℕ} (h : (from + n < length s) × (length s ≤ from + (n + n + 1))) where
  pub two_alone : {a b : Bool} → (a ≡ false → AllAlone double_quote s from n) → (b ≡ false → AllAlone double_quote s (length s - 1 - n) n) → a || b ≡ false
      → Running Json s from (length s - 1)
  two_alone {a} {b} f g e =
      over_two Json s from double_quote refl from (length s - 1 - n) n (length s - 1) (omega (arith, h)) (omega (arith, h)) (omega arith) (omega (arith, h)) (omega arith)
      (f (or_left a b e)) (g (or_right a b e))

  pub two_paired : {t a b : Bool} {r : ℕ} → t ≡ tail (get_or s from 0) → t ≡ false
      → (a ≡ false → AllPaired double_quote s from n) → (b ≡ false → AllPaired double_quote s (length s - 1 - n) n) → a || b ≡ false
      → r ≡ length s - 1 + continued (tail (get_or s (length s - 1) 0)) → Running Json s from r
  two_paired {t} {a} {b} {r} u v f g e w =
      over_two_pairs Json s from double_quote refl from (length s - 1 - n) n (length s - 1) (omega (arith, h)) (omega (arith, h)) (omega arith) (omega (arith, h)) r t (omega (arith, h)) u v
      (f (or_left a b e)) (g (or_right a b e)) w

-- a lead of two bytes and a continuation
pub over_lead : (st : Style) (s : List ℕ) (from at : ℕ) → Running st s from at → at < length s → 0xc2 ≤ get_or s at 0 → get_or s at 0 < 0xe0
    → tail (get_or s (at + 1) 0) ≡ true → Running st s from (at + 2)
over_lead st s from at k h l m t = moved st s from at 2 k (two_bytes_lem st s at 6 h (sym (class_two (get_or s at 0) l m)) refl t)

pub lead_fits : (s : List ℕ) (at : ℕ) → at < length s → 0xc2 ≤ get_or s at 0 → get_or s at 0 < 0xe0 → tail (get_or s (at + 1) 0) ≡ true → at + 2 ≤ length s
lead_fits s at h l m t = (over_lead Json s at at (here Json s at (omega arith)) h l m t).inside
