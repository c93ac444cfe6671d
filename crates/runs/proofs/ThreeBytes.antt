-- Blocks of literal characters of up to three bytes: by induction on the number of bytes tested, a run goes on behind a byte and the
-- continuations that belong to it.
-- Assumes nothing.
use Prim.Native.Nat.{ℕ, zero, suc, ◌+◌, ◌-◌, ◌≤◌, ◌<◌}
use mathlib.Core.Bool.{Bool, true, false, ◌&&◌, ◌||◌, not, beq}
use mathlib.Core.List.{List, ◌∷◌}
use mathlib.Core.Path.{◌≡◌, refl, sym, ap, ◌∙◌, subst}
use native.Mathlib.Omega.{arith}
use lib.Dec.{ltb, leb, eqb}
use lib.ListN.{length, get_or, drop}
use lib.Seq.{get_or-drop}
use borrow.Author.Tests.{ltb-true, ltb-false, leb-true, leb-false, eqb-true, eqb-false, le-ltb, lt-ltb, ne_eqb, le-leb, lt-leb}
use Rattle.prelude.specs.Bytes.{backslash}
use Rattle.prelude.specs.Pick.{pick}
use Rattle.prelude.proofs.Cases.{split, never, and_left, and_right, or_left, or_right}
use Rattle.utf8.specs.Class.{class_of}
use Rattle.utf8.specs.Utf8.{tail, low_of, high_of, three_bytes, long_len, len_by, char_len}
use Rattle.notation.specs.declared.styles.Style.{Style}
use Rattle.notation.specs.Styles.{quote}
use Rattle.notation.specs.Literals.{literal_len}
use Rattle.runs.specs.inner.Blocks.{Running, Tripled, AllTripled, Begun, owed}
use Rattle.runs.proofs.LiteralRuns.{moved}
use Rattle.runs.proofs.BlockLaws.{same_test, same_none, tail_ascii, tail_is, tail_lead, two_len, char_at_lem, one_char}

-- the tests

not_both : (P : Type 0) (a b : Bool) → a && b ≡ false → a ≡ true → (b ≡ false → P) → P
not_both P true b e f g = g e
not_both P false b e f g = let z : ◌≡◌ {A = Bool} false true = f in never cc

pub tripled : (q b c d : ℕ) (t : Bool) → t ≡ tail d
    → ltb b 32 || (leb 240 b || (eqb b backslash || (eqb b q || (eqb b 192 || (eqb b 193 || ((eqb b 224 && ltb c 160) || ((eqb b 237 && leb 160 c) || not (beq t (leb 192 c || leb 224 b))))))))) ≡ false
    → Tripled q b c d
tripled q b c d t et e =
    let f = or_right (ltb b 32) _ e in
    let g = or_right (leb 240 b) _ f in
    let h = or_right (eqb b backslash) _ g in
    let i = or_right (eqb b q) _ h in
    let j = or_right (eqb b 192) _ i in
    let k = or_right (eqb b 193) _ j in
    let l = or_right (eqb b 224 && ltb c 160) _ k in
    let x : (b ≡ 192 → ⊥) = eqb-false b 192 (or_left _ _ i) in
    let y : (b ≡ 193 → ⊥) = eqb-false b 193 (or_left _ _ j) in
    record {
      printed = ltb-false b 32 (or_left _ _ e);
      short = leb-false 240 b (or_left _ _ f);
      no_slash = eqb-false b backslash (or_left _ _ g);
      no_quote = eqb-false b q (or_left _ _ h);
      lead = λ m. omega arith;
      after_e0 = λ m. not_both _ (eqb b 224) (ltb c 160) (or_left _ _ k) (rw m refl) (λ n. ltb-false c 160 n);
      after_ed = λ m. not_both _ (eqb b 237) (leb 160 c) (or_left _ _ l) (rw m refl) (λ n. leb-false 160 c n);
      third = sym et ∙ same_test t (leb 192 c || leb 224 b) (or_right (eqb b 237 && leb 160 c) _ l);
    }

and_none : (a b : Bool) → (a ≡ true → b ≡ false) → a && b ≡ false
and_none true b f = f refl
and_none false b f = refl

pub tripled_none : (q b c d : ℕ) (t : Bool) → t ≡ tail d → Tripled q b c d
    → ltb b 32 || (leb 240 b || (eqb b backslash || (eqb b q || (eqb b 192 || (eqb b 193 || ((eqb b 224 && ltb c 160) || ((eqb b 237 && leb 160 c) || not (beq t (leb 192 c || leb 224 b))))))))) ≡ false
tripled_none q b c d t et p =
    rw (
      le-ltb b 32 p.printed,
      lt-leb 240 b p.short,
      ne_eqb b backslash p.no_slash,
      ne_eqb b q p.no_quote,
      ne_eqb b 192 (λ e. let l : 0xc2 ≤ b = p.lead (omega arith) in omega arith),
      ne_eqb b 193 (λ e. let l : 0xc2 ≤ b = p.lead (omega arith) in omega arith),
      and_none (eqb b 224) (ltb c 160) (λ e. le-ltb c 160 (p.after_e0 (eqb-true b 224 e))),
      and_none (eqb b 237) (leb 160 c) (λ e. lt-leb 160 c (p.after_ed (eqb-true b 237 e))),
      same_none t (leb 192 c || leb 224 b) (et ∙ p.third),
    ) refl

beq_same : (a b : Bool) → beq a b ≡ true → a ≡ b
beq_same true true e = refl
beq_same true false e = sym e
beq_same false true e = e
beq_same false false e = refl

beq_is : (a b : Bool) → a ≡ b → beq a b ≡ true
beq_is true b e = rw (sym e) refl
beq_is false b e = rw (sym e) refl

module _ (b c : ℕ) (t : Bool) (f : t ≡ tail b) where
  pub begun : (u : Bool) → t ≡ false → u ≡ tail c → (beq u (leb 192 b) ≡ true → Begun b c) × (Begun b c → beq u (leb 192 b) ≡ true)
  begun u g h =
      ((λ e. record { first = sym f ∙ g; second = sym h ∙ beq_same u (leb 192 b) e }), λ k. beq_is u (leb 192 b) (h ∙ k.second))

  pub not_begun : t ≡ true → (◌≡◌ {A = Bool} false true → Begun b c) × (Begun b c → ◌≡◌ {A = Bool} false true)
  not_begun g = ((λ e. never cc), λ k. sym k.first ∙ sym f ∙ g)

-- the character that begins with a lead of three bytes

class_three : (b : ℕ) → 0xe0 ≤ b → b < 0xf0 → class_of b ≡ pick (eqb b 0xe0) 8 (pick (eqb b 0xed) 9 7)
unfolding class_of pick
class_three b h g =
    simp (
      le-ltb b 0x20 (omega arith),
      ne_eqb b 0x22 (λ z. omega arith),
      ne_eqb b 0x27 (λ z. omega arith),
      ne_eqb b 0x5c (λ z. omega arith),
      le-ltb b 0x80 (omega arith),
      le-ltb b 0xc0 (omega arith),
      le-ltb b 0xc2 (omega arith),
      le-ltb b 0xe0 h,
      lt-ltb b 0xf0 g,
    )

len_seven : (c d e : ℕ) → tail c ≡ true → tail d ≡ true → len_by 7 c d e ≡ 3
unfolding len_by long_len three_bytes low_of high_of pick
len_seven c d e h g = rw (h, g) refl

len_eight : (c d e : ℕ) → 0xa0 ≤ c → c ≤ 0xbf → tail d ≡ true → len_by 8 c d e ≡ 3
unfolding len_by long_len three_bytes low_of high_of pick
len_eight c d e l h g = rw (le-leb 0xa0 c l, le-leb c 0xbf h, g) refl

len_nine : (c d e : ℕ) → 0x80 ≤ c → c ≤ 0x9f → tail d ≡ true → len_by 9 c d e ≡ 3
unfolding len_by long_len three_bytes low_of high_of pick
len_nine c d e l h g = rw (le-leb 0x80 c l, le-leb c 0x9f h, g) refl

tail_low : (c : ℕ) → tail c ≡ true → 0x80 ≤ c
tail_low c e = leb-true 0x80 c (and_left (leb 0x80 c) (leb c 0xbf) e)

tail_high : (c : ℕ) → tail c ≡ true → c ≤ 0xbf
tail_high c e = leb-true c 0xbf (and_right (leb 0x80 c) (leb c 0xbf) e)

three_by : (b c d e : ℕ) → 0xe0 ≤ b → b < 0xf0 → (b ≡ 0xe0 → 0xa0 ≤ c) → (b ≡ 0xed → c < 0xa0) → tail c ≡ true → tail d ≡ true → len_by (class_of b) c d e ≡ 3
unfolding pick
three_by b c d e h g u v x y =
    split (eqb b 0xe0)
    (λ m. let z : class_of b ≡ 8 = class_three b h g ∙ rw m refl in rw z (len_eight c d e (u (eqb-true b 0xe0 m)) (tail_high c x) y))
    (λ m. split (eqb b 0xed)
    (λ n. let z : class_of b ≡ 9 = class_three b h g ∙ rw (m, n) refl in
    let w : c < 0xa0 = v (eqb-true b 0xed n) in rw z (len_nine c d e (tail_low c x) (omega arith) y))
    (λ n. let z : class_of b ≡ 7 = class_three b h g ∙ rw (m, n) refl in rw z (len_seven c d e x y)))

three_len : (b : ℕ) (r : List ℕ) → 0xe0 ≤ b → b < 0xf0 → (b ≡ 0xe0 → 0xa0 ≤ get_or r 0 0) → (b ≡ 0xed → get_or r 0 0 < 0xa0)
    → tail (get_or r 0 0) ≡ true → tail (get_or r 1 0) ≡ true → char_len (b ∷ r) ≡ 3
unfolding char_len
three_len b r h g u v x y = three_by b (get_or r 0 0) (get_or r 1 0) (get_or r 2 0) h g u v x y

-- a run over a block

or_false : (a b : Bool) → b ≡ false → a || b ≡ a
or_false true b e = refl
or_false false b e = e

or_some : (a b : Bool) → b ≡ true → a || b ≡ true
or_some true b e = refl
or_some false b e = e

module _ (st : Style) (s : List ℕ) (from : ℕ) where
  two_char : (i : ℕ) → i < length s → Tripled (quote st) (get_or s i 0) (get_or s (i + 1) 0) (get_or s (i + 2) 0) → 0xc0 ≤ get_or s i 0 → get_or s i 0 < 0xe0
      → tail (get_or s (i + 1) 0) ≡ true → 2 ≡ literal_len st (drop i s)
  two_char i h p l g t =
      let e : get_or (drop (suc i) s) 0 0 ≡ get_or s (i + 1) 0 = get_or-drop (suc i) s 0 0 ∙ ap (λ (j : ℕ). get_or s j 0) (let z : suc i + 0 ≡ i + 1 = omega arith in z) in
      sym (two_len (get_or s i 0) (drop (suc i) s) (p.lead l) g (ap tail e ∙ t)) ∙ char_at_lem st s i h p.printed p.no_slash p.no_quote

  three_char : (i : ℕ) → i < length s → Tripled (quote st) (get_or s i 0) (get_or s (i + 1) 0) (get_or s (i + 2) 0) → 0xe0 ≤ get_or s i 0
      → tail (get_or s (i + 1) 0) ≡ true → tail (get_or s (i + 2) 0) ≡ true → 3 ≡ literal_len st (drop i s)
  three_char i h p l t u =
      let e : get_or (drop (suc i) s) 0 0 ≡ get_or s (i + 1) 0 = get_or-drop (suc i) s 0 0 ∙ ap (λ (j : ℕ). get_or s j 0) (let z : suc i + 0 ≡ i + 1 = omega arith in z) in
      let f : get_or (drop (suc i) s) 1 0 ≡ get_or s (i + 2) 0 = get_or-drop (suc i) s 1 0 ∙ ap (λ (j : ℕ). get_or s j 0) (let z : suc i + 1 ≡ i + 2 = omega arith in z) in
      sym (three_len (get_or s i 0) (drop (suc i) s) l p.short (λ m. subst (λ (c : ℕ). 0xa0 ≤ c) (sym e) (p.after_e0 m)) (λ m. subst (λ (c : ℕ). c < 0xa0) (sym e) (p.after_ed m)) (ap tail e ∙ t) (ap tail f ∙ u))
      ∙ char_at_lem st s i h p.printed p.no_slash p.no_quote

  -- literal characters stand before a place and the continuations at it; where none is, one follows just behind a lead
  record Steady (i : ℕ) (b c : ℕ) : Type 0 where
    run : Running st s from (i + owed (tail b) (tail c))
    led : tail b ≡ false → tail c ≡ leb 0xc0 b

  on : (i : ℕ) → i < length s → Tripled (quote st) (get_or s i 0) (get_or s (i + 1) 0) (get_or s (i + 2) 0) → Steady i (get_or s i 0) (get_or s (i + 1) 0)
      → Steady (i + 1) (get_or s (i + 1) 0) (get_or s (i + 2) 0)
  on i h p k =
      let b : ℕ = get_or s i 0 in
      let c : ℕ = get_or s (i + 1) 0 in
      let d : ℕ = get_or s (i + 2) 0 in
      let now : (u v : Bool) (m : ℕ) → tail b ≡ u → tail c ≡ v → i + owed u v ≡ m → Running st s from m =
      λ u v m f g e. subst (Running st s from) e (subst (λ (y : Bool). Running st s from (i + owed u y)) g (subst (λ (x : Bool). Running st s from (i + owed x (tail c))) f k.run)) in
      let next : (u v : Bool) (m : ℕ) → Running st s from m → m ≡ i + 1 + owed u v → tail c ≡ u → tail d ≡ v → Running st s from (i + 1 + owed (tail c) (tail d)) =
      λ u v m r e f g. subst (λ (y : Bool). Running st s from (i + 1 + owed (tail c) y)) (sym g) (subst (λ (x : Bool). Running st s from (i + 1 + owed x v)) (sym f) (subst (Running st s from) e r)) in
      let held : tail c ≡ true → tail c ≡ false → tail d ≡ leb 0xc0 c = λ f g. let z : ◌≡◌ {A = Bool} true false = sym f ∙ g in never cc in
      let short : b < 0xe0 → tail d ≡ leb 0xc0 c = λ l. p.third ∙ or_false (leb 0xc0 c) (leb 0xe0 b) (lt-leb 0xe0 b l) in
      let low : tail c ≡ true → leb 0xc0 c ≡ false = λ f. let z : c ≤ 0xbf = tail_high c f in lt-leb 0xc0 c (omega arith) in
      split (ltb b 0x80)
      (λ l. let a : b < 0x80 = ltb-true b 0x80 l in
      let f : tail c ≡ false = k.led (tail_ascii b a) ∙ lt-leb 0xc0 b (omega arith) in
      let r : Running st s from (i + 1) =
      moved st s from i 1 (now false false i (tail_ascii b a) f (omega arith)) (one_char st s i h (record { printed = p.printed; ascii = a; no_slash = p.no_slash; no_quote = p.no_quote })) in
      record { run = next false (tail d) (i + 1) r (omega arith) f refl; led = λ m. short (omega arith) })
      (λ l. let a : 0x80 ≤ b = ltb-false b 0x80 l in
      split (ltb b 0xc0)
      (λ m. let g : b < 0xc0 = ltb-true b 0xc0 m in
      split (tail c)
      (λ f. record { run = next true false (i + 2) (now true true (i + 2) (tail_is b a g) f refl) (omega arith) f (short (omega arith) ∙ low f); led = held f })
      (λ f. record { run = next false (tail d) (i + 1) (now true false (i + 1) (tail_is b a g) f refl) (omega arith) f refl; led = λ x. short (omega arith) }))
      (λ m. let g : 0xc0 ≤ b = ltb-false b 0xc0 m in
      let f : tail c ≡ true = k.led (tail_lead b g) ∙ le-leb 0xc0 b g in
      let r : Running st s from i = now false true i (tail_lead b g) f (omega arith) in
      split (ltb b 0xe0)
      (λ n. let y : b < 0xe0 = ltb-true b 0xe0 n in
      record { run = next true false (i + 2) (moved st s from i 2 r (two_char i h p g y f)) (omega arith) f (short y ∙ low f); led = held f })
      (λ n. let y : 0xe0 ≤ b = ltb-false b 0xe0 n in
      let t : tail d ≡ true = p.third ∙ or_some (leb 0xc0 c) (leb 0xe0 b) (le-leb 0xe0 b y) in
      record { run = next true true (i + 3) (moved st s from i 3 r (three_char i h p y f t)) (omega arith) f t; led = held f })))

  three_run : (n at : ℕ) → Running st s from at → at + n ≤ length s → Begun (get_or s at 0) (get_or s (at + 1) 0) → AllTripled (quote st) s at n
      → Steady (at + n) (get_or s (at + n) 0) (get_or s (at + n + 1) 0)
  three_run zero at k h b a =
      subst (λ (i : ℕ). Steady i (get_or s i 0) (get_or s (i + 1) 0)) (let z : at ≡ at + 0 = omega arith in z)
      (record {
        run = subst (λ (x : Bool). Running st s from (at + owed x (tail (get_or s (at + 1) 0)))) (sym b.first) (subst (Running st s from) (let z : at ≡ at + 0 = omega arith in z) k);
        led = λ f. b.second;
      })
  three_run (suc n) at k h b a =
      let i : ℕ = at + n in
      let w : Steady (i + 1) (get_or s (i + 1) 0) (get_or s (i + 2) 0) = on i (omega arith) (a n (omega arith)) (three_run n at k (omega arith) b (λ j l. a j (omega arith))) in
      subst (λ (j : ℕ). Steady j (get_or s j 0) (get_or s (j + 1) 0)) (let z : i + 1 ≡ at + suc n = omega arith in z)
      (subst (λ (j : ℕ). Steady (i + 1) (get_or s (i + 1) 0) (get_or s j 0)) (let z : i + 2 ≡ i + 1 + 1 = omega arith in z) w)

part : (q : ℕ) (s : List ℕ) (p at n m : ℕ) → AllTripled q s p n → p ≤ at → at + m ≡ p + n → AllTripled q s at m
part q s p at n m a h e = λ k l.
    subst (λ (i : ℕ). Tripled q (get_or s i 0) (get_or s (i + 1) 0) (get_or s (i + 2) 0)) (let z : p + (at - p + k) ≡ at + k = omega arith in z)
    (a (at - p + k) (omega arith))

-- a block that is tested from p on, and a character that begins at a place in it: the run goes on behind the block and what belongs to it
pub over_threes : (st : Style) (s : List ℕ) (from q : ℕ) → q ≡ quote st → (p at e : ℕ) → Running st s from at → p ≤ at → at ≤ p + 16 → p + 16 ≤ length s
    → Begun (get_or s at 0) (get_or s (at + 1) 0) → AllTripled q s p 16 → e ≡ p + 16 + owed (tail (get_or s (p + 16) 0)) (tail (get_or s (p + 17) 0))
    → Running st s from e
over_threes st s from q eq p at e k h l g b a f =
    let n : ℕ = p + 16 - at in
    let z : at + n ≡ p + 16 = omega arith in
    let w = three_run st s from n at k (omega arith) b (rw eq at (part q s p at 16 n a h z)) in
    subst (Running st s from)
    (ap (λ (j : ℕ). j + owed (tail (get_or s j 0)) (tail (get_or s (j + 1) 0))) z
    ∙ ap (λ (j : ℕ). p + 16 + owed (tail (get_or s (p + 16) 0)) (tail (get_or s j 0))) (let y : p + 16 + 1 ≡ p + 17 = omega arith in y) ∙ sym f)
    w.run
