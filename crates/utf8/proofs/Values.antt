-- The number that a start and its continuation bytes write: by the kind of the start, arithmetic on one to four bytes gives that its pattern is these bytes, and
-- that it is a scalar value where the grammar takes them.
-- Assumes nothing.
use Prim.Native.Nat.{ℕ, zero, suc, ◌+◌, ◌-◌, ◌*◌, ◌/◌, ◌%◌, ◌≤◌, ◌<◌}
use mathlib.Core.Bool.{Bool, true, false, ◌&&◌}
use mathlib.Core.List.{List, [], ◌∷◌}
use mathlib.Core.Logic.{◌≢◌}
use mathlib.Core.Path.{◌≡◌, refl, sym, ap, ◌∙◌}
use native.Mathlib.Omega.{arith}
use lib.Dec.{ltb, leb, eqb, lit≤}
use lib.ListN.{length, get_or, take}
use borrow.Author.Tests.{eqb-true, eqb-false, ltb-true, ltb-false, leb-true, leb-false, lt-ltb, le-ltb, le-leb, lt-leb}
use Rattle.prelude.specs.Pick.{pick}
use Rattle.prelude.proofs.Cases.{split, and_left, and_right, never}
use Rattle.prelude.proofs.Picks.{pick_case}
use Rattle.utf8.specs.Class.{class_of}
use Rattle.utf8.specs.Utf8.{between, tail, low_of, high_of, no_start, wanted, has_tails, start_bits, tails_on, value_of, least_of, char_len, encode}
use Rattle.utf8.specs.Claims.{IsScalar, Complete}
use Rattle.utf8.proofs.Characters.{tails, char_tails, low_bound}
use Rattle.utf8.proofs.Encoded.{lead_len, size_is}

-- starts by their bytes
start_not : (a : ℕ) → (0x80 ≤ a → 0xc0 ≤ a) → a < 0xf8 → no_start a ≡ false
unfolding no_start pick
start_not a h g =
    split (leb 0x80 a)
    (λ e. let k = h (leb-true 0x80 a e) in rw (e, lt-leb a 0xbf (omega arith), lt-leb 0xf8 a g))
    (λ e. rw (e, lt-leb 0xf8 a g))

pub start_range : (a : ℕ) → no_start a ≡ false → (0x80 ≤ a → 0xc0 ≤ a) × (a < 0xf8)
unfolding no_start pick
start_range a e =
    split (tail a)
    (λ t. let z : true ≡ false = rw t at e in never cc)
    (λ t. (λ h. let z = rw (le-leb 0x80 a h) at t in omega (arith, leb-false a 0xbf z), leb-false 0xf8 a (rw t at e)))

-- what is so of each kind of start is so of every start: the least number, the bits of its own, and how many continuation bytes
pub by_start : (P : ℕ → ℕ → ℕ → Type 0) (a : ℕ) → no_start a ≡ false
    → (a < 0x80 → P 0 a 0)
    → (0xc0 ≤ a → a < 0xe0 → P 0x80 (a - 0xc0) 1)
    → (0xe0 ≤ a → a < 0xf0 → P 0x800 (a - 0xe0) 2)
    → (0xf0 ≤ a → a < 0xf8 → P 0x10000 (a - 0xf0) 3)
    → P (least_of a) (start_bits a) (wanted a)
unfolding least_of start_bits wanted pick
by_start P a s one two three four =
    let (h, g) = start_range a s in
    split (ltb a 0x80) (λ d. rw d (one (ltb-true a 0x80 d)))
    (λ d. split (ltb a 0xe0) (λ e. rw (d, e) (two (h (ltb-false a 0x80 d)) (ltb-true a 0xe0 e)))
    (λ e. split (ltb a 0xf0) (λ f. rw (d, e, f) (three (ltb-false a 0xe0 e) (ltb-true a 0xf0 f)))
    (λ f. rw (d, e, f) (four (ltb-false a 0xf0 f) g))))

-- a start that asks for none is ASCII
none_asked : (a : ℕ) → no_start a ≡ false → wanted a ≡ 0 → a < 0x80
none_asked a s =
    by_start (λ l b n. n ≡ 0 → a < 0x80) a s (λ h z. h) (λ h g z. absurd (omega arith)) (λ h g z. absurd (omega arith)) (λ h g z. absurd (omega arith))

-- the pattern of a number, by its bytes
two : (v a b : ℕ) → 0xc0 ≤ a → a < 0xe0 → 0x80 ≤ b → b ≤ 0xbf → v ≡ (a - 0xc0) * 0x40 + (b - 0x80) → 0x80 ≤ v → encode v ≡ a ∷ b ∷ []
unfolding encode pick
two v a b h g k l e m =
    let e₁ : 0xc0 + v / 0x40 ≡ a = omega arith in
    let e₂ : 0x80 + v % 0x40 ≡ b = omega arith in simp (le-ltb v 0x80 m, lt-ltb v 0x800 (omega arith), e₁, e₂)

three : (v a b c : ℕ) → 0xe0 ≤ a → a < 0xf0 → 0x80 ≤ b → b ≤ 0xbf → 0x80 ≤ c → c ≤ 0xbf
    → v ≡ ((a - 0xe0) * 0x40 + (b - 0x80)) * 0x40 + (c - 0x80) → 0x800 ≤ v → encode v ≡ a ∷ b ∷ c ∷ []
unfolding encode pick
three v a b c h g k l m n e o =
    let e₁ : 0xe0 + v / 0x1000 ≡ a = omega arith in
    let e₂ : 0x80 + v / 0x40 % 0x40 ≡ b = omega arith in
    let e₃ : 0x80 + v % 0x40 ≡ c = omega arith in
    simp (le-ltb v 0x80 (omega arith), le-ltb v 0x800 o, lt-ltb v 0x10000 (omega arith), e₁, e₂, e₃)

four : (v a b c d : ℕ) → 0xf0 ≤ a → 0x80 ≤ b → b ≤ 0xbf → 0x80 ≤ c → c ≤ 0xbf → 0x80 ≤ d → d ≤ 0xbf
    → v ≡ (((a - 0xf0) * 0x40 + (b - 0x80)) * 0x40 + (c - 0x80)) * 0x40 + (d - 0x80) → 0x10000 ≤ v → encode v ≡ a ∷ b ∷ c ∷ d ∷ []
unfolding encode pick
four v a b c d h k l m n o p e q =
    let e₁ : 0xf0 + v / 0x40000 ≡ a = omega arith in
    let e₂ : 0x80 + v / 0x1000 % 0x40 ≡ b = omega arith in
    let e₃ : 0x80 + v / 0x40 % 0x40 ≡ c = omega arith in
    let e₄ : 0x80 + v % 0x40 ≡ d = omega arith in
    simp (le-ltb v 0x80 (omega arith), le-ltb v 0x800 (omega arith), le-ltb v 0x10000 q, e₁, e₂, e₃, e₄)

-- the grammar's bounds of a start and the byte behind it
pub record Led (a b : ℕ) : Type 0 where
  pub two : 0x80 ≤ a → 0xc2 ≤ a
  pub e0 : a ≡ 0xe0 → 0xa0 ≤ b
  pub ed : a ≡ 0xed → b ≤ 0x9f
  pub f0 : a ≡ 0xf0 → 0x90 ≤ b
  pub f4 : a ≡ 0xf4 → b ≤ 0x8f
  pub last : a < 0xf5

-- what is so of a number that bytes write, by the least that needs as many: its pattern is the bytes, and the grammar takes scalar values only
pub record Writes (a least v : ℕ) (r : List ℕ) (n : ℕ) : Type 0 where
  pub back : least ≤ v → encode v ≡ a ∷ take n r
  pub fair : Led a (get_or r 0 0) → (least ≤ v) × IsScalar v

abbrev Written : ℕ → List ℕ → ℕ → ℕ → ℕ → Type 0
Written a r least s n = has_tails n r ≡ true → Writes a least (tails_on s n r) r n

-- the bounds of a continuation byte
low : (b : ℕ) (t : Bool) → tail b && t ≡ true → 0x80 ≤ b
low b t e = leb-true 0x80 b (and_left (leb 0x80 b) _ (and_left (tail b) t e))

high : (b : ℕ) (t : Bool) → tail b && t ≡ true → b ≤ 0xbf
high b t e = leb-true b 0xbf (and_right (leb 0x80 b) _ (and_left (tail b) t e))

one_writes : (a : ℕ) (r : List ℕ) → a < 0x80 → Written a r 0 a 0
unfolding tails_on encode pick
one_writes a r h e = record { back = λ l. simp (lt-ltb a 0x80 h); fair = λ g. (omega arith, (omega arith, λ f t. omega arith)) }

two_writes : (a : ℕ) (r : List ℕ) → 0xc0 ≤ a → a < 0xe0 → Written a r 0x80 (a - 0xc0) 1
unfolding has_tails tails_on
two_writes a [] h g e = never cc
two_writes a (b ∷ r) h g e =
    let k = low b _ e in
    let l = high b _ e in record {
      back = two _ a b h g k l refl;
      fair = λ s. let m = s.two (omega arith) in (omega arith, (omega arith, λ f t. omega arith));
    }

three_writes : (a : ℕ) (r : List ℕ) → 0xe0 ≤ a → a < 0xf0 → Written a r 0x800 (a - 0xe0) 2
unfolding has_tails tails_on
three_writes a [] h g e = never cc
three_writes a (b ∷ []) h g e = let z : false ≡ true = and_right (tail b) _ e in never cc
three_writes a (b ∷ c ∷ r) h g e =
    let f : tail c && true ≡ true = and_right (tail b) _ e in
    let k = low b _ e in
    let l = high b _ e in
    let m = low c _ f in
    let n = high c _ f in record {
      back = three _ a b c h g k l m n refl;
      fair = λ s. (
        split (eqb a 0xe0) (λ q. omega (arith, eqb-true a 0xe0 q, s.e0 (eqb-true a 0xe0 q))) (λ q. let z : a ≢ 0xe0 = eqb-false a 0xe0 q in omega arith),
        (omega arith, λ f t. let z : a ≡ 0xed = omega arith in omega (arith, s.ed z)),
      );
    }

four_writes : (a : ℕ) (r : List ℕ) → 0xf0 ≤ a → a < 0xf8 → Written a r 0x10000 (a - 0xf0) 3
unfolding has_tails tails_on
four_writes a [] h g e = never cc
four_writes a (b ∷ []) h g e = let z : false ≡ true = and_right (tail b) _ e in never cc
four_writes a (b ∷ c ∷ []) h g e = let z : false ≡ true = and_right (tail c) _ (and_right (tail b) _ e) in never cc
four_writes a (b ∷ c ∷ d ∷ r) h g e =
    let f : tail c && (tail d && true) ≡ true = and_right (tail b) _ e in
    let i : tail d && true ≡ true = and_right (tail c) _ f in
    let k = low b _ e in
    let l = high b _ e in
    let m = low c _ f in
    let n = high c _ f in
    let o = low d _ i in
    let p = high d _ i in record {
      back = four _ a b c d h k l m n o p refl;
      fair = λ s.
          let least : 0x10000 ≤ (((a - 0xf0) * 0x40 + (b - 0x80)) * 0x40 + (c - 0x80)) * 0x40 + (d - 0x80) =
          split (eqb a 0xf0) (λ q. omega (arith, eqb-true a 0xf0 q, s.f0 (eqb-true a 0xf0 q))) (λ q. let z : a ≢ 0xf0 = eqb-false a 0xf0 q in omega arith) in (
            least,
            (
              split (eqb a 0xf4) (λ q. omega (arith, eqb-true a 0xf4 q, s.f4 (eqb-true a 0xf4 q))) (λ q. let z : a ≢ 0xf4 = eqb-false a 0xf4 q in omega (arith, s.last)),
              λ f t. omega arith,
            ),
          );
    }

pub writes : (a : ℕ) (r : List ℕ) → Complete a r → Writes a (least_of a) (value_of a r) r (wanted a)
unfolding value_of
writes a r c = by_start (Written a r) a c.start (one_writes a r) (two_writes a r) (three_writes a r) (four_writes a r) c.tails

-- a lead of the grammar
lead : (a n : ℕ) → lead_len a ≡ suc n → (wanted a ≡ n) × ((0x80 ≤ a → 0xc2 ≤ a) × (a < 0xf5))
unfolding lead_len wanted pick
lead a n l =
    split (ltb a 0x80) (λ q. let k = ltb-true a 0x80 q in let m = rw q at l in (rw q (omega (arith, m)), (λ h. omega arith, omega arith)))
    (λ q. let k = ltb-false a 0x80 q in split (ltb a 0xc2) (λ u. let m = rw (q, u) at l in absurd (omega (arith, m)))
    (λ u. let o = ltb-false a 0xc2 u in split (ltb a 0xe0)
    (λ v. let p = ltb-true a 0xe0 v in let m = rw (q, u, v) at l in (rw (q, v) (omega (arith, m)), (λ h. o, omega arith)))
    (λ v. split (ltb a 0xf0)
    (λ w. let p = ltb-true a 0xf0 w in let m = rw (q, u, v, w) at l in (rw (q, v, w) (omega (arith, m)), (λ h. o, omega arith)))
    (λ w. split (ltb a 0xf5)
    (λ x. let m = rw (q, u, v, w, x) at l in (rw (q, v, w) (omega (arith, m)), (λ h. o, ltb-true a 0xf5 x)))
    (λ x. let m = rw (q, u, v, w, x) at l in absurd (omega (arith, m)))))))

-- a character has all the continuation bytes that its start asks for
high_bound : (k : ℕ) → high_of k ≤ 0xbf
unfolding high_of
high_bound k =
    pick_case (λ v. v ≤ 0xbf) (eqb k 9) _ _ (λ e. lit≤ tt)
    (λ e. pick_case (λ v. v ≤ 0xbf) (eqb k 12) 0x8f 0xbf (λ d. lit≤ tt) (λ d. lit≤ tt))

tails_has : (low high n : ℕ) (r : List ℕ) → 0x80 ≤ low → high ≤ 0xbf → tails low high n r ≡ true → has_tails n r ≡ true
unfolding tails has_tails
tails_has low high zero r h g e = refl
tails_has low high (suc n) [] h g e = e
tails_has low high (suc n) (b ∷ r) h g e =
    let x : between low high b ≡ true = and_left (between low high b) _ e in
    let l = leb-true low b (and_left (leb low b) _ x) in
    let m = leb-true b high (and_right (leb low b) _ x) in
    rw (le-leb 0x80 b (omega arith), le-leb b 0xbf (omega arith)) (tails_has 0x80 0xbf n r (lit≤ tt) (lit≤ tt) (and_right (between low high b) _ e))

led : (a n : ℕ) (r : List ℕ) → (0x80 ≤ a → 0xc2 ≤ a) → a < 0xf5 → (n ≡ 0 → a < 0x80) → tails (low_of (class_of a)) (high_of (class_of a)) n r ≡ true → Led a (get_or r 0 0)
unfolding tails class_of low_of high_of pick
led a zero r h g z e = let k = z refl in record { two = h; e0 = λ q. omega arith; ed = λ q. omega arith; f0 = λ q. omega arith; f4 = λ q. omega arith; last = g }
led a (suc n) [] h g z e = never cc
led a (suc n) (b ∷ r) h g z e =
    let x : between (low_of (class_of a)) (high_of (class_of a)) b ≡ true = and_left (between (low_of (class_of a)) (high_of (class_of a)) b) _ e in
    let l : low_of (class_of a) ≤ b = leb-true _ b (and_left (leb (low_of (class_of a)) b) _ x) in
    let m : b ≤ high_of (class_of a) = leb-true b _ (and_right (leb (low_of (class_of a)) b) _ x) in
    record { two = h; e0 = λ q. rw q at l; ed = λ q. rw q at m; f0 = λ q. rw q at l; f4 = λ q. rw q at m; last = g }

-- and writes a scalar value with the fewest bytes
pub record Wrote (a : ℕ) (r : List ℕ) (n : ℕ) : Type 0 where
  pub whole : Complete a r
  pub count : wanted a ≡ n
  pub enough : least_of a ≤ value_of a r
  pub scalar : IsScalar (value_of a r)

pub wrote : (a : ℕ) (r : List ℕ) (n : ℕ) → char_len (a ∷ r) ≡ suc n → Wrote a r n
wrote a r n e =
    let (m, t) = char_tails a r n e in
    let (w, (h, g)) = lead a n (sym (size_is a) ∙ m) in
    let c : Complete a r = record {
      start = start_not a (λ k. omega (arith, h k)) (omega arith);
      tails = ap (λ (k : ℕ). has_tails k r) w ∙ tails_has _ _ n r (low_bound _) (high_bound _) t;
    } in
    let (l, s) = (writes a r c).fair (led a n r h g (λ z. none_asked a c.start (w ∙ z)) t) in record { whole = c; count = w; enough = l; scalar = s }

pub char_scalar : (a : ℕ) (r : List ℕ) (n : ℕ) → char_len (a ∷ r) ≡ suc n → (v : ℕ) × (IsScalar v × (encode v ≡ a ∷ take n r))
char_scalar a r n e =
    let w = wrote a r n e in (value_of a r, (w.scalar, (writes a r w.whole).back w.enough ∙ ap (λ (k : ℕ). a ∷ take k r) w.count))

abbrev Two : List ℕ → Type 0
Two l = length l < 3

abbrev Three : List ℕ → Type 0
Three l = length l < 4

-- fewer bytes than it has write a number below the least
pub fewer : (a v : ℕ) → no_start a ≡ false → v < least_of a → length (encode v) < suc (wanted a)
unfolding encode pick
fewer a v s =
    by_start (λ l b n. v < l → length (encode v) < suc n) a s
    (λ h l. absurd (omega arith))
    (λ h g l. rw (lt-ltb v 0x80 l) (lit≤ tt))
    (λ h g l. pick_case Two (ltb v 0x80) _ _ (λ e. lit≤ tt) (λ e. rw (lt-ltb v 0x800 l) (lit≤ tt)))
    (λ h g l. pick_case Three (ltb v 0x80) _ _ (λ e. lit≤ tt) (λ e. pick_case Three (ltb v 0x800) _ _ (λ d. lit≤ tt) (λ d. rw (lt-ltb v 0x10000 l) (lit≤ tt))))
