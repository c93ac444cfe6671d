-- Laws of the character check: by the class of its first byte a character has a size and that many continuation bytes less one,
-- which is counted along the list; the laws of validity then go character by character.
-- Assumes nothing.
use Prim.Native.Nat.{ℕ, zero, suc, pred, ◌≤◌, ◌<◌, zero-le, suc-le-suc}
use mathlib.Core.Bool.{Bool, true, false, ◌&&◌}
use mathlib.Core.List.{List, [], ◌∷◌, ◌++◌}
use mathlib.Core.Path.{◌≡◌, refl, sym, ap, ◌∙◌}
use native.Mathlib.Omega.{arith}
use lib.Dec.{ltb, eqb, lit≤}
use lib.ListN.{length, take, drop, get_or}
use lib.Seq.{drop-nil, take-length, drop-append_seam}
use borrow.Author.Tests.{eqb-true, ltb-true, ltb-false, lt-ltb, lt-leb}
use Rattle.prelude.specs.Pick.{pick}
use Rattle.prelude.proofs.Cases.{split, and_left, and_right}
use Rattle.prelude.proofs.Picks.{pick_case}
use Rattle.prelude.proofs.Tables.{at_below}
use Rattle.utf8.specs.Class.{class_of, plain_run}
use Rattle.utf8.specs.Utf8.{between, tail, low_of, high_of, two_bytes, three_bytes, four_bytes, long_len, len_by, char_len, positive, valid_from}

-- n bytes stand first: one from low to high, and then continuation bytes
unfoldable pub tails : ℕ → ℕ → ℕ → List ℕ → Bool
tails low high zero r = true
tails low high (suc n) [] = false
tails low high (suc n) (b ∷ r) = between low high b && tails 0x80 0xbf n r

-- the length of the characters whose first byte has class k, 0 where there are none
unfoldable pub size_of : ℕ → ℕ
size_of k = pick (ltb k 5) 1 (pick (ltb k 6) 0 (pick (ltb k 7) 2 (pick (ltb k 10) 3 (pick (ltb k 13) 4 0))))

pub low_bound : (k : ℕ) → 0x80 ≤ low_of k
unfolding low_of
low_bound k =
    pick_case (λ v. 0x80 ≤ v) (eqb k 8) _ _ (λ e. lit≤ tt)
    (λ e. pick_case (λ v. 0x80 ≤ v) (eqb k 11) 0x90 0x80 (λ d. lit≤ tt) (λ d. lit≤ tt))

-- the test of the continuation bytes, byte by byte
tails_first : (low high n m : ℕ) (r : List ℕ) → 0x80 ≤ low
    → pick (tails low high (suc n) r) m 0 ≡ pick (between low high (get_or r 0 0)) (pick (tails 0x80 0xbf n (drop 1 r)) m 0) 0
unfolding tails pick
tails_first low high n m [] h = rw (lt-leb low 0 (omega arith))
tails_first low high n m (b ∷ r) h = split (between low high b) (λ e. simp e) (λ e. simp e)

tails_next : (n m i : ℕ) (r : List ℕ)
    → pick (tails 0x80 0xbf (suc n) (drop i r)) m 0 ≡ pick (tail (get_or r i 0)) (pick (tails 0x80 0xbf n (drop (suc i) r)) m 0) 0
unfolding tails pick
tails_next n m zero r = tails_first 0x80 0xbf n m r (lit≤ tt)
tails_next n m (suc i) [] = refl
tails_next n m (suc i) (x ∷ r) = tails_next n m i r

lead_two : (low_of 6 ≡ 0x80) × (high_of 6 ≡ 0xbf)
unfolding low_of high_of pick
lead_two = (refl, refl)

tails_two : (r : List ℕ) → ◌≡◌ {A = ℕ} (pick (tails (low_of 6) (high_of 6) 1 r) 2 0) (pick (tails 0x80 0xbf 1 r) 2 0)
tails_two r = rw (lead_two.0, lead_two.1)

-- the length by the class k of the first byte, and r behind it
len_is : (k : ℕ) (r : List ℕ) → len_by k (get_or r 0 0) (get_or r 1 0) (get_or r 2 0) ≡ pick (tails (low_of k) (high_of k) (pred (size_of k)) r) (size_of k) 0
unfolding len_by long_len size_of two_bytes three_bytes four_bytes tails pick
len_is k r =
    split (ltb k 5) (λ a. simp a)
    (λ a. split (ltb k 6) (λ b. simp (a, b))
    (λ b. split (ltb k 7)
    (λ c. let e : k ≡ 6 = omega (arith, ltb-false k 6 b, ltb-true k 7 c) in
    rw e (sym (tails_two r ∙ tails_first 0x80 0xbf 0 2 r (lit≤ tt))))
    (λ c. split (ltb k 10)
    (λ d. simp (a, b, c, d) (sym (tails_first (low_of k) (high_of k) 1 3 r (low_bound k) ∙ rw (tails_next 0 3 1 r))))
    (λ d. split (ltb k 13)
    (λ e. simp (a, b, c, d, e) (sym (tails_first (low_of k) (high_of k) 2 4 r (low_bound k) ∙ rw (tails_next 1 4 1 r, tails_next 0 4 2 r))))
    (λ e. simp (a, b, c, d, e))))))

pub char_is : (a : ℕ) (r : List ℕ)
    → char_len (a ∷ r) ≡ pick (tails (low_of (class_of a)) (high_of (class_of a)) (pred (size_of (class_of a))) r) (size_of (class_of a)) 0
unfolding char_len
char_is a r = len_is (class_of a) r

-- a character at the head: its first byte tells its length, and the rest of it is there
pub char_tails : (a : ℕ) (r : List ℕ) (n : ℕ) → char_len (a ∷ r) ≡ suc n
    → (size_of (class_of a) ≡ suc n) × (tails (low_of (class_of a)) (high_of (class_of a)) n r ≡ true)
unfolding pick
char_tails a r n e =
    let k : ℕ = class_of a in
    let f : pick (tails (low_of k) (high_of k) (pred (size_of k)) r) (size_of k) 0 ≡ suc n = sym (char_is a r) ∙ e in
    split (tails (low_of k) (high_of k) (pred (size_of k)) r)
    (λ q. let l : size_of k ≡ suc n = rw q at f in (l, rw l at q))
    (λ q. let z : ◌≡◌ {A = ℕ} 0 (suc n) = rw q at f in (cc, cc))

pub tails_char : (a : ℕ) (r : List ℕ) (n : ℕ) → size_of (class_of a) ≡ suc n → tails (low_of (class_of a)) (high_of (class_of a)) n r ≡ true
    → char_len (a ∷ r) ≡ suc n
unfolding pick
tails_char a r n l q = char_is a r ∙ simp (l, q)

tails_length : (low high n : ℕ) (r : List ℕ) → tails low high n r ≡ true → n ≤ length r
unfolding tails
tails_length low high zero r e = zero-le
tails_length low high (suc n) [] e = let z : ◌≡◌ {A = ℕ} 0 1 = cc in omega arith
tails_length low high (suc n) (b ∷ r) e = suc-le-suc (tails_length 0x80 0xbf n r (and_right (between low high b) _ e))

-- only the bytes counted matter
tails_take : (low high n : ℕ) (r t : List ℕ) → tails low high n r ≡ true → tails low high n (take n r ++ t) ≡ true
unfolding tails
tails_take low high zero r t e = refl
tails_take low high (suc n) [] t e = cc
tails_take low high (suc n) (b ∷ r) t e =
    rw (and_left (between low high b) _ e) (tails_take 0x80 0xbf n r t (and_right (between low high b) _ e))

pub char_length : (a : ℕ) (r : List ℕ) (n : ℕ) → char_len (a ∷ r) ≡ suc n → n ≤ length r
char_length a r n e = tails_length _ _ n r (char_tails a r n e).1

-- a character is read the same whatever follows it
pub char_take : (a : ℕ) (r t : List ℕ) (n : ℕ) → char_len (a ∷ r) ≡ suc n → char_len (a ∷ (take n r ++ t)) ≡ suc n
char_take a r t n e = let (l, q) = char_tails a r n e in tails_char a (take n r ++ t) n l (tails_take _ _ n r t q)

pub char_le : (s : List ℕ) → char_len s ≤ length s
unfolding char_len
char_le [] = zero-le
char_le (a ∷ r) = go (char_len (a ∷ r)) refl
  where
    go : (n : ℕ) → char_len (a ∷ r) ≡ n → n ≤ suc (length r)
    go zero e = zero-le
    go (suc n) e = suc-le-suc (char_length a r n e)

-- the length of a character of a class, where the class alone tells it
class_one : (a : ℕ) (r : List ℕ) → class_of a < 5 → char_len (a ∷ r) ≡ 1
unfolding char_len len_by pick
class_one a r h = simp (lt-ltb (class_of a) 5 h)

-- a character has at most four bytes
abbrev Few4 : ℕ → Type 0
Few4 n = n ≤ 4

pub char_few : (r : List ℕ) → char_len r ≤ 4
unfolding char_len len_by long_len two_bytes three_bytes four_bytes
char_few [] = omega arith
char_few (a ∷ r) =
    pick_case Few4 _ _ _ (λ e. omega arith) (λ e.
    pick_case Few4 _ _ _ (λ e. omega arith) (λ e.
    pick_case Few4 _ _ _ (λ e. pick_case Few4 _ _ _ (λ e. omega arith) (λ e. omega arith)) (λ e.
    pick_case Few4 _ _ _
    (λ e. pick_case Few4 _ _ _ (λ e. pick_case Few4 _ _ _ (λ e. omega arith) (λ e. omega arith)) (λ e. omega arith)) (λ e.
    pick_case Few4 _ _ _
    (λ e. pick_case Few4 _ _ _
    (λ e. pick_case Few4 _ _ _ (λ e. pick_case Few4 _ _ _ (λ e. omega arith) (λ e. omega arith)) (λ e. omega arith))
    (λ e. omega arith))
    (λ e. omega arith)))))

pub ascii_len : (a : ℕ) (r : List ℕ) → a < 0x80 → char_len (a ∷ r) ≡ 1
unfolding class_of pick
ascii_len a r h = class_one a r (ltb-true (class_of a) 5 (at_below (λ (b : ℕ). ltb (class_of b) 5) 0x80 refl a h))

-- a byte that begins no character isn't ASCII
pub high_start : (a : ℕ) (r : List ℕ) → char_len (a ∷ r) ≡ 0 → 0x80 ≤ a
high_start a r e = split (ltb a 0x80) (λ l. absurd (omega (arith, ascii_len a r (ltb-true a 0x80 l), e))) (λ l. ltb-false a 0x80 l)

pub valid_skip : (k : ℕ) (s : List ℕ) → valid_from k s ≡ valid_from 0 (drop k s)
unfolding valid_from
valid_skip zero s = refl
valid_skip (suc k) [] = refl
valid_skip (suc k) (x ∷ r) = valid_skip k r

-- a whole character in front is taken off
pub valid_char : (a : ℕ) (r t : List ℕ) → char_len (a ∷ r) ≡ suc (length r) → valid_from 0 ((a ∷ r) ++ t) ≡ valid_from 0 t
unfolding valid_from
valid_char a r t e =
    let c : char_len (a ∷ (r ++ t)) ≡ suc (length r) = rw take-length at (char_take a r t (length r) e) in
    rw c (valid_skip (length r) (r ++ t) ∙ ap (valid_from 0) (drop-append_seam r t))

-- one step of the check
pub valid_step : (s : List ℕ) → (char_len s ≡ 0 → ⊥) → valid_from 0 s ≡ valid_from 0 (drop (char_len s) s)
unfolding valid_from
valid_step [] h = rw drop-nil
valid_step (x ∷ r) h = go (char_len (x ∷ r)) refl
  where
    go : (n : ℕ) → char_len (x ∷ r) ≡ n → positive n && valid_from (pred n) r ≡ valid_from 0 (drop n (x ∷ r))
    go zero e = absurd (h e)
    go (suc n) e = valid_skip n r

pub valid_stuck : (s : List ℕ) → 0 < length s → char_len s ≡ 0 → valid_from 0 s ≡ false
unfolding valid_from
valid_stuck [] h e = absurd (omega arith)
valid_stuck (x ∷ r) h e = rw e

-- plain bytes in front are taken off
pub valid_plain : (n : ℕ) (s : List ℕ) → n ≤ plain_run s → valid_from 0 s ≡ valid_from 0 (drop n s)
unfolding plain_run valid_from pick
valid_plain zero s h = refl
valid_plain (suc n) [] h = absurd (omega arith)
valid_plain (suc n) (x ∷ r) h =
    split (eqb (class_of x) 0)
    (λ e. rw (class_one x r (omega (arith, eqb-true (class_of x) 0 e))) (valid_plain n r (omega (arith, rw e at h))))
    (λ e. absurd (omega (arith, rw e at h)))
