-- The pattern of a scalar value is a character that the check takes: a byte's class is read off the byte by a table, and the rest is arithmetic on two, three
-- or four bytes.
-- Assumes nothing.
use Prim.Native.Nat.{ℕ, suc, ◌+◌, ◌/◌, ◌%◌, ◌≤◌, ◌<◌}
use mathlib.Core.Bool.{true}
use mathlib.Core.List.{List, [], ◌∷◌}
use mathlib.Core.Path.{◌≡◌, refl, ◌∙◌}
use native.Mathlib.Omega.{arith}
use lib.Dec.{ltb, leb, eqb, lit≤}
use lib.ListN.{length}
use borrow.Author.Tests.{eqb-true, ltb-true, ltb-false, leb-true, leb-false, lt-ltb, le-ltb, le-leb, ne_eqb}
use Rattle.prelude.specs.Pick.{pick}
use Rattle.prelude.proofs.Cases.{split}
use Rattle.prelude.proofs.Picks.{pick_case}
use Rattle.utf8.specs.Class.{class_of}
use Rattle.utf8.specs.Claims.{IsScalar}
use Rattle.utf8.specs.Utf8.{between, low_of, high_of, char_len, encode}
use Rattle.utf8.proofs.ByteClasses.{by_byte_lem}
use Rattle.utf8.proofs.Characters.{tails, size_of, tails_char, ascii_len}

-- the length of the characters that a byte leads, 0 where it leads none, and the bounds of its second byte
unfoldable pub lead_len : ℕ → ℕ
lead_len a = pick (ltb a 0x80) 1 (pick (ltb a 0xc2) 0 (pick (ltb a 0xe0) 2 (pick (ltb a 0xf0) 3 (pick (ltb a 0xf5) 4 0))))

unfoldable pub second_low : ℕ → ℕ
second_low a = pick (eqb a 0xe0) 0xa0 (pick (eqb a 0xf0) 0x90 0x80)

unfoldable pub second_high : ℕ → ℕ
second_high a = pick (eqb a 0xed) 0x9f (pick (eqb a 0xf4) 0x8f 0xbf)

pub size_is : (a : ℕ) → size_of (class_of a) ≡ lead_len a
unfolding class_of size_of lead_len pick
size_is =
    by_byte_lem size_of lead_len refl
    (λ a h. simp (le-ltb a 0x80 (omega arith), le-ltb a 0xc2 (omega arith), le-ltb a 0xe0 (omega arith), le-ltb a 0xf0 (omega arith), le-ltb a 0xf5 h))

pub low_is : (a : ℕ) → low_of (class_of a) ≡ second_low a
unfolding class_of low_of second_low pick
low_is = by_byte_lem low_of second_low refl (λ a h. simp (ne_eqb a 0xe0 (λ z. omega arith), ne_eqb a 0xf0 (λ z. omega arith)))

pub high_is : (a : ℕ) → high_of (class_of a) ≡ second_high a
unfolding class_of high_of second_high pick
high_is = by_byte_lem high_of second_high refl (λ a h. simp (ne_eqb a 0xed (λ z. omega arith), ne_eqb a 0xf4 (λ z. omega arith)))

-- one character and nothing more
abbrev pub OneChar : List ℕ → Type 0
OneChar [] = ⊥
OneChar (a ∷ r) = char_len (a ∷ r) ≡ suc (length r)

low_le : (a b : ℕ) → 0x80 ≤ b → (a ≡ 0xe0 → 0xa0 ≤ b) → (a ≡ 0xf0 → 0x90 ≤ b) → leb (low_of (class_of a)) b ≡ true
unfolding second_low
low_le a b h f g =
    rw (low_is a) (le-leb _ b
    (pick_case (λ m. m ≤ b) (eqb a 0xe0) 0xa0 _ (λ e. f (eqb-true a 0xe0 e))
    (λ e. pick_case (λ m. m ≤ b) (eqb a 0xf0) 0x90 0x80 (λ d. g (eqb-true a 0xf0 d)) (λ d. h))))

high_ge : (a b : ℕ) → b ≤ 0xbf → (a ≡ 0xed → b ≤ 0x9f) → (a ≡ 0xf4 → b ≤ 0x8f) → leb b (high_of (class_of a)) ≡ true
unfolding second_high
high_ge a b h f g =
    rw (high_is a) (le-leb b _
    (pick_case (λ m. b ≤ m) (eqb a 0xed) 0x9f _ (λ e. f (eqb-true a 0xed e))
    (λ e. pick_case (λ m. b ≤ m) (eqb a 0xf4) 0x8f 0xbf (λ d. g (eqb-true a 0xf4 d)) (λ d. h))))

cont : (b : ℕ) → 0x80 ≤ b → b ≤ 0xbf → between 0x80 0xbf b ≡ true
cont b h g = simp (le-leb 0x80 b h, le-leb b 0xbf g)

pub two_char : (a b : ℕ) → 0xc2 ≤ a → a < 0xe0 → 0x80 ≤ b → b ≤ 0xbf → OneChar (a ∷ b ∷ [])
unfolding tails lead_len pick
two_char a b h g k l =
    tails_char a (b ∷ []) 1 (size_is a ∙ simp (le-ltb a 0x80 (omega arith), le-ltb a 0xc2 h, lt-ltb a 0xe0 g))
    (rw (low_le a b k (λ e. omega arith) (λ e. omega arith), high_ge a b l (λ e. omega arith) (λ e. omega arith)))

pub three_char : (a b c : ℕ) → 0xe0 ≤ a → a < 0xf0 → 0x80 ≤ b → b ≤ 0xbf → (a ≡ 0xe0 → 0xa0 ≤ b) → (a ≡ 0xed → b ≤ 0x9f) → 0x80 ≤ c → c ≤ 0xbf
    → OneChar (a ∷ b ∷ c ∷ [])
unfolding tails lead_len pick
three_char a b c h g k l f e m n =
    tails_char a (b ∷ c ∷ []) 2 (size_is a ∙ simp (le-ltb a 0x80 (omega arith), le-ltb a 0xc2 (omega arith), le-ltb a 0xe0 h, lt-ltb a 0xf0 g))
    (rw (low_le a b k f (λ e. omega arith), high_ge a b l e (λ e. omega arith), cont c m n))

pub four_char : (a b c d : ℕ) → 0xf0 ≤ a → a < 0xf5 → 0x80 ≤ b → b ≤ 0xbf → (a ≡ 0xf0 → 0x90 ≤ b) → (a ≡ 0xf4 → b ≤ 0x8f)
    → 0x80 ≤ c → c ≤ 0xbf → 0x80 ≤ d → d ≤ 0xbf → OneChar (a ∷ b ∷ c ∷ d ∷ [])
unfolding tails lead_len pick
four_char a b c d h g k l f e m n o q =
    tails_char a (b ∷ c ∷ d ∷ []) 3
    (size_is a ∙ simp (le-ltb a 0x80 (omega arith), le-ltb a 0xc2 (omega arith), le-ltb a 0xe0 (omega arith), le-ltb a 0xf0 h, lt-ltb a 0xf5 g))
    (rw (low_le a b k (λ e. omega arith) f, high_ge a b l (λ e. omega arith) e, cont c m n, cont d o q))

-- the numbers that UTF-8 encodes
encode_three : (v : ℕ) → 0x800 ≤ v → v < 0x10000 → IsScalar v → OneChar ((0xe0 + v / 0x1000) ∷ (0x80 + v / 0x40 % 0x40) ∷ (0x80 + v % 0x40) ∷ [])
encode_three v a b n =
    three_char (0xe0 + v / 0x1000) (0x80 + v / 0x40 % 0x40) (0x80 + v % 0x40)
    (omega arith) (omega arith) (omega arith) (omega arith) (λ e. omega arith)
    (λ e. split (leb 0xd800 v)
    (λ l. let m : 0xd800 ≤ v = leb-true 0xd800 v l in absurd (n.1 m (omega arith)))
    (λ l. let m : v < 0xd800 = leb-false 0xd800 v l in omega arith))
    (omega arith) (omega arith)

pub encode_char : (v : ℕ) → IsScalar v → OneChar (encode v)
unfolding encode
encode_char v n =
    pick_case OneChar (ltb v 0x80) _ _ (λ e. ascii_len v [] (ltb-true v 0x80 e))
    (λ e. let a : 0x80 ≤ v = ltb-false v 0x80 e in pick_case OneChar (ltb v 0x800) _ _
    (λ d. let b : v < 0x800 = ltb-true v 0x800 d in two_char (0xc0 + v / 0x40) (0x80 + v % 0x40) (omega arith) (omega arith) (omega arith) (omega arith))
    (λ d. let b : 0x800 ≤ v = ltb-false v 0x800 d in pick_case OneChar (ltb v 0x10000) _ _
    (λ c. encode_three v b (ltb-true v 0x10000 c) n)
    (λ c. let f : 0x10000 ≤ v = ltb-false v 0x10000 c in let g : v < 0x110000 = n.0 in
    four_char (0xf0 + v / 0x40000) (0x80 + v / 0x1000 % 0x40) (0x80 + v / 0x40 % 0x40) (0x80 + v % 0x40)
    (omega arith) (omega arith) (omega arith) (omega arith) (λ e. omega arith) (λ e. omega arith) (omega arith) (omega arith) (omega arith) (omega arith))))

abbrev Few : List ℕ → Type 0
Few l = length l ≤ 4

pub encode_few : (v : ℕ) → length (encode v) ≤ 4
unfolding encode
encode_few v =
    pick_case Few (ltb v 0x80) _ _ (λ e. lit≤ tt)
    (λ e. pick_case Few (ltb v 0x800) _ _ (λ d. lit≤ tt) (λ d. pick_case Few (ltb v 0x10000) _ _ (λ c. lit≤ tt) (λ c. lit≤ tt)))
