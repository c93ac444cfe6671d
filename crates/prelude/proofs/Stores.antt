-- Runs of clipped stores: one after another, past the room, over a whole front, and into a part of a buffer.
-- Assumes nothing.
use mathlib.Core.Path.{◌≡◌, refl, sym, ap, ◌∙◌}
use mathlib.Core.List.{List, [], ◌∷◌, ◌++◌, append-nil, append_assoc}
use Prim.Native.Nat.{ℕ, suc, ◌+◌, ◌-◌, ◌≤◌, ◌<◌}
use native.Mathlib.Nat.{zero-add, suc-add}
use native.Mathlib.Numerals.{add-one}
use native.Mathlib.Omega.{arith}
use borrow.Author.Tests.{leb-true, leb-false}
use lib.Dec.{leb}
use borrow.Rule.Slice.PartMut.{put_mid, put_same}
use lib.ListN.{length, get_or, take, drop, set, length-drop, length-take, drop_of_length-le, take-append-drop}
use lib.Seq.{sets, sets-eq, take-suc, take-add, set_out, set-set, set_comm, length-sets, get_or-drop, drop-drop, take_all, length-take-le}
use Rattle.prelude.proofs.Cases.{split}

pub sets_append : (xs ys t : List ℕ) (i j : ℕ) → i + length xs ≡ j → sets (sets t i xs) j ys ≡ sets t i (xs ++ ys)
sets_append [] ys t i j e = ap (λ (k : ℕ). sets t k ys) (let h : j ≡ i = omega arith in h)
sets_append (x ∷ xs) ys t i j e = sets_append xs ys (set t i x) (suc i) j (omega arith)

pub sets_out : (xs t : List ℕ) (i : ℕ) → length t ≤ i → sets t i xs ≡ t
sets_out [] t i h = refl
sets_out (x ∷ xs) t i h = rw (set_out t i x) (sets_out xs t (suc i) (omega arith))

-- one more byte copied
pub copied : (s t : List ℕ) (at o i : ℕ) → at + i < length s → set (sets t o (take i (drop at s))) (o + i) (get_or s (at + i) 0) ≡ sets t o (take (i + 1) (drop at s))
copied s t at o i h =
    let l : i < length (drop at s) = simp length-drop (omega arith) in
    let g : get_or (drop at s) i 0 ≡ get_or s (at + i) 0 = get_or-drop at s i 0 in
    sets_append (take i (drop at s)) (get_or s (at + i) 0 ∷ []) t o (o + i) (omega (arith, length-take-le i (drop at s) (omega arith)))
    ∙ rw (add-one i, take-suc (drop at s) i 0 l, g)

-- the bytes that find no room
pub clipped : (r t : List ℕ) (o m n : ℕ) → n ≤ length r → m ≤ n → (m ≡ n → ⊥) → length t - o ≤ m → sets t o (take m r) ≡ sets t o (take n r)
clipped r t o m n h l d f =
    let e : n ≡ m + (n - m) = omega arith in
    let a : take n r ≡ take m r ++ take (n - m) (drop m r) = ap (λ (k : ℕ). take k r) e ∙ take-add m (n - m) r in
    rw a (sym (sym (sets_append (take m r) (take (n - m) (drop m r)) t o (o + m) (omega (arith, length-take-le m r (omega arith))))
    ∙ sets_out (take (n - m) (drop m r)) (sets t o (take m r)) (o + m) (omega (arith, length-sets t o (take m r)))))

-- as many bytes copied as there is room for
pub copied_all : (r t : List ℕ) (o m n : ℕ) → n ≤ length r → m ≤ n → (n ≤ length t - o → m ≡ n) → (length t - o ≤ n → m ≡ length t - o) → sets t o (take m r) ≡ sets t o (take n r)
copied_all r t o m n h l f g =
    split (leb n (length t - o))
    (λ e. let p : m ≡ n = f (leb-true _ _ e) in ap (λ (k : ℕ). sets t o (take k r)) p)
    (λ e. let q : length t - o < n = leb-false n (length t - o) e in
    let p : m ≡ length t - o = g (omega arith) in clipped r t o m n h l (λ z. omega arith) (omega arith))

-- the same, with the lesser of two numbers
pub copied_least : (r t new : List ℕ) (o m n k : ℕ) → n ≤ length r → k ≡ length t - o → (m ≤ n) × (m ≤ k) × (n ≤ k → m ≡ n) × (k ≤ n → m ≡ k)
    → new ≡ sets t o (take m r) → new ≡ sets t o (take n r)
copied_least r t new o m n k h e l f =
    f ∙ copied_all r t o m n h l.0 (λ q. l.2 (omega arith)) (λ q. let z : m ≡ k = l.3 (omega arith) in omega arith)

-- stores that fit, over the front of a buffer
pub sets_over : (vs l : List ℕ) → length vs ≤ length l → sets l 0 vs ≡ vs ++ drop (length vs) l
sets_over vs l h = sets-eq vs l 0 (omega arith) ∙ rw zero-add

-- stored over by at least as many bytes
set_before : (b t : List ℕ) (i j y : ℕ) → j < i → set (sets t i b) j y ≡ sets (set t j y) i b
set_before [] t i j y h = refl
set_before (x ∷ b) t i j y h =
    set_before b (set t i x) (suc i) j y (omega arith) ∙ ap (λ (l : List ℕ). sets l (suc i) b) (set_comm t i j x y (λ e. omega arith))

pub sets_again : (b d t : List ℕ) (j : ℕ) → length b ≤ length d → sets (sets t j b) j d ≡ sets t j d
sets_again [] d t j h = refl
sets_again (x ∷ b) [] t j h = absurd (omega arith)
sets_again (x ∷ b) (y ∷ d) t j h =
    ap (λ (l : List ℕ). sets l (suc j) d) (set_before b (set t j x) (suc j) j y (omega arith) ∙ ap (λ (l : List ℕ). sets l (suc j) b) (set-set t j x y))
    ∙ sets_again b d (set t j y) (suc j) (omega arith)

-- a run of s from a place on whose first i bytes stand at o: k bytes more from its place j on, the first of which may be stored already
module _ (s t : List ℕ) (at o : ℕ) where
  pub further : (out new : List ℕ) (i j k m a p : ℕ) → j ≤ i → i ≤ m → j + k ≡ m → at + m ≤ length s → at + j ≡ a → o + j ≡ p
      → out ≡ sets t o (take i (drop at s)) → new ≡ sets out p (take k (drop a s)) → new ≡ sets t o (take m (drop at s))
  further out new i j k m a p h l n g u q e f =
      let x : List ℕ = drop at s in
      let b : List ℕ = take (i - j) (drop j x) in
      let d : List ℕ = take k (drop j x) in
      let z : length x ≡ length s - at = length-drop at s in
      let y : j + (i - j) ≡ i = omega arith in
      let c : o + length (take j x) ≡ p = omega (arith, length-take-le j x (omega arith)) in
      let v : sets t o (take i x) ≡ sets (sets t o (take j x)) p b =
      ap (λ (r : ℕ). sets t o (take r x)) (sym y) ∙ ap (sets t o) (take-add j (i - j) x) ∙ sym (sets_append (take j x) b t o p c) in
      let w : length b ≤ length d = omega (arith, length-take-le (i - j) (drop j x) (rw (length-drop j x) (omega arith)), length-take-le k (drop j x) (rw (length-drop j x) (omega arith))) in
      let r : take k (drop a s) ≡ d = ap (take k) (ap (λ (r : ℕ). drop r s) (sym u) ∙ sym (drop-drop j at s)) in
      f ∙ ap (sets out p) r ∙ ap (λ (r : List ℕ). sets r p d) (e ∙ v) ∙ sets_again b d (sets t o (take j x)) p w
      ∙ sets_append (take j x) d t o p c ∙ ap (sets t o) (sym (take-add j k x)) ∙ ap (λ (r : ℕ). sets t o (take r x)) n

-- n bytes that were put over a buffer of n, and then stored
pub staged : (x z b out new : List ℕ) (n o : ℕ) → n ≤ length x → length z ≡ n → b ≡ sets z 0 (take n x) → new ≡ sets out o (take n (drop 0 b))
    → new ≡ sets out o (take n x)
staged x z b out new n o h l e f =
    let m : length (take n x) ≡ n = length-take-le n x h in
    let c : b ≡ take n x =
    e ∙ sets_over (take n x) z (omega arith)
    ∙ ap (λ (r : List ℕ). take n x ++ r) (drop_of_length-le z {i = length (take n x)} (omega arith)) ∙ append-nil (take n x) in
    f ∙ ap (λ (r : List ℕ). sets out o (take n r)) c ∙ ap (sets out o) (take_all n (take n x) (omega arith))

pub empty_front : (xs l : List ℕ) → length xs ≡ 0 → xs ++ l ≡ l
empty_front [] l e = refl
empty_front (x ∷ xs) l e = let f : ⊥ = omega arith in absurd f

-- stores into the part of a buffer from a place on, or into none where the place is past the end
set_behind : (pre post : List ℕ) (i v : ℕ) → set (pre ++ post) (length pre + i) v ≡ pre ++ set post i v
set_behind [] post i v = rw (zero-add i)
set_behind (x ∷ pre) post i v = rw (suc-add (length pre) i) (ap (λ (l : List ℕ). x ∷ l) (set_behind pre post i v))

sets_behind : (xs pre post : List ℕ) (i : ℕ) → pre ++ sets post i xs ≡ sets (pre ++ post) (length pre + i) xs
sets_behind [] pre post i = refl
sets_behind (v ∷ xs) pre post i =
    sets_behind xs pre (set post i v) (suc i)
    ∙ (λ j. sets (sym (set_behind pre post i v) j) ((let e : length pre + suc i ≡ suc (length pre + i) = omega arith in e) j) xs)

part_inside : (out xs : List ℕ) (o : ℕ) → o ≤ length out
    → put_mid o (length out - o) out (sets (take (length out - o) (drop o out)) 0 xs) ≡ sets out o xs
part_inside out xs o l =
    let p : take (length out - o) (drop o out) ≡ drop o out = take_all (length out - o) (drop o out) (omega (arith, length-drop o out)) in
    let q : drop (length out - o) (drop o out) ≡ [] = drop_of_length-le (drop o out) {i = length out - o} (omega (arith, length-drop o out)) in
    let n : length (take o out) + 0 ≡ o = omega (arith, length-take-le o out l) in
    (λ j. take o out ++ (sets (p j) 0 xs ++ q j))
    ∙ ap (λ (x : List ℕ). take o out ++ x) (append-nil (sets (drop o out) 0 xs))
    ∙ sets_behind xs (take o out) (drop o out) 0
    ∙ (λ j. sets (take-append-drop o out j) (n j) xs)

part_outside : (out xs : List ℕ) (o b : ℕ) → length out ≤ o → b ≡ length out
    → put_mid b (length out - b) out (sets (take (length out - b) (drop b out)) 0 xs) ≡ sets out o xs
part_outside out xs o b l e =
    let z : length (take (length out - b) (drop b out)) ≤ 0 = omega (arith, length-take (length out - b) (drop b out)) in
    ap (put_mid b (length out - b) out) (sets_out xs (take (length out - b) (drop b out)) 0 z)
    ∙ put_same b (length out - b) out ∙ sym (sets_out xs out o l)

pub sets_part : (out xs : List ℕ) (o b : ℕ) → (o ≤ length out → b ≡ o) → (length out ≤ o → b ≡ length out)
    → put_mid b (length out - b) out (sets (take (length out - b) (drop b out)) 0 xs) ≡ sets out o xs
sets_part out xs o b f g =
    split (leb o (length out))
    (λ q. let l : o ≤ length out = leb-true _ _ q in rw (f l) (part_inside out xs o l))
    (λ q. let l : length out < o = leb-false o (length out) q in part_outside out xs o b (omega arith) (g (omega arith)))

-- a part of a buffer replaced
pub part_filled : (s xs : List ℕ) (m e : ℕ) → e ≡ m + length xs → e ≤ length s → put_mid m (e - m) s xs ≡ sets s m xs
part_filled s xs m e h g =
    let a : m + (e - m) ≡ m + length xs = omega arith in
    sym (sets-eq xs s m (omega arith) ∙ append_assoc (take m s) xs (drop (m + length xs) s)
    ∙ ap (λ (r : List ℕ). take m s ++ (xs ++ r)) (ap (λ (k : ℕ). drop k s) (sym a) ∙ sym (drop-drop (e - m) m s)))
