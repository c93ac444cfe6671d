-- The texts of bytes: one by one and by their classes, eight that stand as they are, and one part behind another.
-- Assumes nothing.
use mathlib.Core.Path.{◌≡◌, refl, sym, ap, ◌∙◌, subst}
use mathlib.Core.Bool.{Bool, true, false, ◌||◌}
use mathlib.Core.List.{List, [], ◌∷◌, ◌++◌, append_assoc, append-nil}
use Prim.Native.Nat.{ℕ, zero, suc, ◌+◌, ◌-◌, ◌*◌, ◌/◌, ◌^◌, ◌≤◌, ◌<◌}
use native.Mathlib.Omega.{arith}
use native.Mathlib.Nat.{add-zero}
use borrow.Author.Tests.{lt-ltb, le-ltb, ne_eqb, ltb-true, ltb-false, eqb-true}
use lib.Bits.{bit_and}
use lib.Dec.{ltb, eqb, lit≤}
use lib.ListN.{length, get_or, take, drop, set, length-append, length-drop, length-take}
use Rattle.prelude.specs.Bytes.{double_quote, backslash}
use Rattle.prelude.proofs.Tables.{all_below, at_below}
use lib.Seq.{sets, length-sets, set-set, drop-cons, drop-drop, take-add, take-suc, length-take-le, get_or-drop}
use Rattle.prelude.specs.Pick.{pick}
use Rattle.prelude.proofs.Cases.{split, never}
use Rattle.prelude.proofs.Picks.{pick_case}
use Rattle.prelude.proofs.Stores.{sets_append, copied}
use Rattle.utf8.specs.Class.{class_of}
use Rattle.utf8.proofs.ByteClasses.{by_byte_lem}
use Rattle.notation.specs.declared.styles.Form.TheVariants.{AsJson}
use Rattle.escapes.specs.Escapes.{lookup}
use Rattle.units.specs.Written.{escape_byte, by_number, escaped}
use Rattle.bytewise.specs.inner.Bytewise.{byte_text, bytes_text, text_of, Unmarked, Texted}

-- one byte

abbrev Short : List ℕ → Type 0
Short l = length l ≤ 6

pub escape_short : (x : ℕ) → length (escape_byte AsJson x) ≤ 6
unfolding escape_byte by_number
escape_short x =
    pick_case Short (eqb (lookup x (escaped AsJson)) 0) (by_number AsJson x) (backslash ∷ lookup x (escaped AsJson) ∷ [])
    (λ a. lit≤ tt) (λ a. lit≤ tt)

-- a byte that stands as it is unless it is a control
abbrev pub AsItIs : ℕ → Type 0
AsItIs b = 32 ≤ b → byte_text b ≡ b ∷ []

pub unslashed : (b : ℕ) → eqb b double_quote || eqb b backslash ≡ false → AsItIs b
unfolding byte_text pick
unslashed b e h = rw (le-ltb b 32 h, e)

-- a byte that is no control, stored over a backslash or behind it
pub text_stored : (b n o : ℕ) (out : List ℕ) → 32 ≤ b → n ≡ pick (eqb b double_quote || eqb b backslash) 1 0
    → (o + n + 1 ≡ o + length (byte_text b)) × (set (set out o backslash) (o + n) b ≡ sets out o (byte_text b))
unfolding byte_text pick
text_stored b n o out h e =
    split (eqb b double_quote || eqb b backslash)
    (λ t. let m : n ≡ 1 = e ∙ rw t in let a : o + 1 ≡ suc o = omega arith in simp (le-ltb b 32 h, t) (rw m (omega arith), rw (m, a) refl))
    (λ t. let m : n ≡ 0 = e ∙ rw t in simp (le-ltb b 32 h, t) (rw m (omega arith), rw (m, add-zero o) (set-set out o backslash b)))

-- by the class of the byte

abbrev slash_of : ℕ → ℕ
slash_of k = pick (eqb k 2 || eqb k 4) 1 0

abbrev slash_by : ℕ → ℕ
slash_by b = pick (eqb b double_quote || eqb b backslash) 1 0

abbrev shifted : ℕ → ℕ
shifted k = bit_and (20 / 2 ^ k) 1

slash_shifts : all_below (λ k. eqb (shifted k) (slash_of k)) 16 ≡ true
unfolding pick
slash_shifts = refl

pub slash_shift : (k : ℕ) → k < 16 → shifted k ≡ slash_of k
slash_shift k h = eqb-true _ _ (at_below (λ k. eqb (shifted k) (slash_of k)) 16 slash_shifts k h)

slash_test : all_below (λ b. eqb (slash_of (class_of b)) (slash_by b)) 0xf5 ≡ true
unfolding class_of pick
slash_test = refl

pub slash_class : (b k n : ℕ) → k ≡ class_of b → n ≡ slash_of k → n ≡ slash_by b
unfolding pick
slash_class b k n e f =
    f ∙ ap slash_of e
    ∙ by_byte_lem slash_of slash_by slash_test (λ a h. let z : slash_of 13 ≡ slash_by a = rw (ne_eqb a double_quote (λ z. omega arith), ne_eqb a backslash (λ z. omega arith)) refl in z) b

abbrev one_of : ℕ → ℕ
one_of k = pick (eqb k 1) 1 0

abbrev low_by : ℕ → ℕ
low_by b = pick (ltb b 32) 1 0

control_test : all_below (λ b. eqb (one_of (class_of b)) (low_by b)) 0xf5 ≡ true
unfolding class_of pick
control_test = refl

control_class : (b : ℕ) → one_of (class_of b) ≡ low_by b
unfolding pick
control_class = by_byte_lem one_of low_by control_test (λ a h. let z : one_of 13 ≡ low_by a = rw (le-ltb a 32 (omega arith)) refl in z)

abbrev few_of : ℕ → ℕ
few_of k = pick (ltb k 16) 1 0

abbrev always : ℕ → ℕ
always b = 1

few_test : all_below (λ b. eqb (few_of (class_of b)) (always b)) 0xf5 ≡ true
unfolding class_of pick
few_test = refl

few_class : (b : ℕ) → few_of (class_of b) ≡ always b
unfolding pick
few_class = by_byte_lem few_of always few_test (λ a h. refl)

pub class_few : (b k : ℕ) → k ≡ class_of b → k < 16
unfolding pick
class_few b k e =
    rw e (split (ltb (class_of b) 16) (λ t. ltb-true _ _ t)
    (λ t. let z : ◌≡◌ {A = ℕ} 0 1 = rw t at (few_class b) in never z))

pub is_control : (b k : ℕ) → k ≡ class_of b → k ≡ 1 → b < 32
unfolding pick
is_control b k e f =
    split (ltb b 32) (λ t. ltb-true b 32 t)
    (λ t. let g : class_of b ≡ 1 = sym e ∙ f in let z : ◌≡◌ {A = ℕ} 1 0 = rw (g, t) at (control_class b) in never (sym z))

pub no_control : (b k : ℕ) → k ≡ class_of b → (k ≡ 1 → ⊥) → 32 ≤ b
unfolding pick
no_control b k e f =
    split (ltb b 32)
    (λ t. let g : eqb (class_of b) 1 ≡ false = ne_eqb (class_of b) 1 (λ z. f (e ∙ z)) in let z : ◌≡◌ {A = ℕ} 0 1 = rw (g, t) at (control_class b) in never z)
    (λ t. ltb-false b 32 t)

pub slash_within : (t : Bool) (n : ℕ) → n ≡ pick t 1 0 → n ≤ 1
unfolding pick
slash_within true n e = omega arith
slash_within false n e = omega arith

pub control_text : (b : ℕ) → b < 32 → escape_byte AsJson b ≡ byte_text b
unfolding byte_text pick
control_text b h = rw (lt-ltb b 32 h)

-- four bytes stored one by one
pub four_stored : (s out : List ℕ) (at o : ℕ) → at + 4 ≤ length s
    → set (set (set (set out o (get_or s at 0)) (o + 1) (get_or s (at + 1) 0)) (o + 2) (get_or s (at + 2) 0)) (o + 3) (get_or s (at + 3) 0)
    ≡ sets out o (take 4 (drop at s))
four_stored s out at o h =
    ap (λ (x : List ℕ). set x (o + 3) (get_or s (at + 3) 0)) (
    ap (λ (x : List ℕ). set x (o + 2) (get_or s (at + 2) 0)) (
    ap (λ (x : List ℕ). set x (o + 1) (get_or s (at + 1) 0)) (one ∙ refl)
    ∙ copied s out at o 1 (omega arith)) ∙ copied s out at o 2 (omega arith)) ∙ copied s out at o 3 (omega arith)
  where
    one : set out o (get_or s at 0) ≡ sets out o (take 1 (drop at s))
    one = rw (drop-cons s at 0 (omega arith)) refl

-- all bytes

pub bytes_append : (s t : List ℕ) → bytes_text (s ++ t) ≡ bytes_text s ++ bytes_text t
unfolding bytes_text
bytes_append [] t = refl
bytes_append (x ∷ s) t = ap (λ (l : List ℕ). byte_text x ++ l) (bytes_append s t) ∙ sym (append_assoc (byte_text x) (bytes_text s) (bytes_text t))

bytes_one : (x : ℕ) → bytes_text (x ∷ []) ≡ byte_text x
unfolding bytes_text
bytes_one x = append-nil (byte_text x)

byte_length : (x : ℕ) → length (byte_text x) ≤ 6
unfolding byte_text
byte_length x =
    pick_case Short (ltb x 32) (escape_byte AsJson x) _ (λ a. escape_short x)
    (λ a. pick_case Short (eqb x double_quote || eqb x backslash) (backslash ∷ x ∷ []) (x ∷ []) (λ b. lit≤ tt) (λ b. lit≤ tt))

bytes_length : (s : List ℕ) → length (bytes_text s) ≤ 6 * length s
unfolding bytes_text
bytes_length [] = omega arith
bytes_length (x ∷ r) = omega (arith, length-append (byte_text x) (bytes_text r), byte_length x, bytes_length r)

-- the text of a part, piece by piece

module _ (s : List ℕ) where
  text_then : (from mid at : ℕ) → from ≤ mid → mid ≤ at → text_of s from at ≡ text_of s from mid ++ text_of s mid at
  text_then from mid at h l =
      let e : at - from ≡ (mid - from) + (at - mid) = omega arith in
      let d : from + (mid - from) ≡ mid = omega arith in
      ap (λ (n : ℕ). bytes_text (take n (drop from s))) e ∙ ap bytes_text (take-add (mid - from) (at - mid) (drop from s))
      ∙ bytes_append (take (mid - from) (drop from s)) (take (at - mid) (drop (mid - from) (drop from s)))
      ∙ ap (λ (r : List ℕ). bytes_text (take (mid - from) (drop from s)) ++ bytes_text (take (at - mid) r)) (drop-drop (mid - from) from s ∙ ap (λ (n : ℕ). drop n s) d)

  text_none : (at : ℕ) → text_of s at at ≡ []
  unfolding bytes_text
  text_none at = let e : at - at ≡ 0 = omega arith in rw e

  text_one : (at : ℕ) → at < length s → text_of s at (at + 1) ≡ byte_text (get_or s at 0)
  text_one at h = let e : at + 1 - at ≡ 1 = omega arith in rw (e, drop-cons s at 0 h) (bytes_one (get_or s at 0))

  text_same : (n at : ℕ) → at + n ≤ length s → Unmarked s at n → text_of s at (at + n) ≡ take n (drop at s)
  unfolding bytes_text
  text_same zero at h u = let e : at + 0 - at ≡ 0 = omega arith in rw e
  text_same (suc n) at h u =
      let e : at + suc n - at ≡ suc n = omega arith in
      let f : at + n - at ≡ n = omega arith in
      let a : bytes_text (take n (drop at s)) ≡ take n (drop at s) = subst (λ (k : ℕ). bytes_text (take k (drop at s)) ≡ take n (drop at s)) f (text_same n at (omega arith) (λ k l. u k (omega arith))) in
      let b : take (suc n) (drop at s) ≡ take n (drop at s) ++ (get_or s (at + n) 0 ∷ []) =
      take-suc (drop at s) n 0 (rw (length-drop at s) (omega arith)) ∙ ap (λ (x : ℕ). take n (drop at s) ++ (x ∷ [])) (get_or-drop at s n 0) in
      rw e (ap bytes_text b ∙ bytes_append (take n (drop at s)) (get_or s (at + n) 0 ∷ []) ∙ (λ i. a i ++ (bytes_one (get_or s (at + n) 0) ∙ u n (omega arith)) i) ∙ sym b)

  module _ (o : ℕ) (out : List ℕ) where
    pub texted_none : (at : ℕ) → Texted s at at o out o out
    texted_none at = record { size = rw (text_none at) (omega arith); stored = rw (text_none at) refl }

    pub texted_one : (at r : ℕ) (new : List ℕ) → at < length s → (r ≡ o + length (byte_text (get_or s at 0))) × (new ≡ sets out o (byte_text (get_or s at 0)))
        → Texted s at (at + 1) o out r new
    texted_one at r new h w = record { size = rw (text_one at h) w.0; stored = rw (text_one at h) w.1 }

    pub texted_same : (at n : ℕ) (new : List ℕ) → at + n ≤ length s → Unmarked s at n → new ≡ sets out o (take n (drop at s)) → Texted s at (at + n) o out (o + n) new
    texted_same at n new h u w =
        let e : length (take n (drop at s)) ≡ n = length-take-le n (drop at s) (rw (length-drop at s) (omega arith)) in
        record { size = rw (text_same n at h u) (omega (arith, e)); stored = rw (text_same n at h u) w }

    pub texted_then : (from mid at r1 r2 : ℕ) (new1 new2 : List ℕ) → from ≤ mid → mid ≤ at → Texted s from mid o out r1 new1 → Texted s mid at r1 new1 r2 new2
        → Texted s from at o out r2 new2
    texted_then from mid at r1 r2 new1 new2 h l a b = record {
      size = rw (text_then from mid at h l) (omega (arith, a.size, b.size, length-append (text_of s from mid) (text_of s mid at)));
      stored = rw (text_then from mid at h l)
          (b.stored ∙ ap (λ (x : List ℕ). sets x r1 (text_of s mid at)) a.stored ∙ sets_append (text_of s from mid) (text_of s mid at) out o r1 (sym a.size));
    }

    pub texted_length : (from at r : ℕ) (new : List ℕ) → Texted s from at o out r new → length new ≡ length out
    texted_length from at r new w = ap length w.stored ∙ length-sets out o (text_of s from at)

    pub texted_bound : (from at r : ℕ) (new : List ℕ) → Texted s from at o out r new → r ≤ o + 6 * (at - from)
    texted_bound from at r new w =
        omega (arith, w.size, bytes_length (take (at - from) (drop from s)), length-take (at - from) (drop from s))

    pub texted_end : (from at end r : ℕ) (new : List ℕ) → at ≤ end → end ≤ at → Texted s from at o out r new → Texted s from end o out r new
    texted_end from at end r new h l w = subst (λ (i : ℕ). Texted s from i o out r new) (let e : at ≡ end = omega arith in e) w

    -- the same by how many bytes are done
    pub texted_start : (from : ℕ) → Texted s from (from + 0) o out o out
    texted_start from = subst (λ (i : ℕ). Texted s from i o out o out) (let e : from ≡ from + 0 = omega arith in e) (texted_none from)

    pub texted_next : (from k r p : ℕ) (new1 new2 : List ℕ) → from + k < length s → Texted s from (from + k) o out r new1
        → (p ≡ r + length (byte_text (get_or s (from + k) 0))) × (new2 ≡ sets new1 r (byte_text (get_or s (from + k) 0))) → Texted s from (from + (k + 1)) o out p new2
    texted_next from k r p new1 new2 h a w =
        subst (λ (i : ℕ). Texted s from i o out p new2) (let e : from + k + 1 ≡ from + (k + 1) = omega arith in e) go
      where
        go : Texted s from (from + k + 1) o out p new2
        go = record {
          size = rw (text_then from (from + k) (from + k + 1) (omega arith) (omega arith), text_one (from + k) h) (omega (arith, a.size, w.0, length-append (text_of s from (from + k)) (byte_text (get_or s (from + k) 0))));
          stored = rw (text_then from (from + k) (from + k + 1) (omega arith) (omega arith), text_one (from + k) h)
              (w.1 ∙ ap (λ (x : List ℕ). sets x r (byte_text (get_or s (from + k) 0))) a.stored ∙ sets_append (text_of s from (from + k)) (byte_text (get_or s (from + k) 0)) out o r (sym a.size));
        }
