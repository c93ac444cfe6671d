-- What an escape's code returns on each way through it is what the definition says: the tests on the way decide each `pick`, and
-- the bytes past the end, all 0, are no digit, letter or brace.
-- Assumes nothing.
use Rattle.std.specs.Prelude.{Option, Some, None}
use Prim.Native.Nat.{ℕ, zero, suc, ◌+◌, ◌-◌, ◌*◌, ◌≤◌, ◌<◌}
use Prim.Native.Char.{code}
use mathlib.Core.Bool.{false}
use mathlib.Core.List.{List, [], ◌∷◌}
use mathlib.Core.Path.{◌≡◌, refl, sym, ap, ◌∙◌, subst}
use native.Mathlib.Omega.{arith}
use lib.Dec.{leb, eqb}
use borrow.Author.Tests.{le-leb, lt-leb, eq-eqb, ne_eqb}
use lib.ListN.{length, get_or, drop, length-drop}
use lib.Seq.{drop-drop}
use Rattle.prelude.specs.Bytes.{single_quote, backslash}
use Rattle.prelude.proofs.Picks.{pick_true, pick_false, and_yes, nots, tests}
use Rattle.prelude.proofs.Rest.{get_or_inside}
use Rattle.prelude.specs.Pick.{pick}
use Rattle.prelude.specs.Refusals.{bad_escape, byte_escape}
use Rattle.utf8.specs.Utf8.{encode}
use Rattle.notation.specs.declared.styles.Style.{Style}
use Rattle.notation.specs.declared.styles.Style.TheVariants.{Json, Unicode, Bytes}
use Rattle.notation.specs.Styles.{StringUnit, took, fault}
use Rattle.escapes.specs.Hex.{hex_run, hex_number}
use Rattle.escapes.specs.Escapes.{lookup, letters, letters_of, Tells, half_of, IsHalf, is_low, low_half, code_unit, four_digits, scalar, is_braced, braced, code_point, raw_byte, letter_escape, escape}
use Rattle.escapes.proofs.HexLaws.{run_inside}

pub scalar_below : (u : StringUnit) (n v : ℕ) → u ≡ took n (encode v) → v < 0xd800 → u ≡ scalar n v
unfolding scalar
scalar_below u n v e h = let k : v ≤ 0x10ffff = omega arith in search tests

-- below the halves, whatever follows
pub unit_below : (v w : ℕ) → v < 0xd800 → code_unit v w ≡ took 6 (encode v)
unfolding code_unit
unit_below v w h = search tests

-- a high half, by what stands behind it
module _ (u : StringUnit) (v : ℕ) (half : Option ℕ) (l : 0xd800 ≤ v) (h : v ≤ 0xdbff) where
  pub unit_joined : (w : ℕ) → half ≡ Some w → IsHalf half → u ≡ took 12 (encode (0x10000 + (v - 0xd800) * 0x400 + (w - 0xdc00))) → u ≡ code_unit v (half_of half)
  unfolding code_unit
  unit_joined w e i q = let p : IsHalf (Some w) = rw e at i in let z : 0 < w = omega (arith, p.0) in rw e (search tests)

  pub unit_alone : half ≡ None → u ≡ took 6 (encode v) → u ≡ code_unit v (half_of half)
  unfolding code_unit
  unit_alone e q = let z : 0 ≤ 0 = omega arith in rw e (search tests)

-- a letter's byte, which isn't 0
pub letter_some : (u : StringUnit) (b v : ℕ) → u ≡ took 2 (b ∷ []) → Tells (Some b) v → u ≡ letter_escape v
letter_some u b zero e h = absurd (omega (arith, h.0, h.1))
letter_some u b (suc v) e h = e ∙ ap (λ (x : ℕ). took 2 (x ∷ [])) h.1

pub letter_none : (v : ℕ) → v ≡ 0 → fault bad_escape ≡ letter_escape v
letter_none v h = rw h refl

pub other_letter : (c : ℕ) (f : Option ℕ) → (c ≡ single_quote → ⊥) → Tells f (lookup c letters) → Tells f (lookup c (letters_of Unicode))
unfolding lookup
other_letter c f h t = subst (Tells f) (sym (pick_false _ _ _ (ne_eqb c single_quote h))) t

-- `\y` and two digits
pub raw_two : (u : StringUnit) (r : List ℕ) (n v : ℕ) → n ≡ hex_run 2 r → v ≡ hex_number 2 r → n ≡ 2 → u ≡ took 4 (v ∷ []) → u ≡ raw_byte Bytes r
unfolding raw_byte
raw_two u r n v en ev h e = e ∙ ap (λ (x : ℕ). took 4 (x ∷ [])) ev ∙ sym (pick_true _ _ _ (eq-eqb _ _ (sym en ∙ h)))

pub raw_not : (r : List ℕ) (n : ℕ) → n ≡ hex_run 2 r → (n ≡ 2 → ⊥) → fault bad_escape ≡ raw_byte Bytes r
unfolding raw_byte
raw_not r n en h = sym (pick_false _ _ _ (ne_eqb _ _ (λ q. h (en ∙ q))))

pub raw_json : (st : Style) (r : List ℕ) → st ≡ Json → fault bad_escape ≡ raw_byte st r
unfolding raw_byte
raw_json st r e = rw e refl

pub raw_unicode : (st : Style) (r : List ℕ) → st ≡ Unicode → fault byte_escape ≡ raw_byte st r
unfolding raw_byte
raw_unicode st r e = rw e refl

-- past the end stands 0, which is no brace and no letter
braced_law : (r : List ℕ) → braced r ≡ pick (is_braced (get_or r 0 0) (drop 1 r)) (scalar (4 + hex_run 7 (drop 1 r)) (hex_number 7 (drop 1 r))) (fault bad_escape)
unfolding braced pick
braced_law [] = refl
braced_law (c ∷ r) = refl

escape_law : (st : Style) (r : List ℕ) → escape st r ≡ pick (eqb (get_or r 0 0) (code "u")) (code_point st (drop 1 r)) (pick (eqb (get_or r 0 0) (code "y")) (raw_byte st (drop 1 r)) (letter_escape (lookup (get_or r 0 0) (letters_of st))))
unfolding escape lookup pick
escape_law Json [] = refl
escape_law Unicode [] = refl
escape_law Bytes [] = refl
escape_law st (c ∷ r) = refl

module _ (s : List ℕ) (at : ℕ) where
  -- an escaped low half: the first test that fails says that there is none
  module _ (no : is_low (drop at s) ≡ false) where
    low_none : 0 ≡ low_half (drop at s)
    unfolding low_half
    low_none = sym (pick_false _ _ _ no)

  pub low_first : (a : ℕ) → a ≡ get_or (drop at s) 0 0 → (a ≡ backslash → ⊥) → 0 ≡ low_half (drop at s)
  low_first a e h = let z : eqb (get_or (drop at s) 0 0) backslash ≡ false = ne_eqb _ _ (λ q. h (e ∙ q)) in low_none (search nots)

  pub low_second : (a : ℕ) → a ≡ get_or (drop at s) 1 0 → (a ≡ code "u" → ⊥) → 0 ≡ low_half (drop at s)
  low_second a e h = let z : eqb (get_or (drop at s) 1 0) (code "u") ≡ false = ne_eqb _ _ (λ q. h (e ∙ q)) in low_none (search nots)

  module _ (n v : ℕ) (en : n ≡ hex_run 4 (drop (at + 2) s)) (ev : v ≡ hex_number 4 (drop (at + 2) s)) where
    behind : drop 2 (drop at s) ≡ drop (at + 2) s
    behind = drop-drop 2 at s

    pub low_digits : (n ≡ 4 → ⊥) → 0 ≡ low_half (drop at s)
    low_digits h = let z : eqb (hex_run 4 (drop 2 (drop at s))) 4 ≡ false = rw behind (ne_eqb _ _ (λ q. h (en ∙ q))) in low_none (search nots)

    pub low_under : v < 0xdc00 → 0 ≡ low_half (drop at s)
    low_under h = let z : leb 0xdc00 (hex_number 4 (drop 2 (drop at s))) ≡ false = rw (behind, ← ev) (lt-leb _ _ h) in low_none (search nots)

    pub low_over : 0xdfff < v → 0 ≡ low_half (drop at s)
    low_over h = let z : leb (hex_number 4 (drop 2 (drop at s))) 0xdfff ≡ false = rw (behind, ← ev) (lt-leb _ _ h) in low_none (search nots)

    pub low_yes : (a b : ℕ) → a ≡ get_or (drop at s) 0 0 → a ≡ backslash → b ≡ get_or (drop at s) 1 0 → b ≡ code "u" → n ≡ 4 → 0xdc00 ≤ v → v ≤ 0xdfff → v ≡ low_half (drop at s)
    unfolding low_half
    low_yes a b ea ha eb hb hn l h =
        rw behind
        (rw (← ev, ← en, ← ea, ← eb)
        (sym (pick_true _ v 0 (and_yes _ _ (and_yes _ _ (and_yes _ _ (eq-eqb _ _ ha) (eq-eqb _ _ hb)) (eq-eqb _ _ hn)) (and_yes _ _ (le-leb _ _ l) (le-leb _ _ h))))))

  -- `\u` and four digits
  module _ (n : ℕ) (en : n ≡ hex_run 4 (drop at s)) where
    pub four_not : (n ≡ 4 → ⊥) → fault bad_escape ≡ four_digits (drop at s)
    unfolding four_digits
    four_not h = sym (pick_false _ _ _ (ne_eqb _ _ (λ q. h (en ∙ q))))

    pub four_inside : n ≡ 4 → at ≤ length s → at + 4 ≤ length s
    four_inside h l = omega (arith, run_inside 4 (drop at s), length-drop at s)

    pub four_yes : (u : StringUnit) (v w : ℕ) → n ≡ 4 → v ≡ hex_number 4 (drop at s) → w ≡ low_half (drop (at + 4) s) → u ≡ code_unit v w → u ≡ four_digits (drop at s)
    unfolding four_digits
    four_yes u v w h ev ew e =
        e ∙ rw (ev, ew, ← drop-drop 4 at s) (sym (pick_true _ _ _ (eq-eqb _ _ (sym en ∙ h))))

    pub four_below : (u : StringUnit) (v : ℕ) → n ≡ 4 → v ≡ hex_number 4 (drop at s) → v < 0xd800 → u ≡ took 6 (encode v) → u ≡ four_digits (drop at s)
    four_below u v h ev l e = four_yes u v (low_half (drop (at + 4) s)) h ev refl (e ∙ sym (unit_below v (low_half (drop (at + 4) s)) l))

  -- `\u{h}`
  module _ (no : is_braced (get_or (drop at s) 0 0) (drop (at + 1) s) ≡ false) where
    brace_none : fault bad_escape ≡ braced (drop at s)
    brace_none = sym (braced_law (drop at s) ∙ rw (drop-drop 1 at s) (pick_false _ _ _ no))

  pub brace_first : (a : ℕ) → a ≡ get_or (drop at s) 0 0 → (a ≡ code "{" → ⊥) → fault bad_escape ≡ braced (drop at s)
  brace_first a e h = let z : eqb (get_or (drop at s) 0 0) (code "{") ≡ false = ne_eqb _ _ (λ q. h (e ∙ q)) in brace_none (search nots)

  module _ (n : ℕ) (en : n ≡ hex_run 7 (drop (at + 1) s)) where
    pub brace_under : n < 1 → fault bad_escape ≡ braced (drop at s)
    brace_under h = let z : leb 1 (hex_run 7 (drop (at + 1) s)) ≡ false = rw (← en) (lt-leb _ _ h) in brace_none (search nots)

    pub brace_over : 6 < n → fault bad_escape ≡ braced (drop at s)
    brace_over h = let z : leb (hex_run 7 (drop (at + 1) s)) 6 ≡ false = rw (← en) (lt-leb _ _ h) in brace_none (search nots)

    module _ (b : ℕ) (eb : b ≡ get_or (drop (at + 1) s) n 0) where
      pub brace_last : (b ≡ code "}" → ⊥) → fault bad_escape ≡ braced (drop at s)
      brace_last h = let z : eqb (get_or (drop (at + 1) s) (hex_run 7 (drop (at + 1) s)) 0) (code "}") ≡ false = rw (← en) (ne_eqb _ _ (λ q. h (eb ∙ q))) in brace_none (search nots)

      pub brace_yes : (u : StringUnit) (a v : ℕ) → a ≡ get_or (drop at s) 0 0 → a ≡ code "{" → 1 ≤ n → n ≤ 6 → b ≡ code "}" → v ≡ hex_number 7 (drop (at + 1) s) → u ≡ scalar (4 + n) v → u ≡ braced (drop at s)
      brace_yes u a v ea ha l h hb ev e =
          e ∙ sym (braced_law (drop at s) ∙ rw (drop-drop 1 at s)
          (rw (← ev, ← en, ← ea, ← eb)
          (pick_true _ (scalar (4 + n) v) _ (and_yes _ _ (and_yes _ _ (eq-eqb _ _ ha) (and_yes _ _ (le-leb _ _ l) (le-leb _ _ h))) (eq-eqb _ _ hb)))))

  -- an escape by its first byte
  module _ (a : ℕ) (ea : a ≡ get_or (drop at s) 0 0) where
    pub first_inside : a ≡ code "u" → at + 1 ≤ length s
    first_inside h =
        omega (arith, get_or_inside (drop at s) 0 (λ z. let f : ⊥ = omega arith in f), length-drop at s)

    module _ (st : Style) (u : StringUnit) where
      from_first : u ≡ pick (eqb a (code "u")) (code_point st (drop (at + 1) s)) (pick (eqb a (code "y")) (raw_byte st (drop (at + 1) s)) (letter_escape (lookup a (letters_of st)))) → u ≡ escape st (drop at s)
      from_first e = sym (escape_law st (drop at s) ∙ rw (drop-drop 1 at s, ← ea) (sym e))

      pub escape_u : a ≡ code "u" → u ≡ code_point st (drop (at + 1) s) → u ≡ escape st (drop at s)
      escape_u h e = from_first (e ∙ sym (pick_true _ _ _ (eq-eqb _ _ h)))

      pub escape_y : a ≡ code "y" → u ≡ raw_byte st (drop (at + 1) s) → u ≡ escape st (drop at s)
      escape_y h e =
          from_first
          (e ∙ sym (pick_false _ _ _ (ne_eqb a (code "u") (λ q. let f : ⊥ = omega arith in f)) ∙ pick_true _ _ _ (eq-eqb _ _ h)))

      pub escape_letter : (a ≡ code "u" → ⊥) → (a ≡ code "y" → ⊥) → u ≡ letter_escape (lookup a (letters_of st)) → u ≡ escape st (drop at s)
      escape_letter h k e =
          from_first (e ∙ sym (pick_false _ _ _ (ne_eqb _ _ h) ∙ pick_false _ _ _ (ne_eqb _ _ k)))
