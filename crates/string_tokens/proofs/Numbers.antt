-- Numbers in double quotes: the tests of the code decide each `pick` of the definition, and the pattern's length each size.
-- Assumes nothing.
use Rattle.std.specs.Prelude.{Option, Some, None}
use Prim.Native.Nat.{ℕ, ◌+◌, ◌-◌, ◌*◌, ◌≤◌, ◌<◌}
use mathlib.Core.List.{List, [], ◌∷◌}
use mathlib.Core.Path.{◌≡◌, refl, sym, ap, ◌∙◌}
use native.Mathlib.Omega.{arith}
use borrow.Author.Tests.{lt-ltb, le-ltb}
use lib.ListN.{length, get_or, drop}
use lib.Seq.{get_or-drop}
use Rattle.prelude.specs.Pick.{pick}
use Rattle.prelude.proofs.Picks.{tests}
use Rattle.utf8.specs.Utf8.{encode}
use Rattle.notation.specs.declared.styles.Style.{Style}
use Rattle.notation.specs.declared.styles.Style.TheVariants.{Json, Unicode, Bytes}
use Rattle.notation.specs.Styles.{quote, took}
use Rattle.escapes.specs.Hex.{hex_run, hex_number}
use Rattle.escapes.specs.Escapes.{lookup, letters, half_of, IsHalf, low_half, code_unit}
use Rattle.escapes.proofs.EscapeLaws.{unit_below, four_yes, escape_u}
use Rattle.units.specs.Units.{unit_at}
use Rattle.units.proofs.SingleLaws.{letter_at, slash_unit}
use Rattle.string_tokens.specs.inner.Quotes.{len_of, Takes}

json_quote : (st : Style) → quote st ≡ 0x22 → st ≡ Json
json_quote Json e = refl
json_quote Unicode e = absurd (omega arith)
json_quote Bytes e = absurd (omega arith)

json_code : (s : List ℕ) (at : ℕ) → at + 6 ≤ length s → get_or s at 0 ≡ 0x5c → get_or s (at + 1) 0 ≡ 0x75
    → (n v : ℕ) → n ≡ hex_run 4 (drop (at + 2) s) → v ≡ hex_number 4 (drop (at + 2) s) → n ≡ 4
    → unit_at Json (drop at s) ≡ code_unit v (low_half (drop (at + 6) s))
json_code s at h a b n v en ev f =
    let e₁ : at + 1 + 1 ≡ at + 2 = omega arith in
    let e₂ : at + 2 + 4 ≡ at + 6 = omega arith in
    let z : at + 1 + 0 ≡ at + 1 = omega arith in
    slash_unit Json s at (omega arith) a
    ∙ sym (escape_u s (at + 1) (get_or s (at + 1) 0) (sym (get_or-drop (at + 1) s 0 0 ∙ ap (λ (k : ℕ). get_or s k 0) z)) Json _ b
    (rw e₁ (four_yes s (at + 2) n en _ v (low_half (drop (at + 6) s)) f ev (rw e₂ refl) refl)))

pub code_is : (st : Style) (s : List ℕ) (at : ℕ) (q : ℕ) → q ≡ quote st → q ≡ 0x22 → 6 ≤ length s - at → at ≤ length s → get_or s at 0 ≡ 0x5c → get_or s (at + 1) 0 ≡ 0x75
    → (n v : ℕ) → n ≡ hex_run 4 (drop (at + 2) s) → v ≡ hex_number 4 (drop (at + 2) s) → n ≡ 4
    → (at + 6 ≤ length s) × (unit_at st (drop at s) ≡ code_unit v (low_half (drop (at + 6) s)))
code_is st s at q eq q2 h i a b n v en ev f =
    (omega arith, rw (json_quote st (sym eq ∙ q2)) (json_code s at (omega arith) a b n v en ev f))

abbrev Point : ℕ → ℕ → ℕ → Type 0
Point v w r = (r < 0x110000) × (code_unit v w ≡ took (len_of r) (encode r))

pub six : (v : ℕ) → v < 0x10000 → len_of v ≡ 6
unfolding len_of
six v h = search tests

pub twelve : (v : ℕ) → 0x10000 ≤ v → len_of v ≡ 12
unfolding len_of
twelve v h = search tests

alone : (v w : ℕ) → v < 0x10000 → code_unit v w ≡ took 6 (encode v) → Point v w v
alone v w h e = (omega arith, e ∙ ap (λ (n : ℕ). took n (encode v)) (sym (six v h)))

pub point_below : (v w : ℕ) → v < 0xd800 → Point v w v
point_below v w h = alone v w (omega arith) (unit_below v w h)

above_unit : (v w : ℕ) → 0xdbff < v → code_unit v w ≡ took 6 (encode v)
unfolding code_unit
above_unit v w h = search tests

pub point_above : (v w : ℕ) → v < 0x10000 → 0xdbff < v → Point v w v
point_above v w l h = alone v w l (above_unit v w h)

alone_unit : (v : ℕ) → 0xd800 ≤ v → v ≤ 0xdbff → code_unit v 0 ≡ took 6 (encode v)
unfolding code_unit
alone_unit v l h = search tests

pub point_alone : (v w : ℕ) (half : Option ℕ) → 0xd800 ≤ v → v ≤ 0xdbff → half_of half ≡ w → half ≡ None → Point v w v
point_alone v w half l h e z = let q : w ≡ 0 = sym e ∙ ap half_of z in rw q (alone v 0 (omega arith) (alone_unit v l h))

two_unit : (v w : ℕ) → 0xd800 ≤ v → v ≤ 0xdbff → 0 < w → code_unit v w ≡ took 12 (encode (0x10000 + (v - 0xd800) * 0x400 + (w - 0xdc00)))
unfolding code_unit
two_unit v w l h g = search tests

two_point : (v x : ℕ) → 0xd800 ≤ v → v ≤ 0xdbff → IsHalf (Some x) → Point v x (0x10000 + (v - 0xd800) * 0x400 + (x - 0xdc00))
two_point v x l h i =
    (omega (arith, i.0, i.1), two_unit v x l h (omega (arith, i.0)) ∙ ap (λ (n : ℕ). took n (encode (0x10000 + (v - 0xd800) * 0x400 + (x - 0xdc00)))) (sym (twelve _ (omega arith))))

pub point_two : (v w : ℕ) (half : Option ℕ) → 0xd800 ≤ v → v ≤ 0xdbff → half_of half ≡ w → IsHalf half → (x : ℕ) → half ≡ Some x → Point v w (0x10000 + (v - 0xd800) * 0x400 + (x - 0xdc00))
point_two v w half l h e i x z =
    let q : w ≡ x = sym e ∙ ap half_of z in rw q (two_point v x l h (rw z at i))

-- the pattern's length
pub spare_one : (v : ℕ) → v < 0x80 → 5 + length (encode v) ≡ len_of v
unfolding encode len_of pick
spare_one v h = simp (lt-ltb v 0x80 h, lt-ltb v 0x10000 (omega arith))

pub spare_two : (v : ℕ) → 0x80 ≤ v → v < 0x800 → 4 + length (encode v) ≡ len_of v
unfolding encode len_of pick
spare_two v l h = simp (le-ltb v 0x80 l, lt-ltb v 0x800 h, lt-ltb v 0x10000 (omega arith))

pub spare_three : (v : ℕ) → 0x800 ≤ v → v < 0x10000 → 3 + length (encode v) ≡ len_of v
unfolding encode len_of pick
spare_three v l h = simp (le-ltb v 0x80 (omega arith), le-ltb v 0x800 l, lt-ltb v 0x10000 h)

pub spare_four : (v : ℕ) → 0x10000 ≤ v → 8 + length (encode v) ≡ len_of v
unfolding encode len_of pick
spare_four v l = simp (le-ltb v 0x80 (omega arith), le-ltb v 0x800 (omega arith), le-ltb v 0x10000 l)

-- an escape's size
abbrev Fits : Style → List ℕ → ℕ → ℕ → Type 0
Fits st r n spare = (spare ≤ n) × Takes st r n (n - spare)

pub pair_is : (st : Style) (s : List ℕ) (at : ℕ) → at ≤ length s → 2 ≤ length s - at → get_or s at 0 ≡ 0x5c
    → (b : ℕ) → b ≡ lookup (get_or s (at + 1) 0) letters → (b ≡ 0 → ⊥) → unit_at st (drop at s) ≡ took 2 (b ∷ [])
pair_is st s at i h a b e z = slash_unit st s at (omega arith) a ∙ letter_at st s (at + 1) (omega arith) b e z

pub pair_size : (st : Style) (s : List ℕ) (at : ℕ) → at ≤ length s → 2 ≤ length s - at → get_or s at 0 ≡ 0x5c
    → (b : ℕ) → b ≡ lookup (get_or s (at + 1) 0) letters → (b ≡ 0 → ⊥) → Fits st (drop at s) 2 1
pair_size st s at i h a b e z = (omega arith, record { bytes = b ∷ []; is = pair_is st s at i h a b e z; count = refl })

pub point_size : (st : Style) (r : List ℕ) (v n spare : ℕ) → unit_at st r ≡ took (len_of v) (encode v) → n ≡ len_of v → spare + length (encode v) ≡ len_of v → Fits st r n spare
point_size st r v n spare e l h =
    (omega arith, record { bytes = encode v; is = e ∙ ap (λ (k : ℕ). took k (encode v)) (sym l); count = omega arith })
