-- Refusals that are apart, by their numbers: one number, one refusal.
-- Assumes nothing.
use Rattle.std.specs.Prelude.{Option, Some, None, eqb}
use Prim.Native.Nat.{ℕ, ◌≤◌, ◌<◌}
use mathlib.Core.Logic.{◌⊎◌, inl, inr}
use mathlib.Core.Path.{◌≡◌, refl, sym, ap, ◌∙◌}
use native.Mathlib.Omega.{arith}
use Rattle.prelude.specs.Pick.{pick}
use Rattle.prelude.specs.declared.refusals.Refusal.{Refusal}
use Rattle.prelude.specs.declared.refusals.Refusal.TheVariants.{Unfit, TooLong, NoOpening, CutOff, Control, BadEscape, Surrogate, TooLarge, ByteEscape, Trailing, NoRoom, Misplaced, BadNumber, TooDeep, TooMany, OverLimit, Ended, BadHeader, BadLine, WrongType, EmptyCell, Utf8BadEncoding, Utf8Incomplete, Utf8Overlong, Utf8Surrogate, Utf8TooLarge}
use Rattle.prelude.specs.Refusals.{number_of, cut_off, trailing, no_room, utf8_bad_encoding, UnitFault, TextFault}

-- a unit's refusal is none for the text's end
pub unit_apart : (r : Refusal) → UnitFault r → r ≡ cut_off → ⊥
unit_apart r (inl (a, b)) z = omega (arith, ap number_of z)
unit_apart r (inr (a, b)) z = omega (arith, ap number_of z)

-- a text's is from 4 to 11, or from 23 on
pub text_ranges : (r : Refusal) → TextFault r → ((number_of cut_off ≤ number_of r) × (number_of r ≤ number_of trailing)) ⊎ (number_of utf8_bad_encoding ≤ number_of r)
text_ranges r (inl z) = inl (omega (arith, ap number_of z), omega (arith, ap number_of z))
text_ranges r (inr (inl z)) = inl (omega (arith, ap number_of z), omega (arith, ap number_of z))
text_ranges r (inr (inr (inl (a, b)))) = inl (omega arith, omega arith)
text_ranges r (inr (inr (inr (a, b)))) = inr a

-- so it is none for the room
pub text_apart : (r : Refusal) → TextFault r → r ≡ no_room → ⊥
text_apart r f z = go (text_ranges r f)
  where
    go : ((number_of cut_off ≤ number_of r) × (number_of r ≤ number_of trailing)) ⊎ (number_of utf8_bad_encoding ≤ number_of r) → ⊥
    go (inl (a, b)) = omega (arith, ap number_of z)
    go (inr a) = omega (arith, ap number_of z)

-- the refusal of a number
by_number : ℕ → Refusal
by_number n =
    pick (eqb n 1) Unfit
    (pick (eqb n 2) TooLong
    (pick (eqb n 3) NoOpening
    (pick (eqb n 4) CutOff
    (pick (eqb n 6) Control
    (pick (eqb n 7) BadEscape
    (pick (eqb n 8) Surrogate
    (pick (eqb n 9) TooLarge
    (pick (eqb n 10) ByteEscape
    (pick (eqb n 11) Trailing
    (pick (eqb n 12) NoRoom
    (pick (eqb n 13) Misplaced
    (pick (eqb n 14) BadNumber
    (pick (eqb n 15) TooDeep
    (pick (eqb n 16) TooMany
    (pick (eqb n 17) OverLimit
    (pick (eqb n 18) Ended
    (pick (eqb n 19) BadHeader
    (pick (eqb n 20) BadLine
    (pick (eqb n 21) WrongType
    (pick (eqb n 22) EmptyCell
    (pick (eqb n 23) Utf8BadEncoding
    (pick (eqb n 24) Utf8Incomplete
    (pick (eqb n 25) Utf8Overlong
    (pick (eqb n 26) Utf8Surrogate Utf8TooLarge))))))))))))))))))))))))

found : (r : Refusal) → by_number (number_of r) ≡ r
unfolding pick by_number
found Unfit = refl
found TooLong = refl
found NoOpening = refl
found CutOff = refl
found Control = refl
found BadEscape = refl
found Surrogate = refl
found TooLarge = refl
found ByteEscape = refl
found Trailing = refl
found NoRoom = refl
found Misplaced = refl
found BadNumber = refl
found TooDeep = refl
found TooMany = refl
found OverLimit = refl
found Ended = refl
found BadHeader = refl
found BadLine = refl
found WrongType = refl
found EmptyCell = refl
found Utf8BadEncoding = refl
found Utf8Incomplete = refl
found Utf8Overlong = refl
found Utf8Surrogate = refl
found Utf8TooLarge = refl

-- one number, one refusal
pub number_injective : (a b : Refusal) → number_of a ≡ number_of b → a ≡ b
number_injective a b e = sym (found a) ∙ ap by_number e ∙ found b

-- 0 is none's
pub number_positive : (r : Refusal) → 0 < number_of r
number_positive Unfit = omega arith
number_positive TooLong = omega arith
number_positive NoOpening = omega arith
number_positive CutOff = omega arith
number_positive Control = omega arith
number_positive BadEscape = omega arith
number_positive Surrogate = omega arith
number_positive TooLarge = omega arith
number_positive ByteEscape = omega arith
number_positive Trailing = omega arith
number_positive NoRoom = omega arith
number_positive Misplaced = omega arith
number_positive BadNumber = omega arith
number_positive TooDeep = omega arith
number_positive TooMany = omega arith
number_positive OverLimit = omega arith
number_positive Ended = omega arith
number_positive BadHeader = omega arith
number_positive BadLine = omega arith
number_positive WrongType = omega arith
number_positive EmptyCell = omega arith
number_positive Utf8BadEncoding = omega arith
number_positive Utf8Incomplete = omega arith
number_positive Utf8Overlong = omega arith
number_positive Utf8Surrogate = omega arith
number_positive Utf8TooLarge = omega arith
