-- The shape of a unit as it is written: its bytes are from 0x20 up, and it is at most as long as an escape for each byte that it
-- stands for; both kind by kind.
-- Assumes nothing.
use Prim.Native.Nat.{ℕ, zero, suc, pred, ◌+◌, ◌*◌, ◌≤◌}
use mathlib.Core.Bool.{true}
use mathlib.Core.List.{List, [], ◌∷◌, ◌++◌}
use mathlib.Core.Path.{◌≡◌, refl}
use native.Mathlib.Omega.{arith}
use lib.Dec.{ltb, leb, eqb, lit≤}
use lib.ListN.{length, take}
use lib.Seq.{length-take-le}
use borrow.Author.Tests.{eqb-false, ltb-false, leb-true}
use Rattle.prelude.proofs.Cases.{and_left, and_right}
use Rattle.prelude.proofs.Picks.{pick_case}
use Rattle.utf8.specs.Utf8.{between, char_len}
use Rattle.utf8.proofs.Characters.{tails, low_bound, char_tails, char_length}
use Rattle.notation.specs.declared.styles.Form.{Form}
use Rattle.notation.specs.declared.styles.Form.TheVariants.{AsJson, AsBytes}
use Rattle.notation.specs.Styles.{style_of}
use Rattle.escapes.specs.Escapes.{lookup}
use Rattle.units.specs.Written.{hex_digit, by_number, escaped, written}
use Rattle.notation.proofs.LiteralLaws.{quote_ascii}
use Rattle.units.proofs.WrittenBack.{lookup_each}

-- every byte is 0x20 or above
abbrev pub Printed : List ℕ → Type 0
Printed [] = Unit
Printed (x ∷ r) = (32 ≤ x) × Printed r

pub printed_append : (s t : List ℕ) → Printed s → Printed t → Printed (s ++ t)
printed_append [] t h g = g
printed_append (x ∷ s) t h g = (h.0, printed_append s t h.1 g)

digit_printed : (d : ℕ) → 32 ≤ hex_digit d
unfolding hex_digit
digit_printed d = pick_case (λ v. 32 ≤ v) (ltb d 10) _ _ (λ e. omega arith) (λ e. omega arith)

number_printed : (form : Form) (x : ℕ) → Printed (by_number form x)
unfolding by_number
number_printed AsJson x = (lit≤ tt, (lit≤ tt, (lit≤ tt, (lit≤ tt, (digit_printed _, (digit_printed _, tt))))))
number_printed AsBytes x = (lit≤ tt, (lit≤ tt, (digit_printed _, (digit_printed _, tt))))

letter_printed : (form : Form) (x : ℕ) → (lookup x (escaped form) ≡ 0 → ⊥) → 32 ≤ lookup x (escaped form)
letter_printed form =
    lookup_each (λ k v. 32 ≤ v) (escaped form) ((quote_ascii (style_of form)).0, (lit≤ tt, (lit≤ tt, (lit≤ tt, (lit≤ tt, (lit≤ tt, (lit≤ tt, tt)))))))

tails_printed : (low high n : ℕ) (r : List ℕ) → 0x80 ≤ low → tails low high n r ≡ true → Printed (take n r)
unfolding tails
tails_printed low high zero r h e = tt
tails_printed low high (suc n) [] h e = tt
tails_printed low high (suc n) (b ∷ r) h e = (
  omega (arith, leb-true low b (and_left (leb low b) _ (and_left (between low high b) _ e))),
  tails_printed 0x80 0xbf n r (lit≤ tt) (and_right (between low high b) _ e),
)

pub written_printed : (form : Form) (n x : ℕ) (r : List ℕ) → char_len (x ∷ r) ≡ n → Printed (written form n x r)
unfolding written
written_printed form zero x r c = number_printed form x
written_printed form (suc n) x r c =
    pick_case Printed (eqb (lookup x (escaped form)) 0) _ _
    (λ e. pick_case Printed (ltb x 32) _ _ (λ l. number_printed form x) (λ l. (ltb-false x 32 l, tails_printed _ _ n r (low_bound _) (char_tails x r n c).1)))
    (λ e. (lit≤ tt, (letter_printed form x (eqb-false _ 0 e), tt)))

-- the longest escape that a form writes
abbrev pub widest : Form → ℕ
widest AsJson = 6
widest AsBytes = 4

number_length : (form : Form) (x : ℕ) → (2 ≤ widest form) × (length (by_number form x) ≡ widest form)
unfolding by_number
number_length AsJson x = (lit≤ tt, refl)
number_length AsBytes x = (lit≤ tt, refl)

abbrev Within : ℕ → List ℕ → Type 0
Within m l = length l ≤ m

pub written_length : (form : Form) (n x : ℕ) (r : List ℕ) → char_len (x ∷ r) ≡ n → length (written form n x r) ≤ widest form + pred n
unfolding written
written_length form zero x r c = omega (arith, number_length form x)
written_length form (suc n) x r c =
    let w : 2 ≤ widest form = (number_length form x).0 in
    pick_case (Within (widest form + n)) (eqb (lookup x (escaped form)) 0) _ _
    (λ e. pick_case (Within (widest form + n)) (ltb x 32) _ _
    (λ l. omega (arith, (number_length form x).1))
    (λ l. omega (arith, length-take-le n r (char_length x r n c))))
    (λ e. omega arith)

-- at most so many bytes for n bytes
abbrev pub limit : Form → ℕ → ℕ
limit AsJson n = 6 * n
limit AsBytes n = 4 * n

pub limit_more : (form : Form) (a b n m : ℕ) → a ≤ widest form + n → b ≤ limit form m → a + b ≤ limit form (suc n + m)
limit_more AsJson a b n m h g = omega arith
limit_more AsBytes a b n m h g = omega arith
