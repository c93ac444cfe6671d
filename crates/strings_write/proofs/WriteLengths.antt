-- How long a written text is, by the length of each unit.
-- Assumes nothing.
use Prim.Native.Nat.{ℕ, zero, suc, pred, ◌+◌, ◌*◌, ◌≤◌, ◌<◌}
use mathlib.Core.Bool.{false}
use mathlib.Core.List.{List, [], ◌∷◌, ◌++◌}
use mathlib.Core.Path.{◌≡◌, refl, ap}
use native.Mathlib.Omega.{arith}
use borrow.Author.Tests.{eqb-false, ltb-true}
use lib.Dec.{ltb, eqb, lit≤}
use lib.ListN.{length, take, drop, length-append, length-drop}
use lib.Seq.{length-take-le}
use Rattle.prelude.specs.Bytes.{backslash}
use Rattle.prelude.specs.Pick.{pick}
use Rattle.prelude.proofs.Picks.{pick_case}
use Rattle.prelude.proofs.Suffix.{by_suffix}
use Rattle.utf8.specs.Utf8.{char_len, valid_from, valid_utf8}
use Rattle.utf8.proofs.Characters.{char_le, char_length, ascii_len}
use Rattle.notation.specs.declared.styles.Form.{Form}
use Rattle.notation.specs.declared.styles.Form.TheVariants.{AsJson, AsBytes}
use Rattle.notation.specs.Styles.{quote, style_of}
use Rattle.escapes.specs.Escapes.{lookup}
use Rattle.units.specs.Written.{by_number, escaped, written}
use Rattle.units.proofs.WrittenBack.{escaped_ascii}
use Rattle.units.proofs.WrittenUnits.{written_length, limit, limit_more}
use Rattle.strings_write.specs.Write.{write_units, mark, quoted, write_string}
use Rattle.strings_write.proofs.WriteSteps.{write_skip}

abbrev Short : Form → List ℕ → Type 0
Short form s = length (write_units form 0 s) ≤ limit form (length s)

units_one : (form : Form) (x : ℕ) (r : List ℕ) → ((k : ℕ) → Short form (drop k r)) → Short form (x ∷ r)
unfolding write_units
units_one form x r ih =
    let n : ℕ = char_len (x ∷ r) in
    let a : List ℕ = written form n x r in
    let l : suc (pred n) + length (drop (pred n) r) ≡ suc (length r) = omega (arith, length-drop (pred n) r, char_le (x ∷ r)) in
    rw (length-append a (write_units form (pred n) r), write_skip form (pred n) r, ← l)
    (limit_more form (length a) (length (write_units form 0 (drop (pred n) r))) (pred n) (length (drop (pred n) r)) (written_length form n x r refl) (ih (pred n)))

pub units_length : (form : Form) (s : List ℕ) → length (write_units form 0 s) ≤ limit form (length s)
unfolding write_units
units_length form = by_suffix (Short form) (omega arith) (units_one form)

pub quoted_length : (form : Form) (s : List ℕ) → length (quoted form s) ≤ length (mark form) + limit form (length s) + 1
unfolding quoted
quoted_length form s =
    omega (arith, length-append (mark form) (write_units form 0 s ++ (quote (style_of form) ∷ [])), length-append (write_units form 0 s) (quote (style_of form) ∷ []), units_length form s)

invalid_some : (s : List ℕ) → valid_utf8 s ≡ false → 0 < length s
unfolding valid_from
invalid_some [] e = let z : ◌≡◌ {A = ℕ} 0 1 = cc in absurd (omega arith)
invalid_some (x ∷ r) e = omega arith

abbrev Within : ℕ → List ℕ → Type 0
Within m l = length l ≤ m

pub write_length : (s : List ℕ) → length (write_string s) ≤ 6 * length s + 2
unfolding write_string
write_length s =
    pick_case (Within (6 * length s + 2)) (valid_utf8 s) (quoted AsJson s) (quoted AsBytes s)
    (λ e. omega (arith, quoted_length AsJson s))
    (λ e. omega (arith, quoted_length AsBytes s, invalid_some s e))

abbrev AtLeast : ℕ → List ℕ → Type 0
AtLeast m l = m ≤ length l

number_some : (form : Form) (x : ℕ) → 1 ≤ length (by_number form x)
unfolding by_number
number_some AsJson x = lit≤ tt
number_some AsBytes x = lit≤ tt

-- and no unit is shorter than the bytes that it stands for
written_least : (form : Form) (n x : ℕ) (r : List ℕ) → char_len (x ∷ r) ≡ n → suc (pred n) ≤ length (written form n x r)
unfolding written
written_least form zero x r c = number_some form x
written_least form (suc n) x r c =
    let one : x < 128 → n ≡ 0 = λ h. omega (arith, ascii_len x r h) in
    pick_case (AtLeast (suc n)) (eqb (lookup x (escaped form)) 0) (pick (ltb x 32) (by_number form x) (x ∷ take n r)) (backslash ∷ lookup x (escaped form) ∷ [])
    (λ e. pick_case (AtLeast (suc n)) (ltb x 32) (by_number form x) (x ∷ take n r)
    (λ l. omega (arith, one (let h : x < 32 = ltb-true x 32 l in omega arith), number_some form x))
    (λ l. omega (arith, length-take-le n r (char_length x r n c))))
    (λ e. omega (arith, one (escaped_ascii form x (eqb-false _ 0 e))))

least_one : (form : Form) (x : ℕ) (r : List ℕ) → ((k : ℕ) → AtLeast (length (drop k r)) (write_units form 0 (drop k r))) → AtLeast (suc (length r)) (write_units form 0 (x ∷ r))
unfolding write_units
least_one form x r ih =
    let n : ℕ = char_len (x ∷ r) in
    omega (
      arith,
      length-append (written form n x r) (write_units form (pred n) r),
      ap length (write_skip form (pred n) r),
      written_least form n x r refl,
      ih (pred n),
      length-drop (pred n) r,
    )

units_least : (form : Form) (s : List ℕ) → length s ≤ length (write_units form 0 s)
unfolding write_units
units_least form = by_suffix (λ s. AtLeast (length s) (write_units form 0 s)) (omega arith) (least_one form)

pub quoted_least : (form : Form) (s : List ℕ) → length s < length (quoted form s)
unfolding quoted
quoted_least form s =
    omega (arith, length-append (mark form) (write_units form 0 s ++ (quote (style_of form) ∷ [])), length-append (write_units form 0 s) (quote (style_of form) ∷ []), units_least form s)
