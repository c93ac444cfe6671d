-- A byte string, written and read, is itself: unit by unit in any form that writes it, with any text behind the closing quote.
-- Assumes nothing.
use Prim.Native.Nat.{ℕ, zero, suc, pred, ◌+◌, ◌≤◌}
use mathlib.Core.Bool.{true}
use mathlib.Core.List.{List, [], ◌∷◌, ◌++◌, append_assoc, append-nil}
use mathlib.Core.Path.{◌≡◌, refl, sym, ap, ◌∙◌}
use native.Mathlib.Omega.{arith}
use lib.Dec.{lit<}
use lib.ListN.{length, take, drop, length-append, take-append-drop}
use lib.Seq.{drop-append_seam, get_or-drop}
use borrow.Author.Tests.{eq-eqb, le-ltb}
use Rattle.prelude.specs.Pick.{pick}
use Rattle.prelude.proofs.Cases.{and_left, and_right}
use Rattle.prelude.proofs.Picks.{pick_case}
use Rattle.prelude.proofs.Suffix.{by_suffix}
use Rattle.utf8.specs.Utf8.{char_len, positive, valid_from, valid_utf8}
use Rattle.utf8.proofs.Characters.{valid_skip}
use Rattle.notation.specs.declared.styles.Style.{Style}
use Rattle.notation.specs.declared.styles.Form.{Form}
use Rattle.notation.specs.declared.styles.Form.TheVariants.{AsJson, AsBytes}
use Rattle.notation.specs.Styles.{quote, took, style_of}
use Rattle.units.specs.Units.{unit_at}
use Rattle.units.specs.Written.{written}
use Rattle.units.proofs.WrittenBack.{Writes, unit_back}
use Rattle.notation.specs.Marks.{opens, opening}
use Rattle.strings.specs.Read.{accepted, read_units, read_token, read_string, read_text}
use Rattle.prelude.specs.Limits.{text_max}
use Rattle.strings_write.specs.Write.{write_units, mark, quoted, write_string}
use Rattle.prelude.specs.Bytes.{IsBytes}
use Rattle.strings.proofs.Steps.{read_skip, read_close, read_took}
use Rattle.strings_write.proofs.WriteSteps.{write_skip}

pub bytes_drop : (k : ℕ) (s : List ℕ) → IsBytes s → IsBytes (drop k s)
bytes_drop k s h i = rw get_or-drop (h (k + i))

pub bytes_take : (n : ℕ) (s : List ℕ) → IsBytes s → IsBytes (take n s)
bytes_take zero s h i = lit< tt
bytes_take (suc n) [] h i = lit< tt
bytes_take (suc n) (x ∷ s) h zero = h 0
bytes_take (suc n) (x ∷ s) h (suc i) = bytes_take n s (λ j. h (suc j)) i

-- the byte strings that a form writes
abbrev pub Writable : Form → List ℕ → Type 0
Writable AsJson s = valid_utf8 s ≡ true
Writable AsBytes s = Unit

valid_head : (x : ℕ) (r : List ℕ) → valid_from 0 (x ∷ r) ≡ true
    → (positive (char_len (x ∷ r)) ≡ true) × (valid_from 0 (drop (pred (char_len (x ∷ r))) r) ≡ true)
unfolding valid_from
valid_head x r w = (and_left _ _ w, sym (valid_skip (pred (char_len (x ∷ r))) r) ∙ and_right (positive (char_len (x ∷ r))) _ w)

writable_head : (form : Form) (x : ℕ) (r : List ℕ) → Writable form (x ∷ r) → Writes form (char_len (x ∷ r)) × Writable form (drop (pred (char_len (x ∷ r))) r)
writable_head AsJson x r w = valid_head x r w
writable_head AsBytes x r w = (tt, tt)

-- a unit u and the units v behind it
read_both : (st : Style) (p : ℕ) (a c u v z : List ℕ) → unit_at st (u ++ (v ++ z)) ≡ took (length u) a
    → read_units st (p + length u) 0 (v ++ z) ≡ accepted c (p + length u + (length v + 1))
    → read_units st p 0 ((u ++ v) ++ z) ≡ accepted (a ++ c) (p + (length (u ++ v) + 1))
read_both st p a c u v z e h =
    rw (append_assoc u v z, read_took st p (u ++ (v ++ z)) (length u) a e, drop-append_seam u (v ++ z), h)
    (ap (accepted (a ++ c)) (omega (arith, length-append u v)))

abbrev Back : Form → List ℕ → Type 0
Back form s = (p : ℕ) (t : List ℕ) → IsBytes s → Writable form s
    → read_units (style_of form) p 0 (write_units form 0 s ++ (quote (style_of form) ∷ t)) ≡ accepted s (p + (length (write_units form 0 s) + 1))

units_one : (form : Form) (x : ℕ) (r : List ℕ) → ((k : ℕ) → Back form (drop k r)) → Back form (x ∷ r)
unfolding write_units
units_one form x r ih p t b w =
    let n : ℕ = char_len (x ∷ r) in
    rw (write_skip form (pred n) r)
    (rw (take-append-drop (pred n) r) at
    (read_both (style_of form) p (x ∷ take (pred n) r) (drop (pred n) r) (written form n x r) (write_units form 0 (drop (pred n) r)) (quote (style_of form) ∷ t)
    (unit_back form x r _ n (writable_head form x r w).0 (b 0) refl)
    (ih (pred n) _ t (bytes_drop (pred n) r (λ i. b (suc i))) (writable_head form x r w).1)))

pub units_back : (form : Form) (s : List ℕ) (p : ℕ) (t : List ℕ) → IsBytes s → Writable form s
    → read_units (style_of form) p 0 (write_units form 0 s ++ (quote (style_of form) ∷ t)) ≡ accepted s (p + (length (write_units form 0 s) + 1))
unfolding write_units
units_back form = by_suffix (Back form) (λ p t b w. read_close (style_of form) p t) (units_one form)

opening_mark : (form : Form) (r : List ℕ) → opening (mark form ++ r) ≡ opens (style_of form) (length (mark form))
unfolding opening pick
opening_mark AsJson r = refl
opening_mark AsBytes r = refl

-- a text with its marks, and any text behind it
pub quoted_back : (form : Form) (s t : List ℕ) → IsBytes s → Writable form s → read_token (quoted form s ++ t) ≡ accepted s (length (quoted form s))
unfolding read_token quoted
quoted_back form s t b w =
    let u : List ℕ = write_units form 0 s in
    let n : ℕ = length (mark form) in
    rw (
      append_assoc (mark form) (u ++ (quote (style_of form) ∷ [])) t,
      append_assoc u (quote (style_of form) ∷ []) t,
      opening_mark form (u ++ (quote (style_of form) ∷ t)),
      read_skip (style_of form) n n (mark form ++ (u ++ (quote (style_of form) ∷ t))),
      drop-append_seam (mark form) (u ++ (quote (style_of form) ∷ t)),
      units_back form s n t b w,
    )
    (ap (accepted s) (omega (arith, length-append (mark form) (u ++ (quote (style_of form) ∷ [])), length-append u (quote (style_of form) ∷ []))))

pub token_back : (s t : List ℕ) → IsBytes s → read_token (write_string s ++ t) ≡ accepted s (length (write_string s))
unfolding write_string
token_back s t b =
    pick_case (λ w. read_token (w ++ t) ≡ accepted s (length w)) (valid_utf8 s) _ _ (λ e. quoted_back AsJson s t b e) (λ e. quoted_back AsBytes s t b tt)

-- a text that reads back as a token, read as a whole and into a room
pub whole_back : (s w : List ℕ) → read_token (w ++ []) ≡ accepted s (length w) → read_string w ≡ accepted s (length w)
unfolding read_string pick
whole_back s w e =
    let f : read_token w ≡ accepted s (length w) = rw append-nil at e in
    simp (f, eq-eqb (length w) (length w) refl)

pub text_back : (room : ℕ) (s w : List ℕ) → read_token (w ++ []) ≡ accepted s (length w) → length w ≤ text_max → length s ≤ room
    → read_text room w ≡ accepted s (length w)
unfolding read_text pick
text_back room s w e h g = simp (le-ltb text_max (length w) h, whole_back s w e, le-ltb room (length s) g)

pub round_trip : (s : List ℕ) → IsBytes s → read_string (write_string s) ≡ accepted s (length (write_string s))
round_trip s b = whole_back s (write_string s) (token_back s [] b)

pub write_injective : (s t : List ℕ) → IsBytes s → IsBytes t → write_string s ≡ write_string t → s ≡ t
write_injective s t b c e = cc (round_trip s b, round_trip t c, ap read_string e)
