-- A written text has no byte below 0x20, as no written unit has.
-- Assumes nothing.
use Prim.Native.Nat.{ℕ, zero, suc, pred, ◌≤◌, ◌<◌}
use mathlib.Core.List.{List, [], ◌∷◌, ◌++◌}
use mathlib.Core.Path.{refl}
use native.Mathlib.Omega.{arith}
use lib.Dec.{lit≤}
use lib.ListN.{length, get_or}
use Rattle.prelude.proofs.Picks.{pick_case}
use Rattle.prelude.proofs.Suffix.{by_suffix}
use Rattle.utf8.specs.Utf8.{char_len, valid_utf8}
use Rattle.notation.specs.declared.styles.Form.{Form}
use Rattle.notation.specs.declared.styles.Form.TheVariants.{AsJson, AsBytes}
use Rattle.notation.specs.Styles.{quote, style_of}
use Rattle.units.specs.Written.{written}
use Rattle.notation.proofs.LiteralLaws.{quote_ascii}
use Rattle.units.proofs.WrittenUnits.{Printed, printed_append, written_printed}
use Rattle.strings_write.specs.Write.{write_units, mark, quoted, write_string}
use Rattle.strings_write.proofs.WriteSteps.{write_skip}

units_printed : (form : Form) (s : List ℕ) → Printed (write_units form 0 s)
unfolding write_units
units_printed form =
    by_suffix (λ s. Printed (write_units form 0 s)) tt
    (λ x r ih. let n : ℕ = char_len (x ∷ r) in
    printed_append (written form n x r) (write_units form (pred n) r) (written_printed form n x r refl) (rw (write_skip form (pred n) r) (ih (pred n))))

mark_printed : (form : Form) → Printed (mark form)
mark_printed AsJson = (lit≤ tt, tt)
mark_printed AsBytes = (lit≤ tt, (lit≤ tt, tt))

pub quoted_printed : (form : Form) (s : List ℕ) → Printed (quoted form s)
unfolding quoted
quoted_printed form s =
    printed_append (mark form) (write_units form 0 s ++ (quote (style_of form) ∷ [])) (mark_printed form)
    (printed_append (write_units form 0 s) (quote (style_of form) ∷ []) (units_printed form s) ((quote_ascii (style_of form)).0, tt))

pub write_printed : (s : List ℕ) → Printed (write_string s)
unfolding write_string
write_printed s = pick_case Printed (valid_utf8 s) _ _ (λ e. quoted_printed AsJson s) (λ e. quoted_printed AsBytes s)

pub printed_at : (s : List ℕ) → Printed s → (i : ℕ) → i < length s → 0x20 ≤ get_or s i 0
printed_at [] h i l = absurd (omega arith)
printed_at (x ∷ s) h zero l = h.0
printed_at (x ∷ s) h (suc i) l = printed_at s h.1 i (omega arith)
