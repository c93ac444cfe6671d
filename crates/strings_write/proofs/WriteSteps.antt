-- One step of writing: bytes to be skipped are dropped, and a run of literal characters is written at once, by the induction over runs.
-- Assumes nothing.
use Prim.Native.Nat.{ℕ, zero, suc}
use mathlib.Core.List.{List, [], ◌∷◌, ◌++◌, append_assoc}
use mathlib.Core.Path.{◌≡◌, refl, sym, ap, ◌∙◌}
use native.Mathlib.Omega.{arith}
use lib.ListN.{take, drop}
use lib.Seq.{drop-drop, take-add}
use Rattle.notation.specs.declared.styles.Form.{Form}
use Rattle.notation.specs.Styles.{style_of}
use Rattle.notation.specs.Literals.{literal_len, literal_run}
use Rattle.notation.proofs.LiteralLaws.{by_run, literal_char}
use Rattle.units.proofs.LiteralUnits.{literal_written}
use Rattle.strings_write.specs.Write.{write_units}

pub write_skip : (form : Form) (k : ℕ) (s : List ℕ) → write_units form k s ≡ write_units form 0 (drop k s)
unfolding write_units
write_skip form zero s = refl
write_skip form (suc k) [] = refl
write_skip form (suc k) (x ∷ r) = write_skip form k r

abbrev Write : Form → List ℕ → ℕ → Type 0
Write form s n = write_units form 0 s ≡ take n s ++ write_units form 0 (drop n s)

write_one : (form : Form) (s : List ℕ) (n : ℕ) → literal_len (style_of form) s ≡ suc n → Write form s (suc n)
unfolding write_units literal_len
write_one form [] n e = absurd (omega arith)
write_one form (x ∷ r) n e = rw (literal_written form x r n e, literal_char (style_of form) (x ∷ r) n e) (ap (λ (l : List ℕ). (x ∷ take n r) ++ l) (write_skip form n r))

pub write_run : (form : Form) (s : List ℕ) → write_units form 0 s ≡ take (literal_run (style_of form) 0 s) s ++ write_units form 0 (drop (literal_run (style_of form) 0 s) s)
write_run form =
    by_run (style_of form) (Write form) (λ s e. refl)
    (λ s n m e f h.
    write_one form s n e ∙ ap (λ (l : List ℕ). take (suc n) s ++ l) h
    ∙ sym (append_assoc (take (suc n) s) (take m (drop (suc n) s)) _)
    ∙ rw (take-add (suc n) m s, ← drop-drop m (suc n) s) refl)
