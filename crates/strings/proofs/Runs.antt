-- A run of literal characters is read at once: by the induction over runs, a character at a time.
-- Assumes nothing.
use Prim.Native.Nat.{ℕ, suc, ◌+◌}
use mathlib.Core.List.{List}
use mathlib.Core.Path.{◌≡◌, refl, sym, ap, ◌∙◌}
use native.Mathlib.Nat.{add-zero}
use native.Mathlib.Omega.{arith}
use lib.ListN.{take, drop}
use lib.Seq.{drop-drop, take-add}
use Rattle.notation.specs.declared.styles.Style.{Style}
use Rattle.notation.specs.Literals.{literal_len, literal_run}
use Rattle.notation.proofs.LiteralLaws.{by_run}
use Rattle.units.proofs.LiteralUnits.{literal_unit}
use Rattle.strings.specs.Read.{more, read_units}
use Rattle.strings.proofs.Steps.{read_took, more_none, more_more}

abbrev Read : Style → List ℕ → ℕ → Type 0
Read st s n = (p : ℕ) → read_units st p 0 s ≡ more (take n s) (read_units st (p + n) 0 (drop n s))

read_more : (st : Style) (s : List ℕ) (n m : ℕ) → literal_len st s ≡ suc n → Read st (drop (suc n) s) m → Read st s (suc n + m)
read_more st s n m e h p =
    let q : p + suc n + m ≡ p + (suc n + m) = omega arith in
    read_took st p s (suc n) (take (suc n) s) (literal_unit st s n e)
    ∙ ap (more (take (suc n) s)) (h (p + suc n))
    ∙ more_more (take (suc n) s) (take m (drop (suc n) s)) (read_units st (p + suc n + m) 0 (drop m (drop (suc n) s)))
    ∙ rw (take-add (suc n) m s, ← q, ← drop-drop m (suc n) s) refl

pub run_law : (st : Style) (s : List ℕ) (p : ℕ)
    → read_units st p 0 s ≡ more (take (literal_run st 0 s) s) (read_units st (p + literal_run st 0 s) 0 (drop (literal_run st 0 s) s))
run_law st =
    by_run st (Read st) (λ s e p. rw (add-zero p) (sym (more_none (read_units st p 0 s)))) (λ s n m e f h. read_more st s n m e h)
