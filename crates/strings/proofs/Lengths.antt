-- How many bytes a text denotes, by the bytes that each unit takes.
-- Assumes nothing.
use Prim.Native.Nat.{ℕ, zero, suc, ◌+◌, ◌≤◌, ◌<◌}
use mathlib.Core.List.{List, ◌∷◌, ◌++◌}
use mathlib.Core.Path.{◌≡◌, refl, sym, ap, ◌∙◌}
use native.Mathlib.Omega.{arith}
use lib.Dec.{eqb}
use lib.ListN.{length, take, drop, length-append}
use lib.Seq.{take-add}
use Rattle.prelude.proofs.Picks.{pick_case}
use Rattle.prelude.proofs.Suffix.{by_suffix}
use Rattle.notation.specs.declared.styles.Style.{Style}
use Rattle.notation.specs.Styles.{StringUnit, close, took, fault}
use Rattle.units.specs.Units.{unit_at}
use Rattle.units.proofs.Sizes.{took_size, took_raw}
use Rattle.notation.specs.Marks.{Opening, opens, unopened, opening}
use Rattle.strings.specs.Read.{StringRead, accepted, refused, more, nothing_behind, read_units, read_from, read_token, read_string}
use Rattle.strings.proofs.Steps.{read_skip, read_closes, read_took, read_fault}

-- what stands between p and the closing quote denotes no more bytes than it has, and itself where it denotes as many

abbrev pub Raw : ℕ → List ℕ → StringRead → Type 0
Raw p s (accepted bs e) = (p + length bs + 1 ≤ e) × (p + length bs + 1 ≡ e → bs ≡ take (length bs) s)
Raw p s (refused refusal at) = Unit

raw_more : (p n : ℕ) (bs s : List ℕ) (r : StringRead) → length bs ≤ n → (length bs ≡ n → bs ≡ take n s) → Raw (p + n) (drop n s) r → Raw p s (more bs r)
raw_more p n bs s (accepted cs e) l f b =
    let a : length (bs ++ cs) ≡ length bs + length cs = length-append bs cs in (
      omega (arith, b.0),
      λ h. let m : length bs ≡ n = omega (arith, b.0) in
          let c : cs ≡ take (length cs) (drop n s) = b.1 (omega arith) in
          (λ i. f m i ++ c i) ∙ sym (take-add n (length cs) s) ∙ ap (λ (k : ℕ). take k s) (let q : n + length cs ≡ length (bs ++ cs) = omega arith in q),
    )
raw_more p n bs s (refused refusal at) l f b = tt

raw_one : (st : Style) (x : ℕ) (r : List ℕ) → ((k p : ℕ) → Raw p (drop k r) (read_units st p 0 (drop k r))) → (p : ℕ) → Raw p (x ∷ r) (read_units st p 0 (x ∷ r))
raw_one st x r ih p = go (unit_at st (x ∷ r)) refl
  where
    go : (u : StringUnit) → unit_at st (x ∷ r) ≡ u → Raw p (x ∷ r) (read_units st p 0 (x ∷ r))
    go close e = rw (read_closes st p (x ∷ r) e) (omega arith, λ h. refl)
    go (took zero bs) e = absurd (omega (arith, took_size st (x ∷ r) 0 bs e))
    go (took (suc n) bs) e =
        let t = took_raw st (x ∷ r) (suc n) bs e in
        rw (read_took st p (x ∷ r) (suc n) bs e) (raw_more p (suc n) bs (x ∷ r) (read_units st (p + suc n) 0 (drop n r)) t.0 t.1 (ih n (p + suc n)))
    go (fault refusal) e = rw (read_fault st p (x ∷ r) refusal e) tt

pub units_raw : (st : Style) (s : List ℕ) (p : ℕ) → Raw p s (read_units st p 0 s)
unfolding read_units
units_raw st = by_suffix (λ s. (p : ℕ) → Raw p s (read_units st p 0 s)) (λ p. tt) (raw_one st)

-- bytes denoted in front of the end
abbrev pub Less : StringRead → Type 0
Less (accepted bs e) = length bs < e
Less (refused refusal at) = Unit

less_raw : (p : ℕ) (s : List ℕ) (r : StringRead) → Raw p s r → Less r
less_raw p s (accepted bs e) h = omega (arith, h.0)
less_raw p s (refused refusal at) h = tt

from_less : (o : Opening) (s : List ℕ) → Less (read_from o s)
from_less (opens st n) s = rw (read_skip st n n s) (less_raw n (drop n s) (read_units st n 0 (drop n s)) (units_raw st (drop n s) n))
from_less unopened s = tt

whole_less : (m : ℕ) (r : StringRead) → Less r → Less (nothing_behind m r)
whole_less m (accepted bs e) h = pick_case Less (eqb e m) _ _ (λ q. h) (λ q. tt)
whole_less m (refused refusal at) h = tt

pub token_length : (s : List ℕ) → Less (read_token s)
unfolding read_token
token_length s = from_less (opening s) s

pub string_length : (s : List ℕ) → Less (read_string s)
unfolding read_string
string_length s = whole_less (length s) (read_token s) (token_length s)
