-- One step of reading: bytes to be skipped are dropped, and then the unit at the head decides.
-- Assumes nothing.
use Prim.Native.Nat.{ℕ, zero, suc, ◌+◌}
use mathlib.Core.List.{List, [], ◌∷◌, ◌++◌, append_assoc}
use mathlib.Core.Path.{◌≡◌, refl, sym, ap, ◌∙◌}
use native.Mathlib.Omega.{arith}
use lib.ListN.{drop}
use lib.Seq.{drop-drop}
use Rattle.prelude.specs.Pick.{pick}
use Rattle.prelude.specs.declared.refusals.Refusal.{Refusal}
use Rattle.notation.specs.declared.styles.Style.{Style}
use Rattle.notation.specs.declared.styles.Style.TheVariants.{Json, Unicode, Bytes}
use Rattle.notation.specs.Styles.{quote, close, took, fault}
use Rattle.units.specs.Units.{unit_at}
use Rattle.units.proofs.Sizes.{took_size}
use Rattle.strings.specs.Read.{StringRead, accepted, refused, more, read_units}

pub read_skip : (st : Style) (p k : ℕ) (s : List ℕ) → read_units st p k s ≡ read_units st p 0 (drop k s)
unfolding read_units
read_skip st p zero s = refl
read_skip st p (suc k) [] = refl
read_skip st p (suc k) (x ∷ r) = read_skip st p k r

-- by what stands at the head
pub read_closes : (st : Style) (p : ℕ) (s : List ℕ) → unit_at st s ≡ close → read_units st p 0 s ≡ accepted [] (p + 1)
unfolding read_units unit_at
read_closes st p [] e = cc
read_closes st p (x ∷ r) e = rw e

pub read_fault : (st : Style) (p : ℕ) (s : List ℕ) (refusal : Refusal) → unit_at st s ≡ fault refusal → read_units st p 0 s ≡ refused refusal p
unfolding read_units unit_at
read_fault st p [] refusal e = cc
read_fault st p (x ∷ r) refusal e = rw e

pub read_took : (st : Style) (p : ℕ) (s : List ℕ) (n : ℕ) (bs : List ℕ) → unit_at st s ≡ took n bs
    → read_units st p 0 s ≡ more bs (read_units st (p + n) 0 (drop n s))
unfolding read_units unit_at
read_took st p [] n bs e = cc
read_took st p (x ∷ r) zero bs e = absurd (omega (arith, took_size st (x ∷ r) zero bs e))
read_took st p (x ∷ r) (suc n) bs e = rw e (ap (more bs) (read_skip st (p + suc n) n r))

pub read_close : (st : Style) (p : ℕ) (t : List ℕ) → read_units st p 0 (quote st ∷ t) ≡ accepted [] (p + 1)
unfolding read_units unit_at pick
read_close Json p t = refl
read_close Unicode p t = refl
read_close Bytes p t = refl

-- bytes in front of bytes
pub more_none : (r : StringRead) → more [] r ≡ r
more_none (accepted bs e) = refl
more_none (refused refusal at) = refl

pub more_more : (a b : List ℕ) (r : StringRead) → more a (more b r) ≡ more (a ++ b) r
more_more a b (accepted bs e) = ap (λ (l : List ℕ). accepted l e) (sym (append_assoc a b bs))
more_more a b (refused refusal at) = refl

-- a reading that has come to a place goes on by one unit
pub read_on : (st : Style) (w : StringRead) (s done : List ℕ) (at n : ℕ) (bs : List ℕ)
    → w ≡ more done (read_units st at 0 (drop at s)) → unit_at st (drop at s) ≡ took n bs
    → w ≡ more (done ++ bs) (read_units st (at + n) 0 (drop (at + n) s))
read_on st w s done at n bs i e =
    i ∙ ap (more done) (read_took st at (drop at s) n bs e) ∙ more_more done bs (read_units st (at + n) 0 (drop n (drop at s)))
    ∙ ap (λ (t : List ℕ). more (done ++ bs) (read_units st (at + n) 0 t)) (drop-drop n at s)
