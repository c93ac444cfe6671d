-- The bytes that a reader of units stores: a unit or a run of literal characters at a time; and of an accepted text they are what it
-- denotes.
-- Assumes nothing.
use Prim.Native.Nat.{ℕ, zero, suc, pred, ◌+◌}
use mathlib.Core.List.{List, [], ◌∷◌, ◌++◌, append_assoc}
use mathlib.Core.Path.{◌≡◌, refl, sym, ap, ◌∙◌}
use native.Mathlib.Omega.{arith}
use lib.ListN.{take, drop}
use lib.Seq.{sets, drop-drop, take-add}
use Rattle.prelude.specs.declared.refusals.Refusal.{Refusal}
use Rattle.notation.specs.declared.styles.Style.{Style}
use Rattle.notation.specs.Styles.{StringUnit, close, took, fault}
use Rattle.notation.specs.Literals.{literal_len, literal_run}
use Rattle.units.specs.Units.{unit_at}
use Rattle.notation.proofs.LiteralLaws.{by_run}
use Rattle.units.proofs.LiteralUnits.{literal_unit}
use Rattle.units.proofs.Sizes.{took_size}
use Rattle.notation.specs.Marks.{Opening, opens, unopened, opening}
use Rattle.strings.specs.Read.{StringRead, accepted, refused, more, after, read_units, read_from, read_token}
use Rattle.strings.specs.inner.Turns.{unit_then, units_bytes, bytes_from, token_bytes}

pub bytes_skip : (st : Style) (k : ℕ) (s : List ℕ) → units_bytes st k s ≡ units_bytes st 0 (drop k s)
unfolding units_bytes
bytes_skip st zero s = refl
bytes_skip st (suc k) [] = refl
bytes_skip st (suc k) (x ∷ r) = bytes_skip st k r

-- by what stands at the head
pub bytes_close : (st : Style) (s : List ℕ) → unit_at st s ≡ close → units_bytes st 0 s ≡ []
unfolding units_bytes unit_at
bytes_close st [] e = refl
bytes_close st (x ∷ r) e = rw e

pub bytes_fault : (st : Style) (s : List ℕ) (refusal : Refusal) → unit_at st s ≡ fault refusal → units_bytes st 0 s ≡ []
unfolding units_bytes unit_at
bytes_fault st [] refusal e = refl
bytes_fault st (x ∷ r) refusal e = rw e

pub bytes_took : (st : Style) (s : List ℕ) (n : ℕ) (bs : List ℕ) → unit_at st s ≡ took n bs → units_bytes st 0 s ≡ bs ++ units_bytes st 0 (drop n s)
unfolding units_bytes unit_at
bytes_took st [] n bs e = cc
bytes_took st (x ∷ r) zero bs e = absurd (omega (arith, took_size st (x ∷ r) zero bs e))
bytes_took st (x ∷ r) (suc n) bs e = rw e (ap (λ (l : List ℕ). bs ++ l) (bytes_skip st n r))

-- bytes that have come to a place go on by one unit, and by some more
pub bytes_on : (st : Style) (all s done : List ℕ) (at n : ℕ) (bs : List ℕ) → all ≡ done ++ units_bytes st 0 (drop at s) → unit_at st (drop at s) ≡ took n bs
    → all ≡ (done ++ bs) ++ units_bytes st 0 (drop (at + n) s)
bytes_on st all s done at n bs i e =
    i ∙ ap (λ (l : List ℕ). done ++ l) (bytes_took st (drop at s) n bs e ∙ ap (λ (t : List ℕ). bs ++ units_bytes st 0 t) (drop-drop n at s))
    ∙ sym (append_assoc done bs (units_bytes st 0 (drop (at + n) s)))

pub bytes_then : (all done mid bs rest : List ℕ) → all ≡ done ++ mid → mid ≡ bs ++ rest → all ≡ (done ++ bs) ++ rest
bytes_then all done mid bs rest i e = i ∙ ap (λ (l : List ℕ). done ++ l) e ∙ sym (append_assoc done bs rest)

-- a run at once
abbrev Ran : Style → List ℕ → ℕ → Type 0
Ran st s n = units_bytes st 0 s ≡ take n s ++ units_bytes st 0 (drop n s)

ran_more : (st : Style) (s : List ℕ) (n m : ℕ) → literal_len st s ≡ suc n → Ran st (drop (suc n) s) m → Ran st s (suc n + m)
ran_more st s n m e h =
    bytes_then _ (take (suc n) s) _ (take m (drop (suc n) s)) _ (bytes_took st s (suc n) (take (suc n) s) (literal_unit st s n e)) h
    ∙ rw (take-add (suc n) m s, ← drop-drop m (suc n) s) refl

pub bytes_run : (st : Style) (s : List ℕ) → units_bytes st 0 s ≡ take (literal_run st 0 s) s ++ units_bytes st 0 (drop (literal_run st 0 s) s)
bytes_run st = by_run st (Ran st) (λ s e. refl) (λ s n m e f h. ran_more st s n m e h)

-- what an accepted text denotes
abbrev pub Denoted : StringRead → List ℕ → Type 0
Denoted (accepted bs e) us = us ≡ bs
Denoted (refused refusal at) us = Unit

denoted_more : (bs : List ℕ) (r : StringRead) (us : List ℕ) → Denoted r us → Denoted (more bs r) (bs ++ us)
denoted_more bs (accepted cs e) us d = ap (λ (l : List ℕ). bs ++ l) d
denoted_more bs (refused refusal at) us d = tt

denoted_after : (p : ℕ) (u : StringUnit) (g : ℕ → ℕ → StringRead) (h : ℕ → List ℕ) → ((q m : ℕ) → Denoted (g q m) (h m)) → Denoted (after p u g) (unit_then u h)
denoted_after p close g h f = refl
denoted_after p (took n bs) g h f = denoted_more bs (g (p + n) (pred n)) (h (pred n)) (f (p + n) (pred n))
denoted_after p (fault refusal) g h f = tt

pub units_denoted : (st : Style) (p k : ℕ) (s : List ℕ) → Denoted (read_units st p k s) (units_bytes st k s)
unfolding read_units units_bytes
units_denoted st p k [] = tt
units_denoted st p zero (x ∷ r) =
    denoted_after p (unit_at st (x ∷ r)) (λ q m. read_units st q m r) (λ m. units_bytes st m r) (λ q m. units_denoted st q m r)
units_denoted st p (suc k) (x ∷ r) = units_denoted st p k r

from_denoted : (o : Opening) (s : List ℕ) → Denoted (read_from o s) (bytes_from o s)
from_denoted (opens st n) s = units_denoted st n n s
from_denoted unopened s = tt

pub token_denoted : (s : List ℕ) → Denoted (read_token s) (token_bytes s)
unfolding read_token token_bytes
token_denoted s = from_denoted (opening s) s

-- an accepted text's bytes stored as far as there is room
abbrev pub Stored : StringRead → List ℕ → List ℕ → Type 0
Stored (accepted bs e) out new = new ≡ sets out 0 bs
Stored (refused refusal at) out new = Unit

stored_as : (v : StringRead) (us out new : List ℕ) → Denoted v us → new ≡ sets out 0 us → Stored v out new
stored_as (accepted bs e) us out new d w = w ∙ ap (sets out 0) d
stored_as (refused refusal at) us out new d w = tt

pub units_stored : (st : Style) (p : ℕ) (s out new : List ℕ) → new ≡ sets out 0 (units_bytes st 0 s) → Stored (read_units st p 0 s) out new
units_stored st p s out new w = stored_as (read_units st p 0 s) (units_bytes st 0 s) out new (units_denoted st p 0 s) w

pub token_stored : (s out new : List ℕ) → new ≡ sets out 0 (token_bytes s) → Stored (read_token s) out new
token_stored s out new w = stored_as (read_token s) (token_bytes s) out new (token_denoted s) w
