-- What stands first in a text: where no blank does, none is passed before what is read there.
-- Assumes nothing.
use Prim.Native.Nat.{ℕ}
use native.Mathlib.Nat.{add-zero, zero-add}
use mathlib.Core.Bool.{Bool, true, false}
use mathlib.Core.List.{List, [], ◌∷◌, ◌++◌}
use mathlib.Core.Path.{◌≡◌, refl, ap}
use lib.Dec.{eqb}
use Rattle.prelude.specs.Pick.{pick}
use Rattle.prelude.proofs.Cases.{never}
use Rattle.tokens.specs.Blanks.{is_space, passing, blanks_from}
use Rattle.json8.specs.declared.nodes.Sort.{Sort}
use Rattle.json8.specs.declared.nodes.Sort.TheVariants.{Items, Pairs}
use Rattle.json8.specs.Nodes.{Read, got, refused, Reader, preceded, seq}
use Rattle.json8.specs.Leaves.{spaces}
use Rattle.json8.specs.Values.{close_of}

-- a byte that begins no blank
unfoldable pub solid : ℕ → Bool
solid x = pick (is_space x) false (pick (eqb x 0x23) false true)

-- and closes no bracket either
unfoldable pub begins : ℕ → Bool
begins x = pick (eqb x 0x5d) false (pick (eqb x 0x7d) false (solid x))

abbrev pub Firm : List ℕ → Type 0
Firm [] = ⊥
Firm (x ∷ r) = solid x ≡ true

abbrev pub Heads : List ℕ → Type 0
Heads [] = ⊥
Heads (x ∷ r) = begins x ≡ true

pub heads_append : (s r : List ℕ) → Heads s → Heads (s ++ r)
heads_append [] r h = absurd h
heads_append (x ∷ s) r h = h

-- a test that fails, and what is picked then
pub unpicked : (c y : Bool) → pick c false y ≡ true → (c ≡ false) × (y ≡ true)
unfolding pick
unpicked true y e = never (cc)
unpicked false y e = (refl, e)

pub heads_firm : (s : List ℕ) → Heads s → Firm s
unfolding begins
heads_firm [] h = absurd h
heads_firm (x ∷ s) h = (unpicked (eqb x 0x7d) _ (unpicked (eqb x 0x5d) _ h).1).1

pub head_open : (b : Sort) (x : ℕ) → begins x ≡ true → eqb x (close_of b) ≡ false
unfolding begins
head_open Items x h = (unpicked (eqb x 0x5d) _ h).0
head_open Pairs x h = (unpicked (eqb x 0x7d) _ (unpicked (eqb x 0x5d) _ h).1).0

spaces_none : (p n m x : ℕ) (r : List ℕ) → solid x ≡ true → spaces p n m (x ∷ r) ≡ got 0 0 [] []
unfolding spaces blanks_from passing solid pick
spaces_none p n m x r h =
    let (a, b) = unpicked (is_space x) _ h in
    let c = (unpicked (eqb x 0x23) _ b).0 in
    rw (a, c)

more_none : (r : Read) → preceded 0 [] [] r ≡ r
more_none (got l tag ns bs) = ap (λ (k : ℕ). got k tag ns bs) (zero-add l)
more_none (refused refusal at) = refl

pub seq_firm : (b : Reader) (p n m : ℕ) (s : List ℕ) → Firm s → seq spaces b p n m s ≡ b p n m s
unfolding seq
seq_firm b p n m [] h = absurd h
seq_firm b p n m (x ∷ r) h = rw (spaces_none p n m x r h, more_none, add-zero p, add-zero n, add-zero m)
