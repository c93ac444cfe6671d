-- A token read into a room, way by way of the code: after a first pass over an empty part l the buffer is as it was.
-- Assumes nothing.
use Prim.Native.Nat.{ℕ, ◌≤◌, ◌<◌}
use mathlib.Core.List.{List, ◌++◌}
use mathlib.Core.Path.{◌≡◌, Path, refl, sym, ap, ◌∙◌, subst}
use native.Mathlib.Omega.{arith}
use borrow.Author.Tests.{lt-ltb, le-ltb}
use lib.ListN.{length}
use Rattle.std.specs.Prelude.{Result, Ok, Err}
use Rattle.prelude.specs.declared.refusals.Refused.{Refused}
use Rattle.prelude.specs.Refusals.{too_long, no_room, refused_at}
use Rattle.prelude.specs.Limits.{text_max}
use Rattle.prelude.specs.Pick.{pick}
use Rattle.prelude.proofs.Cases.{never}
use Rattle.prelude.proofs.Stores.{sets_over, empty_front}
use Rattle.strings.specs.declared.answers.Token.{Token}
use Rattle.strings.specs.Read.{StringRead, accepted, refused, fitted, token_at, token_of, read_into, read_token, read_text_token}
use Rattle.strings.proofs.UnitBytes.{Stored}

pub same_token : (end len : ℕ) (t : Token) → Path (Result Token Refused) (Ok (token_at end len)) (Ok t) → token_at end len ≡ t
same_token end len t h = cc

abbrev Told : StringRead → List ℕ → Result Token Refused → List ℕ → Type 0
Told v out r new = (r ≡ token_of (fitted (length out) v)) × (new ≡ read_into (fitted (length out) v) out)

module _ (out : List ℕ) where
  wrong : (v : StringRead) (f : Refused) → token_of v ≡ Err f → Told v out (Err f) out
  wrong (accepted bs e) f h = never (cc)
  wrong (refused refusal at) f h = (sym h, refl)

  tight : (v : StringRead) (t : Token) → token_of v ≡ Ok t → length out < t.len → Told v out (Err (refused_at no_room 0)) out
  unfolding pick
  tight (accepted bs e) t h l =
      let b : length bs ≡ t.len = ap (λ (x : Token). x.len) (same_token e (length bs) t h) in
      rw (lt-ltb (length out) (length bs) (omega arith)) (refl, refl)
  tight (refused refusal at) t h l = never (cc)

  good : (v : StringRead) (t : Token) (new : List ℕ) → token_of v ≡ Ok t → t.len ≤ length out → Stored v out new → Told v out (Ok t) new
  unfolding pick
  good (accepted bs e) t new h l p =
      let b : length bs ≡ t.len = ap (λ (x : Token). x.len) (same_token e (length bs) t h) in
      let f : length bs ≤ length out = omega arith in
      rw (le-ltb (length out) (length bs) f) (sym h, p ∙ sets_over bs out f)
  good (refused refusal at) t new h l p = never (cc)

module _ (out : List ℕ) (v : StringRead) (l : List ℕ) (z : length l ≡ 0) where
  abbrev same : l ++ out ≡ out
  same = empty_front l out z

  pub token_wrong : (f : Refused) → Err f ≡ token_of v → Told v out (Err f) (l ++ out)
  token_wrong f i = subst (Told v out (Err f)) (sym same) (wrong out v f (sym i))

  module _ (t : Token) (i : Ok t ≡ token_of v) where
    pub token_tight : length (l ++ out) < t.len → Told v out (Err (refused_at no_room 0)) (l ++ out)
    token_tight h = subst (Told v out (Err (refused_at no_room 0))) (sym same) (tight out v t (sym i) (rw same at h))

    pub token_good : (new : List ℕ) → t.len ≤ length (l ++ out) → Stored v (l ++ out) new → Told v out (Ok t) new
    token_good new h p = good out v t new (sym i) (rw same at h) (subst (λ (o : List ℕ). Stored v o new) same p)

-- the cap
pub long : (s out : List ℕ) → text_max < length s
    → (Err (refused_at too_long 0) ≡ token_of (read_text_token (length out) s)) × (out ≡ read_into (read_text_token (length out) s) out)
unfolding read_text_token pick
long s out h = rw (lt-ltb text_max (length s) h) (refl, refl)

pub within : (s out new : List ℕ) (r : Result Token Refused) → length s ≤ text_max → Told (read_token s) out r new
    → (r ≡ token_of (read_text_token (length out) s)) × (new ≡ read_into (read_text_token (length out) s) out)
unfolding read_text_token pick
within s out new r h t = rw (le-ltb text_max (length s) h) t
