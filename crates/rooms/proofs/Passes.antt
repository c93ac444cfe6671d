-- A whole text in front of a buffer: measured by one pass over no buffer and stored by another, or stored at once where it is known to fit.
-- The two answers are `done` of the length, and `full`.
-- Assumes nothing.
use Prim.Native.Nat.{ℕ, ◌≤◌, ◌<◌}
use mathlib.Core.Bool.{true, false}
use mathlib.Core.List.{List, ◌++◌}
use mathlib.Core.Path.{◌≡◌, sym, ap, ◌∙◌}
use native.Mathlib.Nat.{zero-add}
use native.Mathlib.Omega.{arith}
use borrow.Author.Tests.{le-leb, lt-leb, leb-true, leb-false}
use lib.Dec.{leb}
use lib.ListN.{length}
use lib.Seq.{sets}
use Rattle.prelude.proofs.Cases.{split}
use Rattle.prelude.proofs.Picks.{pick_true, pick_false}
use Rattle.prelude.proofs.Stores.{sets_over, empty_front}
use Rattle.prelude.specs.Pick.{pick}
use Rattle.strings_write.specs.Write.{wrote_into}
use Rattle.rooms.specs.inner.Puts.{Put}
use Rattle.rooms.proofs.Puts.{fits, over}

module _ {A : Type 0} (done : ℕ → A) (full : A) (t out : List ℕ) where
  -- what writing answers and leaves
  abbrev pub Whole : A → List ℕ → Type 0
  Whole r new = (r ≡ pick (leb (length t) (length out)) (done (length t)) full) × (new ≡ wrote_into t out)

  left : length out < length t → Whole full out
  unfolding wrote_into
  left h =
      let e : leb (length t) (length out) ≡ false = lt-leb (length t) (length out) h in
      (sym (pick_false _ _ _ e), sym (pick_false _ _ _ e))

  stored : (n : ℕ) (new : List ℕ) → length t ≤ length out → n ≡ length t → new ≡ sets out 0 t → Whole (done n) new
  unfolding wrote_into
  stored n new h e w =
      let f : leb (length t) (length out) ≡ true = le-leb (length t) (length out) h in
      (ap done e ∙ sym (pick_true _ _ _ f), w ∙ sets_over t out h ∙ sym (pick_true _ _ _ f))

  pub one_pass : {n : ℕ} {new : List ℕ} → length t ≤ length out → Put t (length out) 0 n out new → Whole (done n) new
  one_pass {n} {new} h p = stored n new h ((fits p (omega arith)).0 ∙ zero-add _) (fits p (omega arith)).1

  -- a pass over the empty part `l` of the buffer tells whether the text fits
  module _ (l : List ℕ) (z : length l ≡ 0) {l₀ : List ℕ} {n : ℕ} (p : Put t (length out) 0 n l₀ l) where
    same : l ++ out ≡ out
    same = empty_front l out z

    pub too_long_lem : length out < n → Whole full (l ++ out)
    too_long_lem h =
        let g : length out < length t =
        split (leb (length t) (length out))
        (λ e. let k : length t ≤ length out = leb-true (length t) (length out) e in absurd (omega (arith, (fits p (omega arith)).0)))
        (λ e. leb-false (length t) (length out) e) in
        ((left g).0, same ∙ (left g).1)

    pub two_passes : {m : ℕ} {new : List ℕ} → n ≤ length out → Put t (length out) 0 m (l ++ out) new → Whole (done n) new
    two_passes {m} {new} h u =
        let g : length t ≤ length out =
        split (leb (length t) (length out))
        (λ e. leb-true (length t) (length out) e)
        (λ e. absurd (omega (arith, over p (omega (arith, leb-false (length t) (length out) e))))) in
        stored n new g ((fits p (omega arith)).0 ∙ zero-add _) ((fits u (omega arith)).1 ∙ ap (λ (k : List ℕ). sets k 0 t) same)
