-- A text is shown to a terminal if there is room; where none shows it, the buffer stays as it is.
-- Assumes nothing.
use Prim.Native.Nat.{ℕ}
use mathlib.Core.Bool.{Bool, true, false}
use mathlib.Core.List.{List}
use mathlib.Core.Path.{◌≡◌, refl, sym, ap, ◌∙◌}
use lib.Dec.{leb}
use lib.ListN.{length}
use Rattle.prelude.proofs.Cases.{never}
use Rattle.prelude.proofs.Picks.{pick_true, pick_false}
use Rattle.prelude.specs.declared.refusals.Refusal.{Refusal}
use Rattle.std.specs.Prelude.{Result, Ok, Err}
use Rattle.strings_write.specs.Write.{written_in, wrote_into}
use Rattle.terminals.specs.Terminals.{safe_text}
use Rattle.command_outputs.specs.Outputs.{shown_in, is_showable}

-- what is promised of a printed text, by whether that failed
abbrev pub Shown : Bool → List ℕ → List ℕ → Bool → List ℕ → Type 0
Shown terminal text shown failed new = (is_showable terminal text (length shown) ≡ false → failed ≡ true) × (new ≡ shown_in terminal text shown)

abbrev is_wrote : Result ℕ Refusal → Bool
is_wrote (Ok n) = true
is_wrote (Err k) = false

module _ (terminal : Bool) (text shown : List ℕ) where
  pub as_it_is : (r : Bool) → terminal ≡ false → Shown terminal text shown r shown
  unfolding shown_in is_showable
  as_it_is r e = (λ f. never (let z : true ≡ false = sym (pick_false _ _ _ e) ∙ f in cc), sym (pick_false _ _ _ e))

  module _ (e : terminal ≡ true) (w : Result ℕ Refusal) (a : w ≡ written_in (length shown) (safe_text text)) (new : List ℕ) (s : new ≡ wrote_into (safe_text text) shown) where
    stored : new ≡ shown_in terminal text shown
    unfolding shown_in
    stored = s ∙ sym (pick_true _ _ _ e)

    pub as_shown : (r : Bool) (n : ℕ) → w ≡ Ok n → Shown terminal text shown r new
    unfolding is_showable written_in
    as_shown r n g = (
      λ f.
          let q : leb (length (safe_text text)) (length shown) ≡ false = sym (pick_true _ _ _ e) ∙ f in
          never (let z : false ≡ true = ap is_wrote (sym (a ∙ pick_false _ _ _ q) ∙ g) in cc),
      stored,
    )

    pub not_shown : Shown terminal text shown true new
    not_shown = (λ f. refl, stored)
