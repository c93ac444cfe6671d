-- JSON8's own words and marks, by what they stand for.
-- Assumes nothing.
use Prim.Native.Nat.{ℕ}
use mathlib.Core.Bool.{Bool, true, false}
use mathlib.Core.List.{List, [], ◌∷◌}
use mathlib.Core.Path.{◌≡◌, ap, ◌∙◌}
use borrow.Author.Tests.{eq-eqb, ne_eqb}
use Rattle.prelude.proofs.Picks.{pick_true, pick_false}
use Rattle.tokens.specs.Words.{null_word, false_word, true_word}
use Rattle.rooms.specs.inner.Puts.{Put}
use Rattle.rooms.proofs.Puts.{put_as, put_none}
use Rattle.trees.specs.Trees.{comma, render}
use Rattle.json8_fit.specs.inner.Steps.{word_of}

-- the comma before a member, unless it is the first
module _ {first : Bool} {room o : ℕ} {out : List ℕ} where
  pub comma_none : first ≡ true → Put (comma first) room o o out out
  comma_none e = put_as (ap comma e) put_none

  pub comma_put : {r : ℕ} {new : List ℕ} → first ≡ false → Put (0x2c ∷ []) room o r out new → Put (comma first) room o r out new
  comma_put e w = put_as (ap comma e) w

-- the word of a kind
module _ {kind room o r : ℕ} {out new : List ℕ} where
  pub word_null : kind ≡ 0 → Put null_word room o r out new → Put (render (word_of kind)) room o r out new
  unfolding word_of render
  word_null e w = put_as (ap render (pick_true _ _ _ (eq-eqb kind 0 e))) w

  module _ (h : kind ≡ 0 → ⊥) where
    pub word_false : kind ≡ 1 → Put false_word room o r out new → Put (render (word_of kind)) room o r out new
    unfolding word_of render
    word_false e w = put_as (ap render (pick_false _ _ _ (ne_eqb kind 0 h) ∙ pick_true _ _ _ (eq-eqb kind 1 e))) w

    pub word_true : (kind ≡ 1 → ⊥) → Put true_word room o r out new → Put (render (word_of kind)) room o r out new
    unfolding word_of render
    word_true e w = put_as (ap render (pick_false _ _ _ (ne_eqb kind 0 h) ∙ pick_false _ _ _ (ne_eqb kind 1 e))) w
