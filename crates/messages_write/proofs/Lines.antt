-- What is said, plain or as an object.
-- Assumes nothing.
use Prim.Native.Nat.{ℕ}
use mathlib.Core.Bool.{Bool, true, false}
use mathlib.Core.List.{List}
use mathlib.Core.Path.{◌≡◌}
use Rattle.prelude.proofs.Picks.{pick_true, pick_false}
use Rattle.rooms.specs.inner.Puts.{Put}
use Rattle.rooms.proofs.Puts.{put_as}
use Rattle.messages.specs.declared.Head.{Head}
use Rattle.messages.specs.Messages.{message_text, object_text, said_text}

module _ (head : Head) (s : List ℕ) {json : Bool} {room o r : ℕ} {out new : List ℕ} where
  pub said_object : json ≡ true → Put (object_text head s) room o r out new → Put (said_text json head s) room o r out new
  unfolding said_text
  said_object e w = put_as (pick_true _ _ _ e) w

  pub said_plain : json ≡ false → Put (message_text head s) room o r out new → Put (said_text json head s) room o r out new
  unfolding said_text
  said_plain e w = put_as (pick_false _ _ _ e) w
