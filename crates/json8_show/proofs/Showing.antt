-- What is shown, case by case of where a string stands.
-- Assumes nothing.
use Prim.Native.Nat.{ℕ, ◌+◌, ◌-◌, ◌*◌, ◌/◌, ◌≤◌, ◌<◌}
use mathlib.Core.Bool.{false}
use mathlib.Core.List.{List}
use mathlib.Core.Path.{◌≡◌, sym, ap, ◌∙◌}
use native.Mathlib.Omega.{arith}
use borrow.Author.Tests.{leb-true, leb-false, le-leb, lt-leb}
use lib.Dec.{leb, eqb}
use lib.ListN.{length, get_or, take, drop}
use Rattle.std.specs.Prelude.{Option, Some, None}
use Rattle.prelude.specs.Pick.{pick}
use Rattle.prelude.proofs.Cases.{split}
use Rattle.prelude.proofs.Picks.{pick_case}
use Rattle.json8_show.specs.declared.show.Shown.{Shown}
use Rattle.json8_show.specs.declared.show.Shown.TheVariants.{InText, InStore}
use Rattle.json8_show.specs.Show.{shown_by, shown_at, shown_bytes, unshown}

-- a string's range lies in its buffer
abbrev Ranged : ℕ → ℕ → Option Shown → Type 0
Ranged text store (Some (InText place size)) = place + size ≤ text
Ranged text store (Some (InStore place size)) = place + size ≤ store
Ranged text store None = Unit

pub outside : (place size room : ℕ) → room < place → false ≡ leb (place + size) room
outside place size room h = sym (lt-leb (place + size) room (omega arith))

pub inside_after : (place size room : ℕ) → place ≤ room → leb size (room - place) ≡ leb (place + size) room
inside_after place size room h =
    split (leb size (room - place))
    (λ e. let l : size ≤ room - place = leb-true _ _ e in e ∙ sym (le-leb (place + size) room (omega arith)))
    (λ e. let l : room - place < size = leb-false size (room - place) e in e ∙ sym (lt-leb (place + size) room (omega arith)))

by_ranged : (kind place size text store : ℕ) → Ranged text store (shown_by kind place size text store)
unfolding shown_by
by_ranged kind place size text store =
    pick_case (Ranged text store) (eqb kind 5) (pick (leb (place + size) text) (Some (InText place size)) None) _
    (λ e. pick_case (Ranged text store) (leb (place + size) text) (Some (InText place size)) None (λ f. leb-true _ _ f) (λ f. tt))
    (λ e. pick_case (Ranged text store) (eqb kind 6) (pick (leb (place + size) store) (Some (InStore place size)) None) None
    (λ f. pick_case (Ranged text store) (leb (place + size) store) (Some (InStore place size)) None (λ g. leb-true _ _ g) (λ g. tt))
    (λ f. tt))

at_ranged : (table : List ℕ) (text store i : ℕ) → Ranged text store (shown_at table text store i)
unfolding shown_at
at_ranged table text store i =
    pick_case (Ranged text store) (leb (length table / 4) i) None _ (λ e. tt) (λ e. by_ranged _ _ _ text store)

-- a node inside the table
pub node_shown : (table : List ℕ) (text store i place size : ℕ) (v : Option Shown) → i < length table / 4 → place ≡ get_or table (4 * i + 2) 0
    → size ≡ get_or table (4 * i + 3) 0 → v ≡ shown_by (get_or table (4 * i) 0) place size text store → v ≡ shown_at table text store i
unfolding shown_at pick
node_shown table text store i place size v h p q e = rw (lt-leb (length table / 4) i h, sym p, sym q) e

module _ (table : List ℕ) (text store : List ℕ) (i : ℕ) (v : Option Shown) (e : v ≡ shown_at table (length text) (length store) i) where
  pub text_inside : (place size : ℕ) → v ≡ Some (InText place size) → place + size ≤ length text
  text_inside place size h = rw (sym e ∙ h) at (at_ranged table (length text) (length store) i)

  pub store_inside : (place size : ℕ) → v ≡ Some (InStore place size) → place + size ≤ length store
  store_inside place size h = rw (sym e ∙ h) at (at_ranged table (length text) (length store) i)

  pub some_told : (w : Shown) → v ≡ Some w → 0 ≡ unshown (shown_at table (length text) (length store) i)
  some_told w h = rw (sym e ∙ h)

  pub none_told : v ≡ None → 1 ≡ unshown (shown_at table (length text) (length store) i)
  none_told h = rw (sym e ∙ h)

  -- `place..place + size` is so many bytes from the place on
  size_is : (place size : ℕ) → place + size - place ≡ size
  size_is place size = omega arith

  pub text_shown : (place size : ℕ) → v ≡ Some (InText place size)
      → take (place + size - place) (drop place text) ≡ shown_bytes text store (shown_at table (length text) (length store) i)
  text_shown place size h = rw (sym e ∙ h) (ap (λ (k : ℕ). take k (drop place text)) (size_is place size))

  pub store_shown : (place size : ℕ) → v ≡ Some (InStore place size)
      → take (place + size - place) (drop place store) ≡ shown_bytes text store (shown_at table (length text) (length store) i)
  store_shown place size h = rw (sym e ∙ h) (ap (λ (k : ℕ). take k (drop place store)) (size_is place size))

  pub none_shown : v ≡ None → take 0 text ≡ shown_bytes text store (shown_at table (length text) (length store) i)
  none_shown h = rw (sym e ∙ h)
