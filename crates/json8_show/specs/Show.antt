-- Showing a string, for any table, text and store.
-- Assumes nothing.
use Rattle.std.specs.Prelude.{ℕ, ◌+◌, ◌*◌, ◌/◌, Option, Some, None, List, [], leb, eqb, length, get_or, take, drop}
use Rattle.prelude.specs.Pick.{pick}
use Rattle.json8_show.specs.declared.show.Shown.{Shown}
use Rattle.json8_show.specs.declared.show.Shown.TheVariants.{InText, InStore}

-- a string of kind 5 or 6, in buffers of so many bytes: "a part of the text or of the store, as its kind says", unless it has "a range
-- outside its buffer"
unfoldable pub shown_by : ℕ → ℕ → ℕ → ℕ → ℕ → Option Shown
shown_by kind place size text store =
    pick (eqb kind 5) (pick (leb (place + size) text) (Some (InText place size)) None)
    (pick (eqb kind 6) (pick (leb (place + size) store) (Some (InStore place size)) None) None)

-- "a node outside the table", which has "four 32-bit numbers a node": kind, count, place, length
unfoldable pub shown_at : List ℕ → ℕ → ℕ → ℕ → Option Shown
shown_at table text store i =
    pick (leb (length table / 4) i) None
    (shown_by (get_or table (4 * i) 0) (get_or table (4 * i + 2) 0) (get_or table (4 * i + 3) 0) text store)

-- the bytes; what isn't shown "shows the text's empty beginning"
abbrev pub shown_bytes : List ℕ → List ℕ → Option Shown → List ℕ
shown_bytes text store (Some (InText place size)) = take size (drop place text)
shown_bytes text store (Some (InStore place size)) = take size (drop place store)
shown_bytes text store None = []

-- "a separate question answers 1 for it"
abbrev pub unshown : Option Shown → ℕ
unshown (Some v) = 0
unshown None = 1
