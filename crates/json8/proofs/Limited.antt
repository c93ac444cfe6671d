-- The count of nodes: a reader that is limited is the reader itself while there are fewer than the most, and a refusal from there on.
-- Assumes nothing.
use Prim.Native.Nat.{ℕ, ◌≤◌, ◌<◌}
use mathlib.Core.List.{List}
use mathlib.Core.Path.{◌≡◌}
use borrow.Author.Tests.{le-ltb, lt-ltb}
use Rattle.prelude.specs.Limits.{node_max}
use Rattle.prelude.specs.Pick.{pick}
use Rattle.prelude.specs.Refusals.{too_many}
use Rattle.json8.specs.Nodes.{refused, Reader, limited}

-- room for a node more
pub limited_full : (a : Reader) (p n m : ℕ) (s : List ℕ) → node_max ≤ n → limited a p n m s ≡ refused too_many p
unfolding limited pick
limited_full a p n m s h = rw (le-ltb n node_max h)

pub limited_free : (a : Reader) (p n m : ℕ) (s : List ℕ) → n < node_max → limited a p n m s ≡ a p n m s
unfolding limited pick
limited_free a p n m s h = rw (lt-ltb n node_max h)
