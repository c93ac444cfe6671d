-- The node table, and readers of parts of a text, one after another.
-- Assumes nothing.
use Rattle.std.specs.Prelude.{ℕ, ◌+◌, List, [], ◌∷◌, ◌++◌, ltb, length, drop}
use Rattle.prelude.specs.Limits.{node_max}
use Rattle.prelude.specs.Pick.{pick}
use Rattle.prelude.specs.declared.refusals.Refusal.{Refusal}
use Rattle.prelude.specs.Refusals.{too_many}

-- "four 32-bit numbers a node": "kind, nodes in its subtree with itself, place, length"
pub record Node : Type 0 where
  pub kind : ℕ
  pub count : ℕ
  pub place : ℕ
  pub size : ℕ

abbrev pub node : ℕ → ℕ → ℕ → ℕ → Node
node k c p n = record { kind = k; count = c; place = p; size = n }

-- the table's numbers, "parents first, then children in order"
unfoldable pub flat : List Node → List ℕ
flat [] = []
flat (v ∷ r) = v.kind ∷ v.count ∷ v.place ∷ v.size ∷ flat r

-- so many bytes read, a tag for whoever asked, the nodes, and the bytes appended to the store; or a refusal and its place
pub data Read : Type 0 where
  got : ℕ → ℕ → List Node → List ℕ → Read
  refused : Refusal → ℕ → Read

-- given a place, the nodes and the store's bytes before it, and the text from there on
abbrev pub Reader : Type 0
Reader = ℕ → ℕ → ℕ → List ℕ → Read

-- one behind another; the tag is the last one's
abbrev pub preceded : ℕ → List Node → List ℕ → Read → Read
preceded l ns bs (got k tag ms cs) = got (l + k) tag (ns ++ ms) (bs ++ cs)
preceded l ns bs (refused refusal at) = refused refusal at

abbrev pub chain : Read → Reader → Reader
chain (got l tag ns bs) b p n m s = preceded l ns bs (b (p + l) (n + length ns) (m + length bs) (drop l s))
chain (refused refusal at) b p n m s = refused refusal at

unfoldable pub seq : Reader → Reader → Reader
seq a b p n m s = chain (a p n m s) b p n m s

-- "a 1,025th node", at its "token start"
unfoldable pub limited : Reader → Reader
limited a p n m s = pick (ltb n node_max) (a p n m s) (refused too_many p)
