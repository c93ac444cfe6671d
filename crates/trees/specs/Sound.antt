-- The trees that have a text: bytes, legal numbers, and no deeper or larger than a table may be.
-- Assumes nothing.
use Rattle.std.specs.Prelude.{ℕ, zero, suc, ◌≤◌, ◌≡◌}
use Rattle.prelude.specs.Bytes.{IsBytes}
use Rattle.tokens.specs.Numbers.{number_kind}
use Rattle.json8.specs.declared.nodes.Sort.{Sort}
use Rattle.json8.specs.declared.nodes.Sort.TheVariants.{Items, Pairs}
use Rattle.prelude.specs.Limits.{node_max, depth_max}
use Rattle.trees.specs.Trees.{Label, Tree, null, bool, number, string, branch, Members, none, one}
use Rattle.trees.specs.Sizes.{size_of}

abbrev pub SoundLabel : (b : Sort) → Label b → Type 0
SoundLabel Items k = Unit
SoundLabel Pairs k = IsBytes k

unfoldable mutual
  -- with so many brackets open at most; a number's text is legal for its kind if it is legal for one
  pub SoundTo : ℕ → Tree → Type 0
  SoundTo d null = Unit
  SoundTo d (bool b) = Unit
  SoundTo d (number w) = number_kind w ≡ 0 → ⊥
  SoundTo d (string bs) = IsBytes bs
  SoundTo zero (branch b ms) = ⊥
  SoundTo (suc d) (branch b ms) = SoundMembers d ms

  pub SoundMembers : {b : Sort} → ℕ → Members b → Type 0
  SoundMembers d none = Unit
  SoundMembers {b} d (one k t ms) = SoundLabel b k × SoundTo d t × SoundMembers d ms

pub record Sound (t : Tree) : Type 0 where
  pub legal : SoundTo depth_max t
  pub few : size_of t ≤ node_max
