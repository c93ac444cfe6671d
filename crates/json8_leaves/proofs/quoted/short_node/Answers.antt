-- A quote tells a string from what is its own text (Choices).
use native.Mathlib.Omega.{arith}
use Rattle.json8_leaves.proofs.Choices.{leaf_string, leaf_plain}
use Rattle.json8_leaves.proofs.quoted.short_node.Goals as goal

pub short_string-requires : goal.short_string-requires
short_string-requires c = (c.requires.0 c.if-x-eq34.true, c.requires.1, c.requires.2)

pub returns-then-x-eq34 : goal.returns-then-x-eq34
returns-then-x-eq34 c = λ text m s i e w. leaf_string _ _ _ _ _ _ _ text m i e w c.if-x-eq34.true s c.short_string.ensures

pub plain_node-requires : goal.plain_node-requires
plain_node-requires c = (omega (arith, c.short_kind.ensures.1), omega (arith, c.requires.1), omega (arith, c.requires.1), c.requires.2)

pub returns : goal.returns
returns c = λ text m s i e w. leaf_plain _ _ _ _ _ _ _ text m i e w _ c.if-x-eq34.false c.short_kind.ensures.0 c.plain_node.ensures
