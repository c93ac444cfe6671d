-- What few bytes tell, or what begins there (Choices).
use native.Mathlib.Omega.{arith}
use Rattle.json8_leaves.proofs.Choices.{leaf_in}
use Rattle.json8_leaves.proofs.quoted.scalar_node.Goals as goal

pub short_node-requires : goal.short_node-requires
short_node-requires c =
    let i = leaf_in c.args.text.now c.args.at _ _ c.requires.0.inside c.requires.1 c.in-Some.ensures.1 c.in-Some.ensures.0 in (i.1, omega (arith, i.0, c.requires.0.short), c.requires.0.few)

pub returns-in-Some : goal.returns-in-Some
returns-in-Some c =
    λ m. c.short_node.ensures c.args.text.now m c.requires.0.short (leaf_in c.args.text.now c.args.at _ _ c.requires.0.inside c.requires.1 c.in-Some.ensures.1 c.in-Some.ensures.0).0 c.requires.1 c.in-Some.ensures.1
