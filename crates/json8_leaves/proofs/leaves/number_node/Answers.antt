-- The number's answer decides (Single).
use native.Mathlib.Omega.{arith}
use Rattle.json8_leaves.proofs.Single.{number_in, number_told, number_malformed}
use Rattle.json8_leaves.proofs.leaves.number_node.Goals as goal

pub plain_node-requires : goal.plain_node-requires
plain_node-requires c =
    let i = number_in c.args.text.now c.args.at _ c.number_at.ensures _ c.in-Some.is c.requires.inside in
    (omega (arith, i.1, c.wide.ensures), omega (arith, i.0, c.requires.short), omega (arith, c.requires.inside, c.requires.short), c.requires.few)

pub returns-in-Some : goal.returns-in-Some
returns-in-Some c = number_told _ _ _ c.number_at.ensures _ _ _ _ _ _ c.in-Some.is c.wide.ensures c.requires.inside c.plain_node.ensures

pub returns-in-None : goal.returns-in-None
returns-in-None c = rw c.at.ensures (number_malformed _ _ _ c.number_at.ensures _ _ c.in-None.is)
