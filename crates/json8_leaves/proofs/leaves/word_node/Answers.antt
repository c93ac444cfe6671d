-- The word's answer decides (Single).
use native.Mathlib.Omega.{arith}
use Rattle.json8_leaves.proofs.Single.{word_in, word_small, word_told, word_other}
use Rattle.std.specs.Prelude.{None}
use Rattle.json8_leaves.proofs.leaves.word_node.Goals as goal

pub overflow_add-at : goal.overflow_add-at
overflow_add-at c = let i = word_in c.args.text.now c.args.at _ None c.word_len-len.ensures c.requires.inside in record { fits = omega (arith, i, c.requires.short) }

pub slice_bounds-value_of-end : goal.slice_bounds-value_of-end
slice_bounds-value_of-end c = word_in c.args.text.now c.args.at _ None c.word_len-len.ensures c.requires.inside

pub plain_node-requires : goal.plain_node-requires
plain_node-requires c =
    let i = word_in c.args.text.now c.args.at _ None c.word_len-len.ensures c.requires.inside in
    let k = word_small c.args.text.now c.args.at _ _ c.word_len-len.ensures c.value_of.ensures _ c.in-Some.is in
    (omega (arith, k, c.wide.ensures), omega (arith, i, c.requires.short), omega (arith, c.requires.inside, c.requires.short), c.requires.few)

pub returns-in-Some : goal.returns-in-Some
returns-in-Some c = word_told _ _ _ _ c.word_len-len.ensures c.value_of.ensures _ _ _ _ _ _ c.in-Some.is c.wide.ensures c.requires.inside c.plain_node.ensures

pub returns-in-None : goal.returns-in-None
returns-in-None c = rw c.at.ensures (word_other _ _ _ _ c.word_len-len.ensures c.value_of.ensures _ _ c.in-None.is)
