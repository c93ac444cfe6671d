-- A key is what begins there (Choices).
use native.Mathlib.Omega.{arith}
use Rattle.std.specs.Prelude.{None}
use Rattle.json8_leaves.proofs.Single.{word_in}
use Rattle.json8_leaves.proofs.Choices.{key_ended, key_string, key_word, key_number, key_list, key_dict, key_nothing}
use Rattle.json8_leaves.proofs.quoted.any_key.Goals as goal

pub plain_node-requires : goal.plain_node-requires
plain_node-requires c =
    let i = word_in c.args.text.now c.args.at _ None c.word_len.ensures c.requires.inside in (omega arith, omega (arith, i, c.requires.short), omega (arith, c.requires.inside, c.requires.short), c.requires.few)

pub returns-in-Ended : goal.returns-in-Ended
returns-in-Ended c = rw c.at.ensures (key_ended _ _ _ _ c.start_at-start.ensures _ c.in-Ended.is)

pub returns-in-String : goal.returns-in-String
returns-in-String c = key_string _ _ _ _ c.start_at-start.ensures _ _ _ c.in-String.is c.string_leaf.ensures

pub returns-in-Word : goal.returns-in-Word
returns-in-Word c =
    key_word _ _ _ _ c.start_at-start.ensures _ _ _ _ c.in-Word.is c.word_len.ensures (word_in c.args.text.now c.args.at _ None c.word_len.ensures c.requires.inside) c.plain_node.ensures

pub returns-in-Number : goal.returns-in-Number
returns-in-Number c = rw c.at-in-Number.ensures (key_number _ _ _ _ c.start_at-start.ensures _ c.in-Number.is)

pub returns-in-List : goal.returns-in-List
returns-in-List c = rw c.at-in-List.ensures (key_list _ _ _ _ c.start_at-start.ensures _ c.in-List.is)

pub returns-in-Dict : goal.returns-in-Dict
returns-in-Dict c = rw c.at-in-Dict.ensures (key_dict _ _ _ _ c.start_at-start.ensures _ c.in-Dict.is)

pub returns-in-Nothing : goal.returns-in-Nothing
returns-in-Nothing c = rw c.at-in-Nothing.ensures (key_nothing _ _ _ _ c.start_at-start.ensures _ c.in-Nothing.is)
