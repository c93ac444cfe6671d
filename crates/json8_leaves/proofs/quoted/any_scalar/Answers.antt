-- A scalar is what begins there (Choices).
use Rattle.json8_leaves.specs.inner.Told.{none}
use Rattle.json8_leaves.proofs.Choices.{value_ended, value_string, value_word, value_number, scalar_list, scalar_dict, value_nothing}
use Rattle.json8_leaves.proofs.quoted.any_scalar.Goals as goal

pub returns-in-Ended : goal.returns-in-Ended
returns-in-Ended c = rw c.at.ensures (value_ended none none _ _ _ _ c.start_at-start.ensures _ c.in-Ended.is)

pub returns-in-String : goal.returns-in-String
returns-in-String c = value_string none none _ _ _ _ c.start_at-start.ensures _ _ _ c.in-String.is c.string_leaf.ensures

pub returns-in-Word : goal.returns-in-Word
returns-in-Word c = value_word none none _ _ _ _ c.start_at-start.ensures _ _ _ c.in-Word.is c.word_node.ensures

pub returns-in-Number : goal.returns-in-Number
returns-in-Number c = value_number none none _ _ _ _ c.start_at-start.ensures _ _ _ c.in-Number.is c.number_node.ensures

pub returns-in-List : goal.returns-in-List
returns-in-List c = rw c.at-in-List.ensures (scalar_list _ _ _ _ c.start_at-start.ensures _ c.in-List.is)

pub returns-in-Dict : goal.returns-in-Dict
returns-in-Dict c = rw c.at-in-Dict.ensures (scalar_dict _ _ _ _ c.start_at-start.ensures _ c.in-Dict.is)

pub returns-in-Nothing : goal.returns-in-Nothing
returns-in-Nothing c = rw c.at-in-Nothing.ensures (value_nothing none none _ _ _ _ c.start_at-start.ensures _ c.in-Nothing.is)
