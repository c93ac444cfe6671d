-- What is answered is the answer handed in.
use mathlib.Core.Path.{sym}
use Rattle.json8_leaves.proofs.quoted.string_leaf.Goals as goal

pub returns-in-Ok : goal.returns-in-Ok
returns-in-Ok c = λ m. rw (sym c.in-Ok.is) (c.string_node.ensures m)

pub returns-in-Err : goal.returns-in-Err
returns-in-Err c = λ m. rw (c.at.ensures, sym c.in-Err.is) (c.string_node.ensures m)
