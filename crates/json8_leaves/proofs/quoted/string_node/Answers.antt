-- The token's answer is the string's (Single).
use native.Mathlib.Omega.{arith}
use mathlib.Core.Path.{ap, ◌∙◌}
use Rattle.std.specs.Prelude.{Ok}
use Rattle.string_tokens.proofs.Judging.{judged_plain, judged_slashed, judged_faulty}
use Rattle.json8_leaves.proofs.Single.{judged_rest, plain_inside, plain_note, slashed_inside, slashed_note, string_stop, failed_in, string_full}
use Rattle.json8_leaves.proofs.quoted.string_node.Goals as goal

pub returns-then-n-ge-NODE_MAX : goal.returns-then-n-ge-NODE_MAX
returns-then-n-ge-NODE_MAX c = rw c.at.ensures (string_full _ _ _ _ c.if-n-ge-NODE_MAX.true)

pub overflow_add-at : goal.overflow_add-at
overflow_add-at c =
    let i = plain_inside c.args.text.now c.args.at _ _ (judged_plain (judged_rest c.args.text.now c.args.at _ c.quoted.ensures) (c.in-Ok-Plain.is ∙ ap Ok c.in-Ok-Plain.field-0-is)) in record { fits = omega (arith, i.0, i.1, c.requires.short) }

pub overflow_sub-e : goal.overflow_sub-e
overflow_sub-e c =
    let i = plain_inside c.args.text.now c.args.at _ _ (judged_plain (judged_rest c.args.text.now c.args.at _ c.quoted.ensures) (c.in-Ok-Plain.is ∙ ap Ok c.in-Ok-Plain.field-0-is)) in omega (arith, i.1)

pub note-requires : goal.note-requires
note-requires c =
    let i = plain_inside c.args.text.now c.args.at _ _ (judged_plain (judged_rest c.args.text.now c.args.at _ c.quoted.ensures) (c.in-Ok-Plain.is ∙ ap Ok c.in-Ok-Plain.field-0-is)) in (c.if-n-ge-NODE_MAX.false, omega arith, omega arith, omega (arith, i.0, i.1, c.requires.short), omega (arith, i.0, i.1, c.requires.short))

pub overflow_add-result : goal.overflow_add-result
overflow_add-result c =
    let i = plain_inside c.args.text.now c.args.at _ _ (judged_plain (judged_rest c.args.text.now c.args.at _ c.quoted.ensures) (c.in-Ok-Plain.is ∙ ap Ok c.in-Ok-Plain.field-0-is)) in record { fits = omega (arith, i.0, i.1, c.requires.short) }

pub note-requires-in-Ok-Slashed : goal.note-requires-in-Ok-Slashed
note-requires-in-Ok-Slashed c =
    let i = slashed_inside c.args.text.now c.args.at _ _ (judged_slashed (judged_rest c.args.text.now c.args.at _ c.quoted.ensures) (c.in-Ok-Slashed.is ∙ ap Ok c.in-Ok-Slashed.field-0-is)) c.requires.inside in (c.if-n-ge-NODE_MAX.false, omega arith, omega arith, omega (arith, c.requires.inside, c.requires.short), omega (arith, i.0, i.1, c.requires.short))

pub overflow_add-result-in-Ok-Slashed : goal.overflow_add-result-in-Ok-Slashed
overflow_add-result-in-Ok-Slashed c =
    let i = slashed_inside c.args.text.now c.args.at _ _ (judged_slashed (judged_rest c.args.text.now c.args.at _ c.quoted.ensures) (c.in-Ok-Slashed.is ∙ ap Ok c.in-Ok-Slashed.field-0-is)) c.requires.inside in record { fits = omega (arith, i.0, c.requires.short) }

pub overflow_add-at-in-Err : goal.overflow_add-at-in-Err
overflow_add-at-in-Err c =
    let i = failed_in c.args.text.now c.args.at _ c.requires.inside (judged_faulty (judged_rest c.args.text.now c.args.at _ c.quoted.ensures) c.in-Err.is) in record { fits = omega (arith, i, c.requires.short) }

pub returns-in-Ok-Plain : goal.returns-in-Ok-Plain
returns-in-Ok-Plain c =
    plain_note _ _ _ _ (judged_plain (judged_rest c.args.text.now c.args.at _ c.quoted.ensures) (c.in-Ok-Plain.is ∙ ap Ok c.in-Ok-Plain.field-0-is)) _ _ _ c.requires.short c.if-n-ge-NODE_MAX.false c.note.ensures

pub returns-in-Ok-Slashed : goal.returns-in-Ok-Slashed
returns-in-Ok-Slashed c =
    slashed_note _ _ _ _ (judged_slashed (judged_rest c.args.text.now c.args.at _ c.quoted.ensures) (c.in-Ok-Slashed.is ∙ ap Ok c.in-Ok-Slashed.field-0-is)) _ _ _ c.requires.short c.requires.inside c.if-n-ge-NODE_MAX.false c.note-in-Ok-Slashed.ensures

pub returns-in-Err : goal.returns-in-Err
returns-in-Err c = rw c.at-in-Err.ensures (string_stop _ _ _ _ _ _ c.if-n-ge-NODE_MAX.false (judged_faulty (judged_rest c.args.text.now c.args.at _ c.quoted.ensures) c.in-Err.is))
