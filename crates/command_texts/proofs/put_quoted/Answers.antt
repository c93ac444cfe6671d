-- The string's bytes are the first of its buffer (Puts).
use Rattle.command_texts.proofs.Puts.{string_counts, string_put, string_left}
use Rattle.command_texts.proofs.put_quoted.Goals as goal

pub put_shown-requires : goal.put_shown-requires
put_shown-requires c = string_counts c.args.s.now c.args.line.now _ c.write.ensures.answer _ c.in-Ok.is _ c.write.ensures.stored

pub returns-in-Ok : goal.returns-in-Ok
returns-in-Ok c =
    record { put_whole = string_put c.args.s.now c.args.line.now _ c.write.ensures.answer _ c.in-Ok.is _ c.write.ensures.stored c.put_shown.ensures; made = c.write.ensures.stored }

pub returns-in-Err : goal.returns-in-Err
returns-in-Err c =
    record { put_whole = string_left c.args.s.now c.args.line.now _ c.write.ensures.answer _ _ c.args.out.now c.in-Err.is; made = c.write.ensures.stored }
