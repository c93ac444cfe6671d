-- By whether a terminal shows it (Printing).
use Rattle.command_outputs.proofs.Printing.{as_it_is, as_shown, not_shown}
use Rattle.command_outputs.proofs.outputs.print.Goals as goal

pub returns-then-not-terminal : goal.returns-then-not-terminal
returns-then-not-terminal c = let r = as_it_is c.args.terminal c.args.bytes.now c.args.shown.now _ (c.if-not-terminal.true) in record { value = r.0; stored = r.1 }

pub returns-in-Ok : goal.returns-in-Ok
returns-in-Ok c =
    let r = as_shown c.args.terminal c.args.bytes.now c.args.shown.now (c.if-not-terminal.false) _ c.write.ensures.answer _ c.write.ensures.stored _ _ c.in-Ok.is in record { value = r.0; stored = r.1 }

pub returns-in-Err : goal.returns-in-Err
returns-in-Err c =
    let r = not_shown c.args.terminal c.args.bytes.now c.args.shown.now (c.if-not-terminal.false) _ c.write.ensures.answer _ c.write.ensures.stored in record { value = r.0; stored = r.1 }
