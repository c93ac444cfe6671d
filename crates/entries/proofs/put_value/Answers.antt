-- By whether it is a string (Entries).
use Rattle.entries.proofs.Entries.{as_string, as_it_stands}
use Rattle.entries.proofs.put_value.Goals as goal

pub returns-then-quoted : goal.returns-then-quoted
returns-then-quoted c = as_string c.args.s.now c.if-quoted.true c.put_string.ensures

pub returns : goal.returns
returns c = as_it_stands c.args.s.now c.if-quoted.false c.put_all.ensures
