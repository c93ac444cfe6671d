-- By whether JSON is asked for (Lines).
use Rattle.messages_write.proofs.Lines.{said_object, said_plain}
use Rattle.messages_write.proofs.put_said.Goals as goal

pub returns-then-json : goal.returns-then-json
returns-then-json c = said_object c.args.head c.args.sentence.now c.if-json.true c.put_object.ensures

pub returns : goal.returns
returns c = said_plain c.args.head c.args.sentence.now c.if-json.false c.put_message.ensures
