-- Form by form, the bytes copied are the mark.
use Rattle.strings_write.proofs.Writing.{stored_mark}
use Rattle.strings_write.proofs.write.put_mark.Goals as goal

pub returns-in-AsJson : goal.returns-in-AsJson
returns-in-AsJson c = stored_mark c.args.form _ c.args.out.now _ c.in-AsJson.is c.put.ensures

pub returns-in-AsBytes : goal.returns-in-AsBytes
returns-in-AsBytes c = stored_mark c.args.form _ c.args.out.now _ c.in-AsBytes.is c.copy_run.ensures
