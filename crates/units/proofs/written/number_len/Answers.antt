-- Form by form.
use Rattle.units.proofs.EscapeStores.{json_length, bytes_length}
use Rattle.units.proofs.written.number_len.Goals as goal

pub returns-in-AsJson : goal.returns-in-AsJson
returns-in-AsJson c = json_length c.args.form c.args.x c.in-AsJson.is

pub returns-in-AsBytes : goal.returns-in-AsBytes
returns-in-AsBytes c = bytes_length c.args.form c.args.x c.in-AsBytes.is
