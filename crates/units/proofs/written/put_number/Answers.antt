-- Form by form, the bytes copied are the definition's (EscapeStores).
use mathlib.Core.Path.{ap, ◌∙◌}
use lib.Seq.{sets}
use Rattle.units.proofs.EscapeStores.{json_number, bytes_number}
use Rattle.units.proofs.written.put_number.Goals as goal

pub returns-in-AsJson : goal.returns-in-AsJson
returns-in-AsJson c =
    c.copy_run.ensures ∙ ap (sets c.args.out.now c.args.o) (json_number c.args.form c.args.x _ _ c.hex_digit-h.ensures c.hex_digit-l.ensures c.in-AsJson.is)

pub returns-in-AsBytes : goal.returns-in-AsBytes
returns-in-AsBytes c =
    c.copy_run-in-AsBytes.ensures ∙ ap (sets c.args.out.now c.args.o) (bytes_number c.args.form c.args.x _ _ c.hex_digit-h.ensures c.hex_digit-l.ensures c.in-AsBytes.is)
