-- A fit number lies inside the text and is put as it stands (LeafTexts).
use Rattle.json8_write.proofs.LeafTexts.{number_inside, number_put}
use Rattle.json8_write.proofs.values.number_text.Goals as goal

pub put_run-requires : goal.put_run-requires
put_run-requires c = (number_inside c.args.table.now c.args.text.now c.args.i _ _ c.number_in-place.ensures.0 c.number_in-size.ensures.0 c.requires.1, c.requires.2)

pub returns : goal.returns
returns c = number_put c.args.table.now c.args.text.now c.args.i _ _ c.number_in-place.ensures.0 c.number_in-size.ensures.0 c.requires.1 c.put_run.ensures
