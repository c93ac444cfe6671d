-- The lines of the text are the rows of the table, by one computed test (SentenceLines).
use mathlib.Core.Path.{refl}
use Rattle.prelude.specs.Pick.{pick}
use Rattle.sentences.specs.Sentences.{sentence_in}
use Rattle.rooms.proofs.Puts.{put_as}
use Rattle.sentences.proofs.SentenceLines.{sentence_line}
use Rattle.sentences.proofs.put_sentence.Goals as goal

pub returns : goal.returns
unfolding sentence_in pick
returns c = put_as (sentence_line 28 _ refl c.args.number) c.put_line.ensures
