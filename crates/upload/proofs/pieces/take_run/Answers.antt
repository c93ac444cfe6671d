-- The copy stores the run, and the counts follow.
use Rattle.upload.proofs.Runs.{run_stored}
use Rattle.upload.proofs.pieces.take_run.Goals as goal

pub returns : goal.returns
returns c = λ out. run_stored _ c.args.piece.now _ _ out _ _ c.requires.0 c.copy_long.ensures
