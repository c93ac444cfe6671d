-- What stops the call, or else the end (Values).
use Rattle.upload.specs.Calls.{finish}
use Rattle.upload.proofs.Values.{call_stopped, finish_done, not_stopped}
use Rattle.upload.proofs.uploads.Upload.finish.Goals as goal

pub returns-in-Some : goal.returns-in-Some
unfolding finish
returns-in-Some c = call_stopped _ _ c.stop-stopped.ensures _ _ c.in-Some.is

pub take_end-s-requires : goal.take_end-s-requires
take_end-s-requires c = not_stopped _ _ c.stop-stopped.ensures c.in-None.is

pub returns-in-None : goal.returns-in-None
returns-in-None c = finish_done _ _ c.stop-stopped.ensures c.in-None.is _ c.take_end-s.ensures _ c.answer_of.ensures
