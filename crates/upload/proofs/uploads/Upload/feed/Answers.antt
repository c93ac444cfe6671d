-- What stops the call, or else the piece (Values).
use Rattle.upload.specs.Calls.{feed}
use Rattle.upload.proofs.Values.{call_stopped, feed_done, not_stopped}
use Rattle.upload.proofs.uploads.Upload.feed.Goals as goal

pub returns-in-Some : goal.returns-in-Some
unfolding feed
returns-in-Some c = call_stopped _ _ c.stop-stopped.ensures _ _ c.in-Some.is

pub take_bytes-s-requires : goal.take_bytes-s-requires
take_bytes-s-requires c = not_stopped _ _ c.stop-stopped.ensures c.in-None.is

pub returns-in-None : goal.returns-in-None
returns-in-None c = feed_done _ _ c.stop-stopped.ensures _ c.in-None.is _ c.take_bytes-s.ensures _ c.answer_of.ensures
