-- All of it is the run (Puts).
use mathlib.Core.Path.{sym}
use lib.Seq.{take-length}
use Rattle.rooms.proofs.Puts.{put_as}
use Rattle.rooms.proofs.parts.put_all.Goals as goal

pub returns : goal.returns
returns c = put_as (sym (take-length c.args.s.now)) c.put_run.ensures
