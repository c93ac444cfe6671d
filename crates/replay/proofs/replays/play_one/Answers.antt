-- A finish, a piece that is there whole, or what is left of the text.
use Rattle.replay.proofs.Playing.{one_finish, one_feed, one_rest}
use Rattle.replay.proofs.replays.play_one.Goals as goal

pub returns-then-c-eq0 : goal.returns-then-c-eq0
returns-then-c-eq0 c = one_finish _ _ _ _ _ c.requires c.if-c-eq0.true c.finish-f.ensures

pub returns-then-c-text : goal.returns-then-c-text
returns-then-c-text c = one_feed _ _ _ _ _ c.requires c.if-c-eq0.false c.if-c-text.true c.feed-f.ensures

pub returns : goal.returns
returns c = one_rest _ _ _ _ _ c.requires c.if-c-eq0.false c.if-c-text.false c.feed-f-2.ensures
