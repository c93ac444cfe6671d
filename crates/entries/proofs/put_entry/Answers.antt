-- One part behind another (Puts).
use Rattle.rooms.proofs.Puts.{put_then}
use Rattle.entries.specs.Entries.{entry_text}
use Rattle.entries.proofs.put_entry.Goals as goal

pub returns : goal.returns
unfolding entry_text
returns c = put_then c.put_decimal-a.ensures (put_then c.put_byte-b.ensures (put_then c.put_string-e.ensures c.put_byte.ensures))
