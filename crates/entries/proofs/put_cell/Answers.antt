-- One part behind another (Puts).
use Rattle.rooms.proofs.Puts.{put_then}
use Rattle.entries.specs.Entries.{cell_text}
use Rattle.entries.proofs.put_cell.Goals as goal

pub returns : goal.returns
unfolding cell_text
returns c =
    put_then c.put_decimal-a.ensures (put_then c.put_byte-b.ensures (put_then c.put_string-c.ensures (put_then c.put_byte-d.ensures (put_then c.put_value-e.ensures c.put_byte.ensures))))
