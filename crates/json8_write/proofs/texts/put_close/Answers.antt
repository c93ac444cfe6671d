-- One byte, by the sort (Puts).
use mathlib.Core.List.{[], ◌∷◌}
use mathlib.Core.Path.{ap}
use Rattle.json8.specs.declared.nodes.Sort.{Sort}
use Rattle.rooms.proofs.Puts.{put_as}
use Rattle.json8.specs.Values.{close_of}
use Rattle.json8_write.proofs.texts.put_close.Goals as goal

pub returns-in-Items : goal.returns-in-Items
returns-in-Items c = put_as (ap (λ (s : Sort). close_of s ∷ []) c.in-Items.is) c.put_byte.ensures

pub returns-in-Pairs : goal.returns-in-Pairs
returns-in-Pairs c = put_as (ap (λ (s : Sort). close_of s ∷ []) c.in-Pairs.is) c.put_byte-in-Pairs.ensures
