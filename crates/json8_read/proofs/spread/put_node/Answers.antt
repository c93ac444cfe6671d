-- Four stores are one run of four.
use Prim.Native.Nat.{◌*◌}
use native.Mathlib.Numerals.{add-one, add-two, add-three}
use Rattle.json8_read.proofs.spread.put_node.Goals as goal

pub returns : goal.returns
returns c = let i = 4 * c.args.i in cc (add-one i, add-two i, add-three i)
