-- Three numbers one behind another (Filling).
use Prim.Native.Nat.{◌+◌, ◌*◌, ◌<◌}
use native.Mathlib.Omega.{arith}
use lib.ListN.{length, set}
use lib.Seq.{lt-length-set}
use Rattle.tsv8.proofs.Filling.{three_put}
use Rattle.tsv8.proofs.stores.put_three.Goals as goal

pub bounds-table-i-2 : goal.bounds-table-i-2
bounds-table-i-2 c = let h : 3 * c.args.i + 1 < length c.args.table.now = omega arith in lt-length-set c.args.table.now (3 * c.args.i) c.args.kind h

pub bounds-table-i-3 : goal.bounds-table-i-3
bounds-table-i-3 c =
    let h : 3 * c.args.i + 2 < length c.args.table.now = omega arith in lt-length-set (set c.args.table.now (3 * c.args.i) c.args.kind) (3 * c.args.i + 1) c.narrow.result (lt-length-set c.args.table.now (3 * c.args.i) c.args.kind h)

pub returns : goal.returns
returns c = three_put c.args.table.now (3 * c.args.i) c.args.kind _ _ _ _ c.narrow.ensures c.narrow-2.ensures
