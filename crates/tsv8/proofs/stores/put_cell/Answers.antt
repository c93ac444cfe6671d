-- What is told of the cell is what is stored (Filling).
use native.Mathlib.Omega.{arith}
use Rattle.tsv8.proofs.Filling.{here_in, numbers_small, six_room, six_asks, six_put, other_put, none_put}
use Rattle.tsv8.proofs.stores.put_cell.Goals as goal

pub put_three-requires : goal.put_three-requires
put_three-requires c =
    let k = numbers_small _ _ _ _ c.args.i _ c.requires.1 c.read-ended.ensures.end _ c.read-ended.ensures.told _ c.in-Ok.is c.requires.0 c.requires.2 in (c.requires.3, k.0, k.1)

pub slice_bounds-put_bytes-end : goal.slice_bounds-put_bytes-end
slice_bounds-put_bytes-end c = omega (arith, (here_in c.args.text.now c.args.q _ c.args.ty c.args.i c.args.m c.requires.1 c.read-ended.ensures.end).1)

pub overflow_add-m : goal.overflow_add-m
overflow_add-m c =
    omega (arith, six_room _ _ _ _ c.args.i _ c.requires.1 c.read-ended.ensures.end _ c.read-ended.ensures.told _ c.in-Ok.is c.if-cell-eq6.true _ c.requires.4)

pub slice_bounds-put_bytes-end-then-cell-eq6 : goal.slice_bounds-put_bytes-end-then-cell-eq6
slice_bounds-put_bytes-end-then-cell-eq6 c =
    omega (arith, six_room _ _ _ _ c.args.i _ c.requires.1 c.read-ended.ensures.end _ c.read-ended.ensures.told _ c.in-Ok.is c.if-cell-eq6.true _ c.requires.4)

pub put_bytes-requires : goal.put_bytes-requires
put_bytes-requires c =
    six_asks _ _ _ _ c.args.i _ c.requires.1 c.read-ended.ensures.end _ c.read-ended.ensures.told _ c.in-Ok.is c.if-cell-eq6.true _ c.requires.4

pub overflow_add-result : goal.overflow_add-result
overflow_add-result c =
    omega (arith, (numbers_small _ _ _ _ c.args.i _ c.requires.1 c.read-ended.ensures.end _ c.read-ended.ensures.told _ c.in-Ok.is c.requires.0 c.requires.2).1, c.requires.2)

pub returns-then-cell-eq6 : goal.returns-then-cell-eq6
returns-then-cell-eq6 c =
    let r = six_put _ _ _ _ _ _ c.requires.1 c.read-ended.ensures.end _ c.read-ended.ensures.told _ c.in-Ok.is c.if-cell-eq6.true _ _ _ _ c.put_three.ensures c.put_bytes.ensures c.requires.4 in record { end = r.0; count = r.1.0; cells = r.1.1.0; bytes = r.1.1.1 }

pub returns : goal.returns
returns c =
    let r = other_put _ _ _ _ _ _ c.requires.1 c.read-ended.ensures.end _ c.read-ended.ensures.told _ c.in-Ok.is c.if-cell-eq6.false _ _ _ c.put_three.ensures in record { end = r.0; count = r.1.0; cells = r.1.1.0; bytes = r.1.1.1 }

pub returns-in_default : goal.returns-in_default
returns-in_default c =
    let r = none_put _ _ _ _ _ _ c.requires.1 c.read-ended.ensures.end _ c.read-ended.ensures.told _ c.in_default.is _ _ in record { end = r.0; count = r.1.0; cells = r.1.1.0; bytes = r.1.1.1 }
