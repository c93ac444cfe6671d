-- The first byte of eight that is no digit is a tab or LF (Solid).
use Prim.Native.Nat.{◌+◌}
use lib.ListN.{get_or}
use Rattle.eights.specs.inner.Words.{is_other}
use native.Mathlib.Omega.{arith}
use Rattle.tsv8_cells.proofs.Solid.{zero_cell, digits_cell}
use Rattle.tsv8_cells.proofs.simple.int_end.Goals as goal

pub overflow_add-q : goal.overflow_add-q
overflow_add-q c =
    let g = c.place-k.ensures (λ j. is_other (get_or c.args.text.now (c.args.q + j) 0)) (c.others.ensures (λ j. get_or c.args.text.now (c.args.q + j) 0) c.eight.ensures.1 c.eight.ensures.0) in omega (arith, g.inside, c.requires, c.if-text-q-lt8.false)

pub overflow_add-result : goal.overflow_add-result
overflow_add-result c =
    let g = c.place-k.ensures (λ j. is_other (get_or c.args.text.now (c.args.q + j) 0)) (c.others.ensures (λ j. get_or c.args.text.now (c.args.q + j) 0) c.eight.ensures.1 c.eight.ensures.0) in omega (arith, g.inside, c.requires, c.if-text-q-lt8.false)

pub returns-then-text-q-ne48 : goal.returns-then-text-q-ne48
returns-then-text-q-ne48 c =
    digits_cell c.args.text.now c.args.q _ (c.place-k.ensures (λ j. is_other (get_or c.args.text.now (c.args.q + j) 0)) (c.others.ensures (λ j. get_or c.args.text.now (c.args.q + j) 0) c.eight.ensures.1 c.eight.ensures.0)) c.if-k-eq0.false (c.is_over.ensures (c.if-not-is_over.false)) c.if-text-q-ne48.true

pub returns-then-k-eq1 : goal.returns-then-k-eq1
returns-then-k-eq1 c =
    zero_cell c.args.text.now c.args.q _ (c.place-k.ensures (λ j. is_other (get_or c.args.text.now (c.args.q + j) 0)) (c.others.ensures (λ j. get_or c.args.text.now (c.args.q + j) 0) c.eight.ensures.1 c.eight.ensures.0)) c.if-k-eq0.false (c.is_over.ensures (c.if-not-is_over.false)) c.if-text-q-ne48.false c.if-k-eq1.true
