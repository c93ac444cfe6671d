use Prim.Native.Nat.{◌<◌}
use mathlib.Core.Path.{refl, sym}
use Prim.Native.Nat.{◌-◌, ◌≤◌}
use Rattle.prelude.specs.Limits.{text_max}
use native.Mathlib.Omega.{arith}
use lib.ListN.{drop, length-drop}
use Rattle.prelude.proofs.Rest.{get_or_inside}
use Rattle.json8.specs.declared.nodes.Sort.TheVariants.{Items, Pairs}
use Rattle.json8.specs.Values.{group, value, close_or, member_of}
use Rattle.tokens.specs.declared.starts.Start.TheVariants.{List as ListStart, Dict}
use Rattle.json8.specs.Leaves.{spaces, colon, comma, key}
use Rattle.json8.specs.Nodes.{seq}
use Rattle.json8.proofs.Fair.{spaces_fair, value_fair, key_fair}
use Rattle.json8_leaves.proofs.Joined.{handed_on, took, stopped, went, halted, told_stop, spaces_blind, step_stop, step_on, seq_stop, seq_took, seq_refused, on}
use Rattle.json8_leaves.proofs.Choices.{list_start, dict_start, no_bracket, value_list, value_dict}
use Rattle.json8_values.proofs.Members.{too_deep_lem, too_many_lem, bracket_place, bracket_byte, bracket_told, bracket_inside, loop_begun, loop_cut, loop_closed, loop_last, round_closed, round_member, round_refused, member_none, goes_on, ends, no_comma, inner_fair, further, around_fair, key_refused, colon_refused, pair_refused, pair_took}
use Rattle.json8_values.proofs.values.+dict_node_list_node_value_node.Goals as goal

pub dict_node-overflow_sub-at : goal.dict_node-overflow_sub-at
dict_node-overflow_sub-at t c = omega (arith, c.requires.1)

pub dict_node-returns-then-left-eq0 : goal.dict_node-returns-then-left-eq0
dict_node-returns-then-left-eq0 t c = λ m. rw c.at.ensures (told_stop (too_deep_lem _ _ _ _ m _ c.if-left-eq0.true))

pub dict_node-returns-then-n-ge-NODE_MAX : goal.dict_node-returns-then-n-ge-NODE_MAX
dict_node-returns-then-n-ge-NODE_MAX t c = λ m. rw c.at-then-n-ge-NODE_MAX.ensures (told_stop (too_many_lem _ _ _ _ m _ c.if-left-eq0.false c.if-n-ge-NODE_MAX.true))

pub dict_node-overflow_add-i : goal.dict_node-overflow_add-i
dict_node-overflow_add-i t c = record { fits = omega (arith, c.if-n-ge-NODE_MAX.false) }

pub dict_node-loop-start-init : goal.dict_node-loop-start-init
dict_node-loop-start-init t c =
    loop_begun Pairs _ c.args.text.now c.args.from _ _ c.requires.1 (bracket_inside c.args.text.now (c.args.from - 1) 0x7b (sym c.requires.2) (omega arith)) c.if-n-ge-NODE_MAX.false

pub dict_node-next-requires : goal.dict_node-next-requires
dict_node-next-requires t c = let l = c.loop-start.invariant 0 in (l.inside, c.requires.0.short)

pub dict_node-returns-in_err-start : goal.dict_node-returns-in_err-start
dict_node-returns-in_err-start t c =
    rw (handed_on c.from_residual.result c.in_err-start.field-0.0 c.from_residual.ensures.1) (loop_cut _ Pairs c.args.text.now (c.args.from - 1) _ _ c.if-left-eq0.false c.if-n-ge-NODE_MAX.false c.requires.0 _ _ _ _ c.loop-start.invariant _ _ _ (λ m. step_stop spaces (close_or 0x7d _) spaces_blind c.args.text.now _ _ _ _ _ (halted c.next.ensures c.in_err-start.was)))

pub dict_node-overflow_sub-i : goal.dict_node-overflow_sub-i
dict_node-overflow_sub-i t c = let l = c.loop-start.invariant 0 in omega (arith, l.nodes)

pub dict_node-note-requires : goal.dict_node-note-requires
dict_node-note-requires t c =
    let l = c.loop-start.invariant 0 in (c.if-n-ge-NODE_MAX.false, omega arith, omega (arith, l.few), omega (arith, c.requires.0.inside, c.requires.0.short), omega (arith, l.counted, l.inside, c.requires.0.short))

pub dict_node-overflow_add-result : goal.dict_node-overflow_add-result
dict_node-overflow_add-result t c =
    let l = c.loop-start.invariant 0 in let g = went c.next.ensures c.in_ok-start.was in let q = step_on spaces 0 spaces_fair (record { short = c.requires.0.short; inside = l.inside; few = l.few }) g.0 in record { fits = omega (arith, q.0.inside, c.requires.0.short) }

pub dict_node-returns-then-start-eq125 : goal.dict_node-returns-then-start-eq125
dict_node-returns-then-start-eq125 t c =
    let l = c.loop-start.invariant 0 in let g = went c.next.ensures c.in_ok-start.was in
    loop_closed _ Pairs c.args.text.now (c.args.from - 1) _ _ c.if-left-eq0.false c.if-n-ge-NODE_MAX.false c.requires.0 _ _ _ _ c.loop-start.invariant _ _ _ _ l.few (let u : c.loop-start.count ≤ text_max = omega (arith, l.counted, l.inside, c.requires.0.short) in u) (λ m. round_closed 0x7d _ c.args.text.now _ _ _ _ _ g.0 g.1 c.if-start-eq125.true (omega arith)) c.note.ensures

pub dict_node-key_node-requires : goal.dict_node-key_node-requires
dict_node-key_node-requires t c =
    let l = c.loop-start.invariant 0 in let g = went c.next.ensures c.in_ok-start.was in let q = step_on spaces 0 spaces_fair (record { short = c.requires.0.short; inside = l.inside; few = l.few }) g.0 in (q.0, g.1)

pub dict_node-returns-in_err-key : goal.dict_node-returns-in_err-key
dict_node-returns-in_err-key t c =
    let l = c.loop-start.invariant 0 in let g = went c.next.ensures c.in_ok-start.was in let r = step_on spaces 0 spaces_fair (record { short = c.requires.0.short; inside = l.inside; few = l.few }) g.0 in rw (handed_on c.from_residual-in_err-key.result c.in_err-key.field-0.0 c.from_residual-in_err-key.ensures.1) (loop_cut _ Pairs c.args.text.now (c.args.from - 1) _ _ c.if-left-eq0.false c.if-n-ge-NODE_MAX.false c.requires.0 _ _ _ _ c.loop-start.invariant _ _ _ (λ m. round_refused 0x7d (member_of Pairs (value (c.args.left - 1))) c.args.text.now _ _ _ _ _ g.0 g.1 c.if-start-eq125.false (member_none Pairs (c.args.left - 1) _ _) (seq_stop (member_of Pairs (value (c.args.left - 1))) (seq spaces (comma 0x7d)) _ _ _ _ _ _ (key_refused (value (c.args.left - 1)) c.args.text.now _ _ _ _ _ (stopped (c.key_node.ensures _) c.in_err-key.was)))))

pub dict_node-around_colon-requires : goal.dict_node-around_colon-requires
dict_node-around_colon-requires t c =
    let l = c.loop-start.invariant 0 in let g = went c.next.ensures c.in_ok-start.was in let r = step_on spaces 0 spaces_fair (record { short = c.requires.0.short; inside = l.inside; few = l.few }) g.0 in let y = on key 1 key_fair r.0 (took (c.key_node.ensures 0) c.in_ok-key.was) in (y.0.inside, c.requires.0.short)

pub dict_node-returns-in_err-colon : goal.dict_node-returns-in_err-colon
dict_node-returns-in_err-colon t c =
    let l = c.loop-start.invariant 0 in let g = went c.next.ensures c.in_ok-start.was in let r = step_on spaces 0 spaces_fair (record { short = c.requires.0.short; inside = l.inside; few = l.few }) g.0 in rw (handed_on c.from_residual-in_err-colon.result c.in_err-colon.field-0.0 c.from_residual-in_err-colon.ensures.1) (loop_cut _ Pairs c.args.text.now (c.args.from - 1) _ _ c.if-left-eq0.false c.if-n-ge-NODE_MAX.false c.requires.0 _ _ _ _ c.loop-start.invariant _ _ _ (λ m. round_refused 0x7d (member_of Pairs (value (c.args.left - 1))) c.args.text.now _ _ _ _ _ g.0 g.1 c.if-start-eq125.false (member_none Pairs (c.args.left - 1) _ _) (seq_stop (member_of Pairs (value (c.args.left - 1))) (seq spaces (comma 0x7d)) _ _ _ _ _ _ (colon_refused (value (c.args.left - 1)) c.args.text.now _ _ _ (took (c.key_node.ensures _) c.in_ok-key.was) _ _ (halted c.around_colon.ensures c.in_err-colon.was)))))

pub dict_node-overflow_sub-left : goal.dict_node-overflow_sub-left
dict_node-overflow_sub-left t c = omega (arith, c.if-left-eq0.false)

pub dict_node-value_node-requires : goal.dict_node-value_node-requires
dict_node-value_node-requires t c =
    let l = c.loop-start.invariant 0 in let g = went c.next.ensures c.in_ok-start.was in let r = step_on spaces 0 spaces_fair (record { short = c.requires.0.short; inside = l.inside; few = l.few }) g.0 in let y = on key 1 key_fair r.0 (took (c.key_node.ensures 0) c.in_ok-key.was) in let a = went c.around_colon.ensures c.in_ok-colon.was in let d = step_on (seq spaces (seq colon spaces)) 1 around_fair y.0 a.0 in (omega (arith, c.decreases, c.if-left-eq0.false, r.1, y.1, d.1, l.onward, d.0.inside), (d.0, a.1))

pub dict_node-returns-in_err-member : goal.dict_node-returns-in_err-member
dict_node-returns-in_err-member t c =
    let l = c.loop-start.invariant 0 in let g = went c.next.ensures c.in_ok-start.was in let r = step_on spaces 0 spaces_fair (record { short = c.requires.0.short; inside = l.inside; few = l.few }) g.0 in let y = on key 1 key_fair r.0 (took (c.key_node.ensures 0) c.in_ok-key.was) in let a = went c.around_colon.ensures c.in_ok-colon.was in let d = step_on (seq spaces (seq colon spaces)) 1 around_fair y.0 a.0 in rw (handed_on c.from_residual-in_err-member.result c.in_err-member.field-0.0 c.from_residual-in_err-member.ensures.1) (loop_cut _ Pairs c.args.text.now (c.args.from - 1) _ _ c.if-left-eq0.false c.if-n-ge-NODE_MAX.false c.requires.0 _ _ _ _ c.loop-start.invariant _ _ _ (λ m. round_refused 0x7d (member_of Pairs (value (c.args.left - 1))) c.args.text.now _ _ _ _ _ g.0 g.1 c.if-start-eq125.false (member_none Pairs (c.args.left - 1) _ _) (seq_stop (member_of Pairs (value (c.args.left - 1))) (seq spaces (comma 0x7d)) _ _ _ _ _ _ (pair_refused (value (c.args.left - 1)) c.args.text.now _ _ _ (took (c.key_node.ensures _) c.in_ok-key.was) a.0 _ _ (λ m. stopped (c.value_node.ensures m) c.in_err-member.was)))))

pub dict_node-mark-requires : goal.dict_node-mark-requires
dict_node-mark-requires t c =
    let l = c.loop-start.invariant 0 in let g = went c.next.ensures c.in_ok-start.was in let r = step_on spaces 0 spaces_fair (record { short = c.requires.0.short; inside = l.inside; few = l.few }) g.0 in let y = on key 1 key_fair r.0 (took (c.key_node.ensures 0) c.in_ok-key.was) in let a = went c.around_colon.ensures c.in_ok-colon.was in let d = step_on (seq spaces (seq colon spaces)) 1 around_fair y.0 a.0 in let v = on (value (c.args.left - 1)) 1 (value_fair _) d.0 (took (c.value_node.ensures 0) c.in_ok-member.was) in (v.0.inside, c.requires.0.short)

pub dict_node-returns-in_err-mark : goal.dict_node-returns-in_err-mark
dict_node-returns-in_err-mark t c =
    let l = c.loop-start.invariant 0 in let g = went c.next.ensures c.in_ok-start.was in let r = step_on spaces 0 spaces_fair (record { short = c.requires.0.short; inside = l.inside; few = l.few }) g.0 in let y = on key 1 key_fair r.0 (took (c.key_node.ensures 0) c.in_ok-key.was) in let a = went c.around_colon.ensures c.in_ok-colon.was in let d = step_on (seq spaces (seq colon spaces)) 1 around_fair y.0 a.0 in rw (handed_on c.from_residual-in_err-mark.result c.in_err-mark.field-0.0 c.from_residual-in_err-mark.ensures.1) (loop_cut _ Pairs c.args.text.now (c.args.from - 1) _ _ c.if-left-eq0.false c.if-n-ge-NODE_MAX.false c.requires.0 _ _ _ _ c.loop-start.invariant _ _ _ (λ m. round_refused 0x7d (member_of Pairs (value (c.args.left - 1))) c.args.text.now _ _ _ _ _ g.0 g.1 c.if-start-eq125.false (member_none Pairs (c.args.left - 1) _ _) (seq_refused (member_of Pairs (value (c.args.left - 1))) (seq spaces (comma 0x7d)) c.args.text.now _ _ _ _ _ 0 _ _ (pair_took (value (c.args.left - 1)) c.args.text.now _ _ _ (took (c.key_node.ensures _) c.in_ok-key.was) a.0 (λ m. took (c.value_node.ensures m) c.in_ok-member.was)) _ _ (step_stop spaces (comma 0x7d) spaces_blind c.args.text.now _ _ _ _ _ (halted c.mark.ensures c.in_err-mark.was)))))

pub dict_node-overflow_sub-member : goal.dict_node-overflow_sub-member
dict_node-overflow_sub-member t c =
    let l = c.loop-start.invariant 0 in let g = went c.next.ensures c.in_ok-start.was in let r = step_on spaces 0 spaces_fair (record { short = c.requires.0.short; inside = l.inside; few = l.few }) g.0 in let y = on key 1 key_fair r.0 (took (c.key_node.ensures 0) c.in_ok-key.was) in let a = went c.around_colon.ensures c.in_ok-colon.was in let d = step_on (seq spaces (seq colon spaces)) 1 around_fair y.0 a.0 in let v = on (value (c.args.left - 1)) 1 (value_fair _) d.0 (took (c.value_node.ensures 0) c.in_ok-member.was) in let s = went c.mark.ensures c.in_ok-mark.was in let f = step_on spaces 0 spaces_fair v.0 s.0 in let x = took (c.value_node.ensures 0) c.in_ok-member.was in let w = took (c.key_node.ensures 0) c.in_ok-key.was in omega (arith, l.nodes, x.nodes, w.nodes)

pub dict_node-overflow_add-count : goal.dict_node-overflow_add-count
dict_node-overflow_add-count t c =
    let l = c.loop-start.invariant 0 in let g = went c.next.ensures c.in_ok-start.was in let r = step_on spaces 0 spaces_fair (record { short = c.requires.0.short; inside = l.inside; few = l.few }) g.0 in let y = on key 1 key_fair r.0 (took (c.key_node.ensures 0) c.in_ok-key.was) in let a = went c.around_colon.ensures c.in_ok-colon.was in let d = step_on (seq spaces (seq colon spaces)) 1 around_fair y.0 a.0 in let v = on (value (c.args.left - 1)) 1 (value_fair _) d.0 (took (c.value_node.ensures 0) c.in_ok-member.was) in let s = went c.mark.ensures c.in_ok-mark.was in let f = step_on spaces 0 spaces_fair v.0 s.0 in record { fits = omega (arith, l.counted, l.inside, c.requires.0.short) }

pub dict_node-note-requires-then-mark-eq125 : goal.dict_node-note-requires-then-mark-eq125
dict_node-note-requires-then-mark-eq125 t c =
    let l = c.loop-start.invariant 0 in let g = went c.next.ensures c.in_ok-start.was in let r = step_on spaces 0 spaces_fair (record { short = c.requires.0.short; inside = l.inside; few = l.few }) g.0 in let y = on key 1 key_fair r.0 (took (c.key_node.ensures 0) c.in_ok-key.was) in let a = went c.around_colon.ensures c.in_ok-colon.was in let d = step_on (seq spaces (seq colon spaces)) 1 around_fair y.0 a.0 in let v = on (value (c.args.left - 1)) 1 (value_fair _) d.0 (took (c.value_node.ensures 0) c.in_ok-member.was) in let s = went c.mark.ensures c.in_ok-mark.was in let f = step_on spaces 0 spaces_fair v.0 s.0 in (c.if-n-ge-NODE_MAX.false, omega arith, omega (arith, v.0.few), omega (arith, c.requires.0.inside, c.requires.0.short), omega (arith, l.counted, r.1, y.1, d.1, v.1, v.0.inside, c.requires.0.short))

pub dict_node-overflow_add-result-then-mark-eq125 : goal.dict_node-overflow_add-result-then-mark-eq125
dict_node-overflow_add-result-then-mark-eq125 t c =
    let l = c.loop-start.invariant 0 in let g = went c.next.ensures c.in_ok-start.was in let r = step_on spaces 0 spaces_fair (record { short = c.requires.0.short; inside = l.inside; few = l.few }) g.0 in let y = on key 1 key_fair r.0 (took (c.key_node.ensures 0) c.in_ok-key.was) in let a = went c.around_colon.ensures c.in_ok-colon.was in let d = step_on (seq spaces (seq colon spaces)) 1 around_fair y.0 a.0 in let v = on (value (c.args.left - 1)) 1 (value_fair _) d.0 (took (c.value_node.ensures 0) c.in_ok-member.was) in let s = went c.mark.ensures c.in_ok-mark.was in let f = step_on spaces 0 spaces_fair v.0 s.0 in record { fits = omega (arith, f.0.inside, c.requires.0.short) }

pub dict_node-returns-then-mark-eq125 : goal.dict_node-returns-then-mark-eq125
dict_node-returns-then-mark-eq125 t c =
    let l = c.loop-start.invariant 0 in let g = went c.next.ensures c.in_ok-start.was in let r = step_on spaces 0 spaces_fair (record { short = c.requires.0.short; inside = l.inside; few = l.few }) g.0 in let y = on key 1 key_fair r.0 (took (c.key_node.ensures 0) c.in_ok-key.was) in let a = went c.around_colon.ensures c.in_ok-colon.was in let d = step_on (seq spaces (seq colon spaces)) 1 around_fair y.0 a.0 in let v = on (value (c.args.left - 1)) 1 (value_fair _) d.0 (took (c.value_node.ensures 0) c.in_ok-member.was) in let s = went c.mark.ensures c.in_ok-mark.was in let f = step_on spaces 0 spaces_fair v.0 s.0 in loop_last _ Pairs c.args.text.now (c.args.from - 1) _ _ c.if-left-eq0.false c.if-n-ge-NODE_MAX.false c.requires.0 _ _ _ _ c.loop-start.invariant _ _ _ _ v.0.few (let u : c.loop-start.count < text_max = omega (arith, l.counted, r.1, y.1, d.1, v.1, v.0.inside, c.requires.0.short) in u) (λ m. round_member 0x7d (member_of Pairs (value (c.args.left - 1))) c.args.text.now _ _ _ _ _ g.0 g.1 c.if-start-eq125.false (member_none Pairs (c.args.left - 1) _ _) (seq_took (member_of Pairs (value (c.args.left - 1))) (seq spaces (comma 0x7d)) c.args.text.now _ _ _ _ _ 0 _ _ (pair_took (value (c.args.left - 1)) c.args.text.now _ _ _ (took (c.key_node.ensures _) c.in_ok-key.was) a.0 (λ m. took (c.value_node.ensures m) c.in_ok-member.was)) _ _ 1 _ (ends 0x7d c.args.text.now _ _ _ _ _ s.0 s.1 c.if-mark-eq125.true (omega arith)))) c.note-then-mark-eq125.ensures

pub dict_node-returns-then-mark-ne44 : goal.dict_node-returns-then-mark-ne44
dict_node-returns-then-mark-ne44 t c =
    let l = c.loop-start.invariant 0 in let g = went c.next.ensures c.in_ok-start.was in let r = step_on spaces 0 spaces_fair (record { short = c.requires.0.short; inside = l.inside; few = l.few }) g.0 in let y = on key 1 key_fair r.0 (took (c.key_node.ensures 0) c.in_ok-key.was) in let a = went c.around_colon.ensures c.in_ok-colon.was in let d = step_on (seq spaces (seq colon spaces)) 1 around_fair y.0 a.0 in let v = on (value (c.args.left - 1)) 1 (value_fair _) d.0 (took (c.value_node.ensures 0) c.in_ok-member.was) in let s = went c.mark.ensures c.in_ok-mark.was in let f = step_on spaces 0 spaces_fair v.0 s.0 in rw c.at-then-mark-ne44.ensures (loop_cut _ Pairs c.args.text.now (c.args.from - 1) _ _ c.if-left-eq0.false c.if-n-ge-NODE_MAX.false c.requires.0 _ _ _ _ c.loop-start.invariant _ _ _ (λ m. round_refused 0x7d (member_of Pairs (value (c.args.left - 1))) c.args.text.now _ _ _ _ _ g.0 g.1 c.if-start-eq125.false (member_none Pairs (c.args.left - 1) _ _) (seq_refused (member_of Pairs (value (c.args.left - 1))) (seq spaces (comma 0x7d)) c.args.text.now _ _ _ _ _ 0 _ _ (pair_took (value (c.args.left - 1)) c.args.text.now _ _ _ (took (c.key_node.ensures _) c.in_ok-key.was) a.0 (λ m. took (c.value_node.ensures m) c.in_ok-member.was)) _ _ (no_comma 0x7d c.args.text.now _ _ _ _ _ s.0 s.1 _ c.misplaced.ensures c.if-mark-eq125.false c.if-mark-ne44.true))))

pub dict_node-overflow_add-p : goal.dict_node-overflow_add-p
dict_node-overflow_add-p t c =
    let l = c.loop-start.invariant 0 in let g = went c.next.ensures c.in_ok-start.was in let r = step_on spaces 0 spaces_fair (record { short = c.requires.0.short; inside = l.inside; few = l.few }) g.0 in let y = on key 1 key_fair r.0 (took (c.key_node.ensures 0) c.in_ok-key.was) in let a = went c.around_colon.ensures c.in_ok-colon.was in let d = step_on (seq spaces (seq colon spaces)) 1 around_fair y.0 a.0 in let v = on (value (c.args.left - 1)) 1 (value_fair _) d.0 (took (c.value_node.ensures 0) c.in_ok-member.was) in let s = went c.mark.ensures c.in_ok-mark.was in let f = step_on spaces 0 spaces_fair v.0 s.0 in record { fits = omega (arith, f.0.inside, c.requires.0.short) }

pub dict_node-overflow_add-count-in-loop-start : goal.dict_node-overflow_add-count-in-loop-start
dict_node-overflow_add-count-in-loop-start t c =
    let l = c.loop-start.invariant 0 in let g = went c.next.ensures c.in_ok-start.was in let r = step_on spaces 0 spaces_fair (record { short = c.requires.0.short; inside = l.inside; few = l.few }) g.0 in let y = on key 1 key_fair r.0 (took (c.key_node.ensures 0) c.in_ok-key.was) in let a = went c.around_colon.ensures c.in_ok-colon.was in let d = step_on (seq spaces (seq colon spaces)) 1 around_fair y.0 a.0 in let v = on (value (c.args.left - 1)) 1 (value_fair _) d.0 (took (c.value_node.ensures 0) c.in_ok-member.was) in let s = went c.mark.ensures c.in_ok-mark.was in let f = step_on spaces 0 spaces_fair v.0 s.0 in record { fits = omega (arith, l.counted, l.inside, c.requires.0.short) }

pub dict_node-loop-start-smaller : goal.dict_node-loop-start-smaller
dict_node-loop-start-smaller t c =
    let l = c.loop-start.invariant 0 in let g = went c.next.ensures c.in_ok-start.was in let r = step_on spaces 0 spaces_fair (record { short = c.requires.0.short; inside = l.inside; few = l.few }) g.0 in let y = on key 1 key_fair r.0 (took (c.key_node.ensures 0) c.in_ok-key.was) in let a = went c.around_colon.ensures c.in_ok-colon.was in let d = step_on (seq spaces (seq colon spaces)) 1 around_fair y.0 a.0 in let v = on (value (c.args.left - 1)) 1 (value_fair _) d.0 (took (c.value_node.ensures 0) c.in_ok-member.was) in let s = went c.mark.ensures c.in_ok-mark.was in let f = step_on spaces 0 spaces_fair v.0 s.0 in omega (arith, r.1, y.1, d.1, v.1, f.1, v.0.inside)

pub dict_node-loop-start-preserved : goal.dict_node-loop-start-preserved
dict_node-loop-start-preserved t c =
    let l = c.loop-start.invariant 0 in let g = went c.next.ensures c.in_ok-start.was in let r = step_on spaces 0 spaces_fair (record { short = c.requires.0.short; inside = l.inside; few = l.few }) g.0 in let y = on key 1 key_fair r.0 (took (c.key_node.ensures 0) c.in_ok-key.was) in let a = went c.around_colon.ensures c.in_ok-colon.was in let d = step_on (seq spaces (seq colon spaces)) 1 around_fair y.0 a.0 in let v = on (value (c.args.left - 1)) 1 (value_fair _) d.0 (took (c.value_node.ensures 0) c.in_ok-member.was) in let s = went c.mark.ensures c.in_ok-mark.was in let f = step_on spaces 0 spaces_fair v.0 s.0 in λ m. further Pairs (value (c.args.left - 1)) c.args.text.now (c.args.from - 1) _ m _ (c.loop-start.invariant m) (inner_fair Pairs (c.args.left - 1)) (round_member 0x7d (member_of Pairs (value (c.args.left - 1))) c.args.text.now _ _ _ _ _ g.0 g.1 c.if-start-eq125.false (member_none Pairs (c.args.left - 1) _ _) (seq_took (member_of Pairs (value (c.args.left - 1))) (seq spaces (comma 0x7d)) c.args.text.now _ _ _ _ _ 0 _ _ (pair_took (value (c.args.left - 1)) c.args.text.now _ _ _ (took (c.key_node.ensures _) c.in_ok-key.was) a.0 (λ m. took (c.value_node.ensures m) c.in_ok-member.was)) _ _ 2 _ (goes_on 0x7d c.args.text.now _ _ _ _ _ s.0 s.1 c.if-mark-eq125.false c.if-mark-ne44.false)))

pub list_node-overflow_sub-at : goal.list_node-overflow_sub-at
list_node-overflow_sub-at t c = omega (arith, c.requires.1)

pub list_node-returns-then-left-eq0 : goal.list_node-returns-then-left-eq0
list_node-returns-then-left-eq0 t c = λ m. rw c.at.ensures (told_stop (too_deep_lem _ _ _ _ m _ c.if-left-eq0.true))

pub list_node-returns-then-n-ge-NODE_MAX : goal.list_node-returns-then-n-ge-NODE_MAX
list_node-returns-then-n-ge-NODE_MAX t c = λ m. rw c.at-then-n-ge-NODE_MAX.ensures (told_stop (too_many_lem _ _ _ _ m _ c.if-left-eq0.false c.if-n-ge-NODE_MAX.true))

pub list_node-overflow_add-i : goal.list_node-overflow_add-i
list_node-overflow_add-i t c = record { fits = omega (arith, c.if-n-ge-NODE_MAX.false) }

pub list_node-loop-start-init : goal.list_node-loop-start-init
list_node-loop-start-init t c =
    loop_begun Items _ c.args.text.now c.args.from _ _ c.requires.1 (bracket_inside c.args.text.now (c.args.from - 1) 0x5b (sym c.requires.2) (omega arith)) c.if-n-ge-NODE_MAX.false

pub list_node-next-requires : goal.list_node-next-requires
list_node-next-requires t c = let l = c.loop-start.invariant 0 in (l.inside, c.requires.0.short)

pub list_node-returns-in_err-start : goal.list_node-returns-in_err-start
list_node-returns-in_err-start t c =
    rw (handed_on c.from_residual.result c.in_err-start.field-0.0 c.from_residual.ensures.1) (loop_cut _ Items c.args.text.now (c.args.from - 1) _ _ c.if-left-eq0.false c.if-n-ge-NODE_MAX.false c.requires.0 _ _ _ _ c.loop-start.invariant _ _ _ (λ m. step_stop spaces (close_or 0x5d _) spaces_blind c.args.text.now _ _ _ _ _ (halted c.next.ensures c.in_err-start.was)))

pub list_node-overflow_sub-i : goal.list_node-overflow_sub-i
list_node-overflow_sub-i t c = let l = c.loop-start.invariant 0 in omega (arith, l.nodes)

pub list_node-note-requires : goal.list_node-note-requires
list_node-note-requires t c =
    let l = c.loop-start.invariant 0 in (c.if-n-ge-NODE_MAX.false, omega arith, omega (arith, l.few), omega (arith, c.requires.0.inside, c.requires.0.short), omega (arith, l.counted, l.inside, c.requires.0.short))

pub list_node-overflow_add-result : goal.list_node-overflow_add-result
list_node-overflow_add-result t c =
    let l = c.loop-start.invariant 0 in let g = went c.next.ensures c.in_ok-start.was in let q = step_on spaces 0 spaces_fair (record { short = c.requires.0.short; inside = l.inside; few = l.few }) g.0 in record { fits = omega (arith, q.0.inside, c.requires.0.short) }

pub list_node-returns-then-start-eq93 : goal.list_node-returns-then-start-eq93
list_node-returns-then-start-eq93 t c =
    let l = c.loop-start.invariant 0 in let g = went c.next.ensures c.in_ok-start.was in
    loop_closed _ Items c.args.text.now (c.args.from - 1) _ _ c.if-left-eq0.false c.if-n-ge-NODE_MAX.false c.requires.0 _ _ _ _ c.loop-start.invariant _ _ _ _ l.few (let u : c.loop-start.count ≤ text_max = omega (arith, l.counted, l.inside, c.requires.0.short) in u) (λ m. round_closed 0x5d _ c.args.text.now _ _ _ _ _ g.0 g.1 c.if-start-eq93.true (omega arith)) c.note.ensures

pub list_node-overflow_sub-left : goal.list_node-overflow_sub-left
list_node-overflow_sub-left t c = omega (arith, c.if-left-eq0.false)

pub list_node-value_node-requires : goal.list_node-value_node-requires
list_node-value_node-requires t c =
    let l = c.loop-start.invariant 0 in let g = went c.next.ensures c.in_ok-start.was in let q = step_on spaces 0 spaces_fair (record { short = c.requires.0.short; inside = l.inside; few = l.few }) g.0 in
    (omega (arith, c.decreases, c.if-left-eq0.false, q.1, l.onward, q.0.inside), (q.0, g.1))

pub list_node-returns-in_err-member : goal.list_node-returns-in_err-member
list_node-returns-in_err-member t c =
    let l = c.loop-start.invariant 0 in let g = went c.next.ensures c.in_ok-start.was in let r = step_on spaces 0 spaces_fair (record { short = c.requires.0.short; inside = l.inside; few = l.few }) g.0 in rw (handed_on c.from_residual-in_err-member.result c.in_err-member.field-0.0 c.from_residual-in_err-member.ensures.1) (loop_cut _ Items c.args.text.now (c.args.from - 1) _ _ c.if-left-eq0.false c.if-n-ge-NODE_MAX.false c.requires.0 _ _ _ _ c.loop-start.invariant _ _ _ (λ m. round_refused 0x5d (value (c.args.left - 1)) c.args.text.now _ _ _ _ _ g.0 g.1 c.if-start-eq93.false (member_none Items (c.args.left - 1) _ _) (seq_stop (value (c.args.left - 1)) (seq spaces (comma 0x5d)) _ _ _ _ _ _ (stopped (c.value_node.ensures _) c.in_err-member.was))))

pub list_node-mark-requires : goal.list_node-mark-requires
list_node-mark-requires t c =
    let l = c.loop-start.invariant 0 in let g = went c.next.ensures c.in_ok-start.was in let r = step_on spaces 0 spaces_fair (record { short = c.requires.0.short; inside = l.inside; few = l.few }) g.0 in let v = on (value (c.args.left - 1)) 1 (value_fair _) r.0 (took (c.value_node.ensures 0) c.in_ok-member.was) in (v.0.inside, c.requires.0.short)

pub list_node-returns-in_err-mark : goal.list_node-returns-in_err-mark
list_node-returns-in_err-mark t c =
    let l = c.loop-start.invariant 0 in let g = went c.next.ensures c.in_ok-start.was in let r = step_on spaces 0 spaces_fair (record { short = c.requires.0.short; inside = l.inside; few = l.few }) g.0 in rw (handed_on c.from_residual-in_err-mark.result c.in_err-mark.field-0.0 c.from_residual-in_err-mark.ensures.1) (loop_cut _ Items c.args.text.now (c.args.from - 1) _ _ c.if-left-eq0.false c.if-n-ge-NODE_MAX.false c.requires.0 _ _ _ _ c.loop-start.invariant _ _ _ (λ m. round_refused 0x5d (value (c.args.left - 1)) c.args.text.now _ _ _ _ _ g.0 g.1 c.if-start-eq93.false (member_none Items (c.args.left - 1) _ _) (seq_refused (value (c.args.left - 1)) (seq spaces (comma 0x5d)) c.args.text.now _ _ _ _ _ 0 _ _ (took (c.value_node.ensures _) c.in_ok-member.was) _ _ (step_stop spaces (comma 0x5d) spaces_blind c.args.text.now _ _ _ _ _ (halted c.mark.ensures c.in_err-mark.was)))))

pub list_node-overflow_sub-member : goal.list_node-overflow_sub-member
list_node-overflow_sub-member t c =
    let l = c.loop-start.invariant 0 in let g = went c.next.ensures c.in_ok-start.was in let r = step_on spaces 0 spaces_fair (record { short = c.requires.0.short; inside = l.inside; few = l.few }) g.0 in let v = on (value (c.args.left - 1)) 1 (value_fair _) r.0 (took (c.value_node.ensures 0) c.in_ok-member.was) in let s = went c.mark.ensures c.in_ok-mark.was in let e = step_on spaces 0 spaces_fair v.0 s.0 in let x = took (c.value_node.ensures 0) c.in_ok-member.was in omega (arith, l.nodes, x.nodes)

pub list_node-overflow_add-count : goal.list_node-overflow_add-count
list_node-overflow_add-count t c =
    let l = c.loop-start.invariant 0 in let g = went c.next.ensures c.in_ok-start.was in let r = step_on spaces 0 spaces_fair (record { short = c.requires.0.short; inside = l.inside; few = l.few }) g.0 in let v = on (value (c.args.left - 1)) 1 (value_fair _) r.0 (took (c.value_node.ensures 0) c.in_ok-member.was) in let s = went c.mark.ensures c.in_ok-mark.was in let e = step_on spaces 0 spaces_fair v.0 s.0 in record { fits = omega (arith, l.counted, l.inside, c.requires.0.short) }

pub list_node-note-requires-then-mark-eq93 : goal.list_node-note-requires-then-mark-eq93
list_node-note-requires-then-mark-eq93 t c =
    let l = c.loop-start.invariant 0 in let g = went c.next.ensures c.in_ok-start.was in let r = step_on spaces 0 spaces_fair (record { short = c.requires.0.short; inside = l.inside; few = l.few }) g.0 in let v = on (value (c.args.left - 1)) 1 (value_fair _) r.0 (took (c.value_node.ensures 0) c.in_ok-member.was) in let s = went c.mark.ensures c.in_ok-mark.was in let e = step_on spaces 0 spaces_fair v.0 s.0 in (c.if-n-ge-NODE_MAX.false, omega arith, omega (arith, v.0.few), omega (arith, c.requires.0.inside, c.requires.0.short), omega (arith, l.counted, r.1, v.1, v.0.inside, c.requires.0.short))

pub list_node-overflow_add-result-then-mark-eq93 : goal.list_node-overflow_add-result-then-mark-eq93
list_node-overflow_add-result-then-mark-eq93 t c =
    let l = c.loop-start.invariant 0 in let g = went c.next.ensures c.in_ok-start.was in let r = step_on spaces 0 spaces_fair (record { short = c.requires.0.short; inside = l.inside; few = l.few }) g.0 in let v = on (value (c.args.left - 1)) 1 (value_fair _) r.0 (took (c.value_node.ensures 0) c.in_ok-member.was) in let s = went c.mark.ensures c.in_ok-mark.was in let e = step_on spaces 0 spaces_fair v.0 s.0 in record { fits = omega (arith, e.0.inside, c.requires.0.short) }

pub list_node-returns-then-mark-eq93 : goal.list_node-returns-then-mark-eq93
list_node-returns-then-mark-eq93 t c =
    let l = c.loop-start.invariant 0 in let g = went c.next.ensures c.in_ok-start.was in let r = step_on spaces 0 spaces_fair (record { short = c.requires.0.short; inside = l.inside; few = l.few }) g.0 in let v = on (value (c.args.left - 1)) 1 (value_fair _) r.0 (took (c.value_node.ensures 0) c.in_ok-member.was) in let s = went c.mark.ensures c.in_ok-mark.was in let e = step_on spaces 0 spaces_fair v.0 s.0 in loop_last _ Items c.args.text.now (c.args.from - 1) _ _ c.if-left-eq0.false c.if-n-ge-NODE_MAX.false c.requires.0 _ _ _ _ c.loop-start.invariant _ _ _ _ v.0.few (let u : c.loop-start.count < text_max = omega (arith, l.counted, r.1, v.1, v.0.inside, c.requires.0.short) in u) (λ m. round_member 0x5d (value (c.args.left - 1)) c.args.text.now _ _ _ _ _ g.0 g.1 c.if-start-eq93.false (member_none Items (c.args.left - 1) _ _) (seq_took (value (c.args.left - 1)) (seq spaces (comma 0x5d)) c.args.text.now _ _ _ _ _ 0 _ _ (took (c.value_node.ensures _) c.in_ok-member.was) _ _ 1 _ (ends 0x5d c.args.text.now _ _ _ _ _ s.0 s.1 c.if-mark-eq93.true (omega arith)))) c.note-then-mark-eq93.ensures

pub list_node-returns-then-mark-ne44 : goal.list_node-returns-then-mark-ne44
list_node-returns-then-mark-ne44 t c =
    let l = c.loop-start.invariant 0 in let g = went c.next.ensures c.in_ok-start.was in let r = step_on spaces 0 spaces_fair (record { short = c.requires.0.short; inside = l.inside; few = l.few }) g.0 in let v = on (value (c.args.left - 1)) 1 (value_fair _) r.0 (took (c.value_node.ensures 0) c.in_ok-member.was) in let s = went c.mark.ensures c.in_ok-mark.was in let e = step_on spaces 0 spaces_fair v.0 s.0 in rw c.at-then-mark-ne44.ensures (loop_cut _ Items c.args.text.now (c.args.from - 1) _ _ c.if-left-eq0.false c.if-n-ge-NODE_MAX.false c.requires.0 _ _ _ _ c.loop-start.invariant _ _ _ (λ m. round_refused 0x5d (value (c.args.left - 1)) c.args.text.now _ _ _ _ _ g.0 g.1 c.if-start-eq93.false (member_none Items (c.args.left - 1) _ _) (seq_refused (value (c.args.left - 1)) (seq spaces (comma 0x5d)) c.args.text.now _ _ _ _ _ 0 _ _ (took (c.value_node.ensures _) c.in_ok-member.was) _ _ (no_comma 0x5d c.args.text.now _ _ _ _ _ s.0 s.1 _ c.misplaced.ensures c.if-mark-eq93.false c.if-mark-ne44.true))))

pub list_node-overflow_add-p : goal.list_node-overflow_add-p
list_node-overflow_add-p t c =
    let l = c.loop-start.invariant 0 in let g = went c.next.ensures c.in_ok-start.was in let r = step_on spaces 0 spaces_fair (record { short = c.requires.0.short; inside = l.inside; few = l.few }) g.0 in let v = on (value (c.args.left - 1)) 1 (value_fair _) r.0 (took (c.value_node.ensures 0) c.in_ok-member.was) in let s = went c.mark.ensures c.in_ok-mark.was in let e = step_on spaces 0 spaces_fair v.0 s.0 in record { fits = omega (arith, e.0.inside, c.requires.0.short) }

pub list_node-overflow_add-count-in-loop-start : goal.list_node-overflow_add-count-in-loop-start
list_node-overflow_add-count-in-loop-start t c =
    let l = c.loop-start.invariant 0 in let g = went c.next.ensures c.in_ok-start.was in let r = step_on spaces 0 spaces_fair (record { short = c.requires.0.short; inside = l.inside; few = l.few }) g.0 in let v = on (value (c.args.left - 1)) 1 (value_fair _) r.0 (took (c.value_node.ensures 0) c.in_ok-member.was) in let s = went c.mark.ensures c.in_ok-mark.was in let e = step_on spaces 0 spaces_fair v.0 s.0 in record { fits = omega (arith, l.counted, l.inside, c.requires.0.short) }

pub list_node-loop-start-smaller : goal.list_node-loop-start-smaller
list_node-loop-start-smaller t c =
    let l = c.loop-start.invariant 0 in let g = went c.next.ensures c.in_ok-start.was in let r = step_on spaces 0 spaces_fair (record { short = c.requires.0.short; inside = l.inside; few = l.few }) g.0 in let v = on (value (c.args.left - 1)) 1 (value_fair _) r.0 (took (c.value_node.ensures 0) c.in_ok-member.was) in let s = went c.mark.ensures c.in_ok-mark.was in let e = step_on spaces 0 spaces_fair v.0 s.0 in omega (arith, r.1, v.1, e.1, v.0.inside)

pub list_node-loop-start-preserved : goal.list_node-loop-start-preserved
list_node-loop-start-preserved t c =
    let l = c.loop-start.invariant 0 in let g = went c.next.ensures c.in_ok-start.was in let r = step_on spaces 0 spaces_fair (record { short = c.requires.0.short; inside = l.inside; few = l.few }) g.0 in let v = on (value (c.args.left - 1)) 1 (value_fair _) r.0 (took (c.value_node.ensures 0) c.in_ok-member.was) in let s = went c.mark.ensures c.in_ok-mark.was in let e = step_on spaces 0 spaces_fair v.0 s.0 in λ m. further Items (value (c.args.left - 1)) c.args.text.now (c.args.from - 1) _ m _ (c.loop-start.invariant m) (inner_fair Items (c.args.left - 1)) (round_member 0x5d (value (c.args.left - 1)) c.args.text.now _ _ _ _ _ g.0 g.1 c.if-start-eq93.false (member_none Items (c.args.left - 1) _ _) (seq_took (value (c.args.left - 1)) (seq spaces (comma 0x5d)) c.args.text.now _ _ _ _ _ 0 _ _ (took (c.value_node.ensures _) c.in_ok-member.was) _ _ 2 _ (goes_on 0x5d c.args.text.now _ _ _ _ _ s.0 s.1 c.if-mark-eq93.false c.if-mark-ne44.false)))

pub value_node-overflow_add-at : goal.value_node-overflow_add-at
value_node-overflow_add-at t c =
    let l = get_or_inside (drop c.args.at c.args.text.now) 0 (λ z. omega (arith, c.requires.1, c.if-x-eq91.true)) in record { fits = omega (arith, l, length-drop c.args.at c.args.text.now, c.requires.0.short) }

pub value_node-list_node-requires : goal.value_node-list_node-requires
value_node-list_node-requires t c =
    (let i = bracket_inside c.args.text.now c.args.at _ c.requires.1 (omega (arith, c.if-x-eq91.true)) in omega (arith, c.decreases, i), (bracket_place c.args.text.now c.args.at _ c.requires.0, omega arith, bracket_byte c.args.text.now c.args.at c.args.n _ 0x5b c.requires.1 c.if-x-eq91.true))

pub value_node-returns-then-x-eq91 : goal.value_node-returns-then-x-eq91
value_node-returns-then-x-eq91 t c =
    value_list (group c.args.left Items) (group c.args.left Pairs) c.args.text.now c.args.at c.args.n ListStart (sym (list_start _ _ c.requires.1 c.if-x-eq91.true)) _ _ _ refl (bracket_told c.args.text.now c.args.at c.args.n c.args.left Items _ _ _ c.list_node.ensures)

pub value_node-overflow_add-at-then-x-eq123 : goal.value_node-overflow_add-at-then-x-eq123
value_node-overflow_add-at-then-x-eq123 t c =
    let l = get_or_inside (drop c.args.at c.args.text.now) 0 (λ z. omega (arith, c.requires.1, c.if-x-eq123.true)) in record { fits = omega (arith, l, length-drop c.args.at c.args.text.now, c.requires.0.short) }

pub value_node-dict_node-requires : goal.value_node-dict_node-requires
value_node-dict_node-requires t c =
    (let i = bracket_inside c.args.text.now c.args.at _ c.requires.1 (omega (arith, c.if-x-eq123.true)) in omega (arith, c.decreases, i), (bracket_place c.args.text.now c.args.at _ c.requires.0, omega arith, bracket_byte c.args.text.now c.args.at c.args.n _ 0x7b c.requires.1 c.if-x-eq123.true))

pub value_node-returns-then-x-eq123 : goal.value_node-returns-then-x-eq123
value_node-returns-then-x-eq123 t c =
    value_dict (group c.args.left Items) (group c.args.left Pairs) c.args.text.now c.args.at c.args.n Dict (sym (dict_start _ _ c.requires.1 c.if-x-eq123.true)) _ _ _ refl (bracket_told c.args.text.now c.args.at c.args.n c.args.left Pairs _ _ _ c.dict_node.ensures)

pub value_node-scalar_node-requires : goal.value_node-scalar_node-requires
value_node-scalar_node-requires t c = (c.requires.0, c.requires.1)

pub value_node-returns : goal.value_node-returns
value_node-returns t c =
    λ m. rw (no_bracket (group c.args.left Items) (group c.args.left Pairs) c.args.at c.args.n m (drop c.args.at c.args.text.now) _ c.requires.1 c.if-x-eq91.false c.if-x-eq123.false) (c.scalar_node.ensures m)
