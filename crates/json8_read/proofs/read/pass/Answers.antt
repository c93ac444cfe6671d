-- Blanks, a value, blanks and the end, one behind another (Joined, Whole).
use Rattle.json8.specs.Leaves.{spaces}
use Rattle.json8.specs.Values.{value}
use Rattle.json8.specs.Read.{text_end}
use Rattle.json8.proofs.Fair.{spaces_fair, value_fair}
use Rattle.json8_leaves.proofs.Joined.{handed_on, told_stop, told_got, took, stopped, halted, went, seq_stop, seq_told, step_told, step_stop, step_on, on, spaces_blind}
use Rattle.json8_read.proofs.Whole.{from_start, behind_value, all_told, finish_more, finish_done}
use Rattle.json8_read.proofs.read.pass.Goals as goal

pub returns-in_err-start : goal.returns-in_err-start
returns-in_err-start c = rw (handed_on c.from_residual.result c.in_err-start.field-0.0 c.from_residual.ensures.1) (all_told _ _ _ _ (told_stop (step_stop spaces _ spaces_blind _ _ _ _ _ _ (halted c.next.ensures c.in_err-start.was))))

pub value_node-requires : goal.value_node-requires
value_node-requires c = let w = went c.next.ensures c.in_ok-start.was in ((step_on spaces 0 spaces_fair (from_start _ c.requires) w.0).0, w.1)

pub returns-in_err-found : goal.returns-in_err-found
returns-in_err-found c =
    rw (handed_on c.from_residual-in_err-found.result c.in_err-found.field-0.0 c.from_residual-in_err-found.ensures.1) (all_told _ _ _ _ (step_told spaces _ spaces_blind _ _ _ _ _ _ (went c.next.ensures c.in_ok-start.was).0 _ _ _ (told_stop (seq_stop (value 32) behind_value _ _ _ _ _ _ (stopped (c.value_node.ensures 0) c.in_err-found.was)))))

pub mark-requires : goal.mark-requires
mark-requires c =
    let g = step_on spaces 0 spaces_fair (from_start _ c.requires) (went c.next.ensures c.in_ok-start.was).0 in
    let h = on (value 32) 1 (value_fair 32) g.0 (took (c.value_node.ensures 0) c.in_ok-found.was) in
    (h.0.inside, h.0.short)

pub returns-in_err-end : goal.returns-in_err-end
returns-in_err-end c =
    rw (handed_on c.from_residual-in_err-end.result c.in_err-end.field-0.0 c.from_residual-in_err-end.ensures.1) (all_told _ _ _ _ (step_told spaces _ spaces_blind _ _ _ _ _ _ (went c.next.ensures c.in_ok-start.was).0 _ _ _ (seq_told (value 32) behind_value _ _ _ _ _ _ _ _ _ (took (c.value_node.ensures 0) c.in_ok-found.was) _ _ (told_stop (step_stop spaces text_end spaces_blind _ _ _ _ _ _ (halted c.mark.ensures c.in_err-end.was))))))

pub returns-then-end-text : goal.returns-then-end-text
returns-then-end-text c =
    rw c.at.ensures (all_told _ _ _ _ (step_told spaces _ spaces_blind _ _ _ _ _ _ (went c.next.ensures c.in_ok-start.was).0 _ _ _ (seq_told (value 32) behind_value _ _ _ _ _ _ _ _ _ (took (c.value_node.ensures 0) c.in_ok-found.was) _ _ (step_told spaces text_end spaces_blind _ _ _ _ _ _ (went c.mark.ensures c.in_ok-end.was).0 _ _ _ (told_stop (finish_more _ _ _ _ c.if-end-text.true))))))

pub returns : goal.returns
returns c =
    all_told _ _ _ _ (step_told spaces _ spaces_blind _ _ _ _ _ _ (went c.next.ensures c.in_ok-start.was).0 _ _ _ (seq_told (value 32) behind_value _ _ _ _ _ _ _ _ _ (took (c.value_node.ensures 0) c.in_ok-found.was) _ _ (step_told spaces text_end spaces_blind _ _ _ _ _ _ (went c.mark.ensures c.in_ok-end.was).0 _ _ _ (told_got (finish_done _ _ _ _ _ c.if-end-text.false)))))
