-- The blanks before the line move every place but that of refusal 12 (LineAnswers).
use Rattle.lines.proofs.LineAnswers.{nothing_left, line_held, line_full, line_faulty, place_inside}
use Rattle.lines.proofs.LineEnds.{leads_le, strip_inside}
use native.Mathlib.Omega.{arith}
use mathlib.Core.Path.{ap, ◌∙◌}
use Rattle.std.specs.Prelude.{Err}
use Rattle.lines.proofs.read.read_line.Goals as goal

pub slice_bounds-trim-count : goal.slice_bounds-trim-count
slice_bounds-trim-count c = omega (arith, leads_le c.args.l.now, c.lead-a.ensures)

pub slice_bounds-trim-start : goal.slice_bounds-trim-start
slice_bounds-trim-start c = omega (arith, leads_le c.args.l.now, c.lead-a.ensures)

pub returns-then-n-eq0 : goal.returns-then-n-eq0
returns-then-n-eq0 c = let r = nothing_left c.args.l.now c.args.out.now _ _ c.lead-a.ensures c.trim-n.ensures c.if-n-eq0.true in record { answer = r.0; stored = r.1 }

pub overflow_add-a : goal.overflow_add-a
overflow_add-a c = omega (arith, (strip_inside c.args.l.now _ _ c.lead-a.ensures c.trim-n.ensures).1)

pub slice_bounds-read_stripped-end : goal.slice_bounds-read_stripped-end
slice_bounds-read_stripped-end c = omega (arith, (strip_inside c.args.l.now _ _ c.lead-a.ensures c.trim-n.ensures).1)

pub returns-in-Ok : goal.returns-in-Ok
returns-in-Ok c =
    let r = line_held c.args.l.now c.args.out.now _ _ c.lead-a.ensures c.trim-n.ensures _ _ c.read_stripped.ensures _ c.in-Ok.is in record { answer = r.0; stored = r.1 }

pub returns-in-NoRoom : goal.returns-in-NoRoom
returns-in-NoRoom c =
    let r = line_full c.args.l.now c.args.out.now _ _ c.lead-a.ensures c.trim-n.ensures _ _ c.read_stripped.ensures _ c.in-Err.is c.in-NoRoom.is in record { answer = ap Err c.at.ensures ∙ r.0; stored = r.1 }

pub overflow_add-a-in_default : goal.overflow_add-a-in_default
overflow_add-a-in_default c =
    omega (arith, place_inside c.args.l.now _ _ _ c.lead-a.ensures c.trim-n.ensures _ _ c.read_stripped.ensures _ c.in-Err.is c.in_default.not-NoRoom)

pub returns-in_default : goal.returns-in_default
returns-in_default c =
    let r = line_faulty c.args.l.now _ _ _ c.lead-a.ensures c.trim-n.ensures _ _ c.read_stripped.ensures _ c.in-Err.is c.in_default.not-NoRoom in record { answer = ap Err c.at-in_default.ensures ∙ r.0; stored = r.1 }
