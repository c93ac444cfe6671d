-- The count of a node inside the table, or 0 behind the last (TableNodes).
use mathlib.Core.Path.{sym, ◌∙◌}
use native.Mathlib.Omega.{arith}
use Rattle.json8_fit.proofs.TableNodes.{count_there, no_count}
use Rattle.json8_fit.proofs.nodes.count_at.Goals as goal

pub returns-then-table-i : goal.returns-then-table-i
returns-then-table-i c = (sym (no_count c.args.i c.args.table.now (omega arith)), omega arith)

pub returns : goal.returns
returns c = (c.number_in.ensures.0 ∙ sym (count_there c.args.i c.args.table.now (omega arith)), c.number_in.ensures.1)
