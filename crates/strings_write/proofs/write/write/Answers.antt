-- Where blocks reach the end, the data is one run; otherwise it is what `write_from` promises.
use mathlib.Core.Path.{sym, ap}
use lib.ListN.{length}
use lib.Seq.{take-length}
use Rattle.notation.specs.declared.styles.Style.TheVariants.{Json}
use Rattle.notation.proofs.LiteralLaws.{all_literal}
use Rattle.strings_write.proofs.Writing.{valid_form, all_of_it, one_run}
use Rattle.strings_write.proofs.write.write.Goals as goal

pub slice_bounds-strides_to_end-end : goal.slice_bounds-strides_to_end-end
slice_bounds-strides_to_end-end c = ap length (sym (take-length c.args.s.now))

pub write_literal-requires : goal.write_literal-requires
write_literal-requires c = one_run c.args.s.now _ c.strides_to_end-at.ensures c.if-at-n.true

pub returns-then-at-n : goal.returns-then-at-n
returns-then-at-n c =
    let r = valid_form c.args.s.now _ c.args.out.now _ (all_literal Json c.args.s.now (one_run c.args.s.now _ c.strides_to_end-at.ensures c.if-at-n.true)) (c.write_literal.ensures.answer, c.write_literal.ensures.stored) in record { answer = r.0; stored = r.1 }

pub write_from-requires : goal.write_from-requires
write_from-requires c = all_of_it c.args.s.now _ c.strides_to_end-at.ensures

pub returns : goal.returns
returns c = record { answer = c.write_from.ensures.answer; stored = c.write_from.ensures.stored }
