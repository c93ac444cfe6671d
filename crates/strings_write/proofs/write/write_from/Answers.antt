-- One run to the end is valid and needs no escape; an ample room takes any text; otherwise validity picks the form (Writing).
use mathlib.Core.Path.{◌≡◌, sym, ◌∙◌}
use native.Mathlib.Omega.{arith}
use lib.ListN.{length}
use Rattle.notation.specs.declared.styles.Style.TheVariants.{Json}
use Rattle.notation.specs.Literals.{literal_run}
use Prim.Native.Nat.{◌≤◌}
use Rattle.notation.proofs.LiteralLaws.{all_literal}
use Rattle.runs.proofs.LiteralRuns.{through}
use Rattle.strings_write.specs.Write.{write_string}
use Rattle.strings_write.proofs.WriteLengths.{write_length}
use Rattle.strings_write.proofs.Writing.{one_pass, valid_form, other_form, valid_behind}
use Rattle.strings_write.proofs.write.write_from.Goals as goal

pub literal_run-e-requires : goal.literal_run-e-requires
literal_run-e-requires c = c.requires.inside

pub write_literal-requires : goal.write_literal-requires
write_literal-requires c = let e : literal_run Json 0 c.args.s.now ≡ length c.args.s.now = omega (arith, c.literal_run-e.ensures, c.requires.same, c.if-e-s.true) in e

pub returns-then-e-s : goal.returns-then-e-s
returns-then-e-s c =
    let r = let e : literal_run Json 0 c.args.s.now ≡ length c.args.s.now = omega (arith, c.literal_run-e.ensures, c.requires.same, c.if-e-s.true) in
    valid_form c.args.s.now _ c.args.out.now _ (all_literal Json c.args.s.now e) (c.write_literal.ensures.answer, c.write_literal.ensures.stored) in record { answer = r.0; stored = r.1 }

pub returns-then-ample : goal.returns-then-ample
returns-then-ample c =
    let r = one_pass (write_string c.args.s.now) c.args.out.now (omega (arith, write_length c.args.s.now, (c.ample.ensures c.if-ample.true).0)) c.write_run.ensures c.fitted.ensures in record { answer = r.0; stored = r.1 }

pub slice_bounds-valid_in-count : goal.slice_bounds-valid_in-count
slice_bounds-valid_in-count c = (through _ _ _ _ _ c.requires c.literal_run-e.ensures).inside

pub slice_bounds-valid_in-start : goal.slice_bounds-valid_in-start
slice_bounds-valid_in-start c = let h : c.literal_run-e.result ≤ length c.args.s.now = (through _ _ _ _ _ c.requires c.literal_run-e.ensures).inside in omega arith

pub returns-then-valid_in : goal.returns-then-valid_in
returns-then-valid_in c =
    let r = valid_form c.args.s.now _ c.args.out.now _ (sym (valid_behind _ _ _ _ c.requires c.literal_run-e.ensures c.valid_in.ensures) ∙ c.if-valid_in.true) (c.write_quoted.ensures.answer, c.write_quoted.ensures.stored) in record { answer = r.0; stored = r.1 }

pub returns : goal.returns
returns c =
    let r = other_form c.args.s.now _ c.args.out.now _ (sym (valid_behind _ _ _ _ c.requires c.literal_run-e.ensures c.valid_in.ensures) ∙ c.if-valid_in.false) (c.write_quoted-2.ensures.answer, c.write_quoted-2.ensures.stored) in record { answer = r.0; stored = r.1 }
