-- One run to the end, or validity behind it decides the form (Writing).
use mathlib.Core.Path.{◌≡◌, sym, ◌∙◌}
use native.Mathlib.Omega.{arith}
use Prim.Native.Nat.{◌≤◌}
use lib.ListN.{length}
use Rattle.notation.specs.declared.styles.Style.TheVariants.{Json}
use native.Mathlib.Nat.{zero-add}
use Rattle.notation.specs.Literals.{literal_run}
use Rattle.runs.proofs.LiteralRuns.{here, through}
use Rattle.strings_write.proofs.Writing.{valid_behind}
use Rattle.strings_write.proofs.write.write_tight.Goals as goal

pub literal_part-requires : goal.literal_part-requires
literal_part-requires c = let e : literal_run Json 0 c.args.s.now ≡ length c.args.s.now = sym (zero-add _) ∙ sym c.inner_run-e.ensures ∙ c.if-e-s.true in e

pub slice_bounds-valid_in-count : goal.slice_bounds-valid_in-count
slice_bounds-valid_in-count c = (through Json _ _ _ _ (here Json _ 0 (omega arith)) c.inner_run-e.ensures).inside

pub slice_bounds-valid_in-start : goal.slice_bounds-valid_in-start
slice_bounds-valid_in-start c = let h : c.inner_run-e.result ≤ length c.args.s.now = (through Json _ _ _ _ (here Json _ 0 (omega arith)) c.inner_run-e.ensures).inside in omega arith

pub write_part-requires : goal.write_part-requires
write_part-requires c = valid_behind _ 0 _ _ (here Json _ 0 (omega arith)) c.inner_run-e.ensures c.valid_in-valid.ensures
