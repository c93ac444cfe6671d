-- The first pass measures over no buffer and the second stores; where the room surely suffices, one does both (Writing).
use mathlib.Core.Path.{refl}
use Rattle.std.proofs.lemmas.Result.{err_from_is_err_and}
use Rattle.strings_write.specs.Write.{quoted}
use Rattle.strings_write.proofs.Writing.{one_pass, too_long_lem, both_passes}
use Rattle.strings_write.proofs.write.write_quoted.Goals as goal

pub returns-then-roomy : goal.returns-then-roomy
returns-then-roomy c =
    let r = one_pass (quoted c.args.form c.args.s.now) c.args.out.now (c.roomy.ensures c.if-roomy.true c.args.s.now refl) c.pass.ensures c.fitted.ensures in record { answer = r.0; stored = r.1 }

pub returns-in_err-n : goal.returns-in_err-n
returns-in_err-n c =
    let p = err_from_is_err_and c.from_residual.result c.from_residual.ensures.1 in
    let r = too_long_lem (quoted c.args.form c.args.s.now) c.pass-2.new.out c.args.out.now c.pass-2.auto.out c.pass-2.ensures _ c.in_err-n.ensures in
    rw (p.1, p.2) (record { answer = r.0; stored = r.1 })

pub returns : goal.returns
returns c =
    let r = both_passes (quoted c.args.form c.args.s.now) c.pass-2.new.out c.args.out.now c.pass-2.auto.out c.pass-2.ensures _ c.in_ok-n.ensures c.pass-3.ensures in record { answer = r.0; stored = r.1 }
