-- A control's text is its escape (ByteTexts).
use native.Mathlib.Omega.{arith}
use mathlib.Core.Path.{ap, ◌∙◌}
use Prim.Native.Nat.{◌+◌}
use lib.ListN.{length}
use lib.Seq.{sets}
use Rattle.bytewise.proofs.ByteTexts.{control_text, escape_short}
use Rattle.bytewise.proofs.rest.put_control.Goals as goal

pub overflow_add-result : goal.overflow_add-result
overflow_add-result c = omega (arith, c.escape_len.ensures, escape_short c.args.b)

pub returns : goal.returns
returns c =
    let e = control_text _ c.requires.0 in (ap (λ n. c.args.o + n) (c.escape_len.ensures ∙ ap length e), c.put_escape.ensures ∙ ap (sets c.args.out.now _) e)
