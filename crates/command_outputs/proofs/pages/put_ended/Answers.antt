-- The byte behind the text (Adding).
use mathlib.Core.List.{[], ◌∷◌, ◌++◌}
use native.Mathlib.Omega.{arith}
use lib.ListN.{length-append}
use Rattle.command_texts.proofs.Puts.{left_out}
use Rattle.command_outputs.proofs.Adding.{put_both}
use Rattle.command_outputs.proofs.pages.put_ended.Goals as goal

pub returns-then-page-at : goal.returns-then-page-at
returns-then-page-at c = left_out (c.args.s.now ++ (c.args.end ∷ [])) c.args.at c.args.page.now (omega (arith, c.if-page-at.true))

pub returns-then-page-at-2 : goal.returns-then-page-at-2
returns-then-page-at-2 c =
    left_out (c.args.s.now ++ (c.args.end ∷ [])) c.args.at c.args.page.now (omega (arith, c.if-page-at.false, c.if-page-at-2.true, length-append c.args.s.now (c.args.end ∷ [])))

pub returns : goal.returns
returns c = put_both c.args.s.now c.args.end c.args.at c.args.page.now c.if-page-at.false c.if-page-at-2.false c.put-e.ensures c.put.ensures
