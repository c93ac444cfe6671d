-- By what the system says (Adding).
use borrow.Author.Rules.{rules}
use mathlib.Core.Path.{◌≡◌, ap, ◌∙◌}
use mir.Syntax.{w32}
use mir.Val.{to_z, of_z}
use Rattle.std.specs.Prelude.{Some, None}
use Rattle.command_outputs.specs.declared.outcomes.Outcome.TheVariants.{Unwritten}
use Rattle.command_outputs.proofs.Adding.{page_by}
use Rattle.command_outputs.proofs.pages.outcome_of.Goals as goal

pub returns-in-Some : goal.returns-in-Some
returns-in-Some c =
    ap Unwritten (let z : to_z w32 (of_z w32 c.in-Some.error) ≡ c.in-Some.error = search rules in z) ∙ page_by c.args.p (Some c.in-Some.error) c.in-Some.is

pub returns-in-None : goal.returns-in-None
returns-in-None c = page_by c.args.p None c.in-None.is
