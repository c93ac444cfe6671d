-- By the style that was matched.
use mathlib.Core.Path.{sym, subst}
use Rattle.notation.specs.declared.styles.Style.{Style}
use Rattle.runs.specs.inner.Blocks.{Running}
use Rattle.runs.proofs.shorts.short.Goals as goal

pub returns-in-Json : goal.returns-in-Json
returns-in-Json c = subst (λ (st : Style). Running st c.args.s.now c.args.from c.json.result) (sym c.in-Json.is) c.json.ensures
