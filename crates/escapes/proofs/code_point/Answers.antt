-- Style by style, what the callee promises.
use borrow.Author.Rules.{rules}
use mathlib.Core.Path.{sym, ap, ◌∙◌}
use lib.ListN.{drop}
use Rattle.notation.specs.declared.styles.Style.{Style}
use Rattle.escapes.specs.Escapes.{code_point}
use Rattle.escapes.proofs.code_point.Goals as goal

pub returns-in-Json : goal.returns-in-Json
returns-in-Json c = record { is = c.four_digits.ensures.is ∙ ap (λ (st : Style). code_point st (drop c.args.at c.args.s.now)) (sym c.in-Json.is); few = search rules }

pub returns-in-Unicode : goal.returns-in-Unicode
returns-in-Unicode c = record { is = c.braced.ensures.is ∙ ap (λ (st : Style). code_point st (drop c.args.at c.args.s.now)) (sym c.in-Unicode.is); few = search rules }

pub returns-in-Bytes : goal.returns-in-Bytes
returns-in-Bytes c =
    record { is = c.braced-in-Bytes.ensures.is ∙ ap (λ (st : Style). code_point st (drop c.args.at c.args.s.now)) (sym c.in-Bytes.is); few = search rules }
