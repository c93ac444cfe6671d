-- Style by style, as the definition has it.
use borrow.Author.Rules.{rules}
use mathlib.Core.Path.{sym, ap, ◌∙◌}
use lib.ListN.{drop}
use Rattle.notation.specs.declared.styles.Style.{Style}
use Rattle.escapes.specs.Escapes.{raw_byte}
use Rattle.escapes.proofs.EscapeLaws.{raw_json, raw_unicode}
use Rattle.escapes.proofs.raw_byte.Goals as goal

pub returns-in-Json : goal.returns-in-Json
returns-in-Json c = record { is = search raw_json; few = tt }

pub returns-in-Unicode : goal.returns-in-Unicode
returns-in-Unicode c = record { is = search raw_unicode; few = tt }

pub returns-in-Bytes : goal.returns-in-Bytes
returns-in-Bytes c = record { is = c.two_digits.ensures.is ∙ ap (λ (st : Style). raw_byte st (drop c.args.at c.args.s.now)) (sym c.in-Bytes.is); few = search rules }
