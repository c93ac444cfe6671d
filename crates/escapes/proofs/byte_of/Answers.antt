-- Style by style, what the callee promises.
use mathlib.Core.Path.{sym, subst}
use Rattle.notation.specs.declared.styles.Style.{Style}
use Rattle.escapes.specs.Escapes.{lookup, letters_of, Tells}
use Rattle.escapes.proofs.byte_of.Goals as goal

pub returns-in-Json : goal.returns-in-Json
returns-in-Json c = subst (λ (st : Style). Tells c.common.result (lookup c.args.c (letters_of st))) (sym c.in-Json.is) c.common.ensures

pub returns-in-Unicode : goal.returns-in-Unicode
returns-in-Unicode c = subst (λ (st : Style). Tells c.single_quoted.result (lookup c.args.c (letters_of st))) (sym c.in-Unicode.is) c.single_quoted.ensures

pub returns-in-Bytes : goal.returns-in-Bytes
returns-in-Bytes c = subst (λ (st : Style). Tells c.single_quoted-in-Bytes.result (lookup c.args.c (letters_of st))) (sym c.in-Bytes.is) c.single_quoted-in-Bytes.ensures
