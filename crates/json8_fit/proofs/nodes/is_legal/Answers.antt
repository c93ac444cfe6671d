-- The kind is the one that the text has.
use mathlib.Core.Path.{sym, ap, ◌∙◌}
use Rattle.json8_fit.specs.inner.Steps.{is_kind}
use Rattle.json8_fit.proofs.nodes.is_legal.Goals as goal

pub returns-in-Some : goal.returns-in-Some
returns-in-Some c = sym (ap (is_kind c.args.kind) (sym c.kind_of.ensures ∙ c.in-Some.is))

pub returns-in-None : goal.returns-in-None
returns-in-None c = sym (ap (is_kind c.args.kind) (sym c.kind_of.ensures ∙ c.in-None.is))
