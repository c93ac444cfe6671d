-- The first byte decides which of the three tests is asked.
use mathlib.Core.Path.{sym, ◌∙◌}
use Rattle.std.proofs.lemmas.Option.{IfSome_then}
use Rattle.json8_leaves.proofs.Choices.{quote_rest, leaf_quoted, leaf_digits, leaf_named}
use Rattle.json8_leaves.proofs.quoted.short_len.Goals as goal

pub short-requires : goal.short-requires
short-requires c = quote_rest c.args.text.now c.args.at (sym c.requires.1 ∙ c.if-x-eq34.true)

pub returns-then-x-eq34 : goal.returns-then-x-eq34
returns-then-x-eq34 c = IfSome_then _ c.short.ensures (λ n. leaf_quoted c.args.text.now c.args.at _ n c.if-x-eq34.true)

pub short-requires-then-is_digit : goal.short-requires-then-is_digit
short-requires-then-is_digit c = (c.requires.0, c.requires.1, sym c.is_digit.ensures ∙ c.if-is_digit.true)

pub returns-then-is_digit : goal.returns-then-is_digit
returns-then-is_digit c = IfSome_then _ c.short-then-is_digit.ensures (λ n. leaf_digits c.args.text.now c.args.at _ n c.if-x-eq34.false (sym c.is_digit.ensures ∙ c.if-is_digit.true))

pub returns : goal.returns
returns c = IfSome_then _ c.name_len.ensures (λ n. leaf_named c.args.text.now c.args.at _ n c.if-x-eq34.false (sym c.is_digit.ensures ∙ c.if-is_digit.false))
