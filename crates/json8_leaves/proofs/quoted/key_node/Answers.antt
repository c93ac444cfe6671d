-- The short string, or what begins there decides (Single, Choices).
use native.Mathlib.Omega.{arith}
use mathlib.Core.Path.{refl, sym, ◌∙◌}
use Rattle.json8_leaves.proofs.Single.{plain_inside}
use Rattle.json8_leaves.proofs.Choices.{quote_start, key_string, short_rest, quote_rest}
use Rattle.tokens.specs.declared.starts.Start.TheVariants.{String as StringStart}
use Rattle.json8_leaves.proofs.quoted.key_node.Goals as goal

pub short-requires : goal.short-requires
short-requires c = quote_rest c.args.text.now c.args.at (sym c.requires.1 ∙ c.if-x-eq34.true)

pub short_string-requires : goal.short_string-requires
short_string-requires c =
    let i = plain_inside c.args.text.now c.args.at _ _ (short_rest c.args.text.now c.args.at _ c.in-Some.ensures.1) in (omega (arith, i.1), omega (arith, i.0, i.1, c.requires.0.short), c.requires.0.few)

pub returns-in-Some : goal.returns-in-Some
returns-in-Some c =
    key_string c.args.text.now c.args.at _ StringStart (sym (quote_start _ _ c.requires.1 c.if-x-eq34.true)) _ _ _ refl (λ m. c.short_string.ensures c.args.text.now m c.requires.0.short (short_rest c.args.text.now c.args.at _ c.in-Some.ensures.1))

pub returns-in-None : goal.returns-in-None
returns-in-None c = key_string c.args.text.now c.args.at _ StringStart (sym (quote_start _ _ c.requires.1 c.if-x-eq34.true)) _ _ _ refl c.string_node.ensures
