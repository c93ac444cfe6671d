-- A string that counts itself alone (Choices).
use mathlib.Core.Path.{sym, ap, ◌∙◌}
use Rattle.json8_fit.specs.Fitness.{is_fit}
use Rattle.trees.specs.Tables.{Maybe}
use mathlib.Core.List.{List}
use Prim.Native.Nat.{ℕ}
use Rattle.json8_fit.proofs.Choices.{key_inside, key_counts, key_string}
use Rattle.json8_fit.proofs.fitness.is_key.Goals as goal

pub returns-then-count_at-ne1 : goal.returns-then-count_at-ne1
returns-then-count_at-ne1 c =
    sym (ap (λ (x : Maybe (List ℕ)). is_fit x) (key_counts c.args.table.now c.args.text.now c.args.store.now c.args.i _ c.count_at.ensures.0 c.if-count_at-ne1.true))

pub is_string-requires : goal.is_string-requires
is_string-requires c = key_inside c.args.table.now c.args.text.now c.args.store.now c.args.i _ c.count_at.ensures.0 c.if-count_at-ne1.false

pub returns : goal.returns
returns c =
    c.is_string.ensures ∙ sym (ap (λ (x : Maybe (List ℕ)). is_fit x) (key_string c.args.table.now c.args.text.now c.args.store.now c.args.i _ c.count_at.ensures.0 c.if-count_at-ne1.false))
