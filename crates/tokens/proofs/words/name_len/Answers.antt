-- The first letter decides which name is compared (Shorts).
use mathlib.Core.Path.{sym, ◌∙◌, subst}
use native.Mathlib.Omega.{arith}
use Prim.Native.Nat.{ℕ}
use lib.ListN.{drop}
use Rattle.tokens.specs.inner.Parts.{Named}
use Rattle.tokens.proofs.Shorts.{true_named, null_named, false_named}
use Rattle.tokens.proofs.words.name_len.Goals as goal

pub returns-then-spells : goal.returns-then-spells
returns-then-spells c =
    (omega arith, subst (λ (k : ℕ). Named (drop c.args.at c.args.s.now) k 4) (sym c.if-x-eq116.true) (true_named _ (sym c.requires ∙ c.if-x-eq116.true) (c.spells.ensures c.if-spells.true)))

pub returns-then-spells-2 : goal.returns-then-spells-2
returns-then-spells-2 c =
    (omega arith, subst (λ (k : ℕ). Named (drop c.args.at c.args.s.now) k 4) (sym c.if-x-eq110.true) (null_named _ (sym c.requires ∙ c.if-x-eq110.true) (c.spells-then-x-eq110.ensures c.if-spells-2.true)))

pub returns-then-spells-3 : goal.returns-then-spells-3
returns-then-spells-3 c =
    (omega arith, subst (λ (k : ℕ). Named (drop c.args.at c.args.s.now) k 5) (sym c.if-x-eq102.true) (false_named _ (sym c.requires ∙ c.if-x-eq102.true) (sym c.byte_at.ensures ∙ c.if-byte_at-eq97.true) (c.spells-then-byte_at-eq97.ensures c.if-spells-3.true)))
