-- The opening mark, by the two bytes that tell it.
-- Assumes nothing.
use Prim.Native.Nat.{ℕ}
use Prim.Native.Char.{code}
use mathlib.Core.List.{List}
use mathlib.Core.Path.{◌≡◌}
use borrow.Author.Tests.{eq-eqb, ne_eqb}
use lib.Dec.{eqb}
use lib.ListN.{get_or}
use Rattle.prelude.specs.Bytes.{double_quote, single_quote}
use Rattle.prelude.specs.Pick.{pick}
use Rattle.prelude.proofs.Cases.{split}
use Rattle.notation.specs.declared.styles.Style.TheVariants.{Json, Unicode, Bytes}
use Rattle.notation.specs.Marks.{opens, unopened, opening}

module _ (s : List ℕ) (a : ℕ) (ea : a ≡ get_or s 0 0) where
  pub json_mark : a ≡ double_quote → opens Json 1 ≡ opening s
  unfolding opening pick
  json_mark h = rw (← ea, eq-eqb a double_quote h)

  module _ (n1 : a ≡ double_quote → ⊥) where
    pub bare_mark : a ≡ single_quote → opens Unicode 1 ≡ opening s
    unfolding opening pick
    bare_mark h = simp (← ea, ne_eqb a double_quote n1, eq-eqb a single_quote h)

    module _ (n2 : a ≡ single_quote → ⊥) (b : ℕ) (eb : b ≡ get_or s 1 0) where
      pub no_quote : (b ≡ single_quote → ⊥) → unopened ≡ opening s
      unfolding opening pick
      no_quote h =
          split (eqb a (code "u"))
          (λ p. split (eqb a (code "b")) (λ q. simp (← ea, ← eb, ne_eqb a double_quote n1, ne_eqb a single_quote n2, ne_eqb b single_quote h, p, q)) (λ q. simp (← ea, ← eb, ne_eqb a double_quote n1, ne_eqb a single_quote n2, ne_eqb b single_quote h, p, q)))
          (λ p. split (eqb a (code "b")) (λ q. simp (← ea, ← eb, ne_eqb a double_quote n1, ne_eqb a single_quote n2, ne_eqb b single_quote h, p, q)) (λ q. simp (← ea, ← eb, ne_eqb a double_quote n1, ne_eqb a single_quote n2, ne_eqb b single_quote h, p, q)))

      module _ (q : b ≡ single_quote) where
        pub unicode_mark : a ≡ code "u" → opens Unicode 2 ≡ opening s
        unfolding opening pick
        unicode_mark h = simp (← ea, ← eb, ne_eqb a double_quote n1, ne_eqb a single_quote n2, eq-eqb a (code "u") h, eq-eqb b single_quote q)

        pub bytes_mark : (a ≡ code "u" → ⊥) → a ≡ code "b" → opens Bytes 2 ≡ opening s
        unfolding opening pick
        bytes_mark n3 h = simp (← ea, ← eb, ne_eqb a double_quote n1, ne_eqb a single_quote n2, ne_eqb a (code "u") n3, eq-eqb a (code "b") h, eq-eqb b single_quote q)

        pub other_mark : (a ≡ code "u" → ⊥) → (a ≡ code "b" → ⊥) → unopened ≡ opening s
        unfolding opening pick
        other_mark n3 n4 = simp (← ea, ← eb, ne_eqb a double_quote n1, ne_eqb a single_quote n2, ne_eqb a (code "u") n3, ne_eqb a (code "b") n4)
