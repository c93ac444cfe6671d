-- Up to four bytes stored one by one, as many as find room: those that find none would change nothing.
-- Assumes nothing.
use Prim.Native.Nat.{ℕ, suc, ◌+◌, ◌-◌, ◌≤◌}
use mathlib.Core.List.{List, [], ◌∷◌}
use mathlib.Core.Path.{◌≡◌, sym, ap, ◌∙◌}
use native.Mathlib.Omega.{arith}
use lib.ListN.{length, take, set}
use lib.Seq.{sets}
use Rattle.prelude.proofs.Stores.{copied_all}
use Rattle.utf8.specs.declared.encoding.Few.{Few}
use Rattle.utf8.specs.Utf8.{few_of}

module _ (f : Few) (out : List ℕ) (o m : ℕ) (h : f.count ≤ 4) (l : m ≤ f.count) (g : f.count ≤ length out - o → m ≡ f.count) (k : length out - o ≤ f.count → m ≡ length out - o) where
  abbrev bytes : List ℕ
  bytes = f.a ∷ f.b ∷ f.c ∷ f.d ∷ []

  first : (n : ℕ) → m ≡ n → sets out o (take n bytes) ≡ sets out o (few_of f)
  first n e = ap (λ (i : ℕ). sets out o (take i bytes)) (sym e) ∙ copied_all bytes out o m f.count h l g k

  second : o + 1 ≡ suc o
  second = omega arith

  third : o + 2 ≡ suc (suc o)
  third = omega arith

  fourth : o + 3 ≡ suc (suc (suc o))
  fourth = omega arith

  pub stored_none : m ≡ 0 → out ≡ sets out o (few_of f)
  stored_none e = first 0 e

  pub stored_one : m ≡ 1 → set out o f.a ≡ sets out o (few_of f)
  stored_one e = first 1 e

  pub stored_two : m ≡ 2 → set (set out o f.a) (o + 1) f.b ≡ sets out o (few_of f)
  stored_two e = rw second (first 2 e)

  pub stored_three : m ≡ 3 → set (set (set out o f.a) (o + 1) f.b) (o + 2) f.c ≡ sets out o (few_of f)
  stored_three e = rw (second, third) (first 3 e)

  pub stored_four : m ≡ 4 → set (set (set (set out o f.a) (o + 1) f.b) (o + 2) f.c) (o + 3) f.d ≡ sets out o (few_of f)
  stored_four e = rw (second, third, fourth) (first 4 e)
