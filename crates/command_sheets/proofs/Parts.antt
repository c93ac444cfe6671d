-- A part of a buffer, as far as it has one; a name or cell by its three numbers.
-- Assumes nothing.
use Prim.Native.Nat.{ℕ, ◌+◌, ◌-◌, ◌≤◌, ◌<◌}
use mathlib.Core.Bool.{true, false}
use mathlib.Core.List.{List}
use mathlib.Core.Path.{◌≡◌, sym, ap, ap₂, ◌∙◌}
use native.Mathlib.Omega.{arith}
use borrow.Author.Tests.{leb-true, leb-false, eq-eqb, ne_eqb}
use lib.Dec.{leb, ltb, eqb}
use lib.ListN.{length, get_or, take, drop, length-drop, drop_of_length-le}
use lib.Seq.{take_all}
use Rattle.prelude.proofs.Cases.{split}
use Rattle.prelude.proofs.Picks.{pick_true, pick_false}
use Rattle.tsv8_claims.specs.Claims.{shown}
use Rattle.command_sheets.specs.Lines.{is_string}
use Rattle.command_sheets.specs.inner.Tables.{cell_from}

-- the lesser of two numbers
abbrev Least : ℕ → ℕ → ℕ → Type 0
Least a b r = (r ≤ a) × (r ≤ b) × (a ≤ b → r ≡ a) × (b ≤ a → r ≡ b)

module _ (buf : List ℕ) (place size : ℕ) {from n : ℕ} (f : Least place (length buf) from) (g : Least size (length buf - from) n) where
  outside : length buf < place → take n (drop from buf) ≡ take size (drop place buf)
  outside h =
      let e : from ≡ length buf = f.3 (omega arith) in
      let a : drop from buf ≡ drop place buf = drop_of_length-le buf (let z : length buf ≤ from = omega arith in z) ∙ sym (drop_of_length-le buf (let z : length buf ≤ place = omega arith in z)) in
      ap (take n) a ∙ take_all n (drop place buf) (omega (arith, length-drop place buf)) ∙ sym (take_all size (drop place buf) (omega (arith, length-drop place buf)))

  inside : from ≡ place → take n (drop from buf) ≡ take size (drop place buf)
  inside e =
      split (leb size (length buf - from))
      (λ h. ap (λ (k : ℕ). take k (drop from buf)) (g.2 (leb-true _ _ h)) ∙ ap (λ (k : ℕ). take size (drop k buf)) e)
      (λ h.
      let l : length buf - from < size = leb-false size (length buf - from) h in
      let m : n ≡ length buf - from = g.3 (omega arith) in
      take_all n (drop from buf) (omega (arith, m, length-drop from buf)) ∙ ap (λ (k : ℕ). drop k buf) e
      ∙ sym (take_all size (drop place buf) (omega (arith, e, length-drop place buf))))

  part_clipped : take n (drop from buf) ≡ take size (drop place buf)
  part_clipped =
      split (leb place (length buf))
      (λ h. inside (f.2 (leb-true _ _ h)))
      (λ h. outside (leb-false place (length buf) h))

  pub part_is : take (from + n - from) (drop from buf) ≡ take size (drop place buf)
  part_is = ap (λ (k : ℕ). take k (drop from buf)) (let z : from + n - from ≡ n = omega arith in z) ∙ part_clipped

-- the bytes of a name or cell, by the numbers that were read
module _ (text store table : List ℕ) (at : ℕ) {kind place size : ℕ} {w : List ℕ} (k : kind ≡ get_or table at 0) (p : place ≡ get_or table (at + 1) 0) (n : size ≡ get_or table (at + 2) 0) where
  pub from_store : kind ≡ 6 → w ≡ take size (drop place store) → w ≡ shown text store (cell_from table at)
  from_store e f =
      f ∙ ap₂ (λ (a b : ℕ). take a (drop b store)) n p ∙ sym (pick_true _ _ _ (let z : eqb (get_or table at 0) 6 ≡ true = eq-eqb (get_or table at 0) 6 (sym k ∙ e) in z))

  pub from_text : (kind ≡ 6 → ⊥) → w ≡ take size (drop place text) → w ≡ shown text store (cell_from table at)
  from_text e f =
      f ∙ ap₂ (λ (a b : ℕ). take a (drop b text)) n p ∙ sym (pick_false _ _ _ (let z : eqb (get_or table at 0) 6 ≡ false = ne_eqb (get_or table at 0) 6 (λ q. e (k ∙ q)) in z))

pub string_there : (table : List ℕ) (at : ℕ) {kind : ℕ} → kind ≡ get_or table at 0 → ltb 4 kind ≡ is_string (cell_from table at)
unfolding is_string
string_there table at k = ap (ltb 4) k
