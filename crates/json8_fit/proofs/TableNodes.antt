-- The nodes of a table by their numbers: node i is made of the four numbers from 4 i on, and behind the last whole one stands nothing.
-- Assumes nothing.
use Prim.Native.Nat.{ℕ, zero, suc, ◌+◌, ◌*◌, ◌/◌, ◌≤◌, ◌<◌}
use mathlib.Core.List.{List, [], ◌∷◌}
use mathlib.Core.Path.{◌≡◌, refl, sym, ap, ◌∙◌}
use native.Mathlib.Omega.{arith}
use lib.ListN.{length, get_or, drop, drop_of_length-le, length-drop}
use lib.Seq.{drop-cons, drop-drop}
use Rattle.json8.specs.declared.nodes.Sort.{Sort}
use Rattle.json8.specs.Nodes.{Node}
use Rattle.prelude.specs.Limits.{node_max}
use Rattle.trees.specs.Tables.{nodes_in, count_at, label_size, member_size}
use Rattle.json8_fit.specs.inner.Steps.{node_at}

four_on : (i : ℕ) → 4 * suc i ≡ suc (suc (suc (suc (4 * i))))
four_on i = omega arith

-- fewer than four numbers are no node
few : (t : List ℕ) → length t < 4 → nodes_in t ≡ []
unfolding nodes_in
few [] h = refl
few (a ∷ []) h = refl
few (a ∷ b ∷ []) h = refl
few (a ∷ b ∷ c ∷ []) h = refl
few (a ∷ b ∷ c ∷ d ∷ r) h = absurd (omega arith)

pub nodes_length : (t : List ℕ) → length (nodes_in t) ≡ length t / 4
unfolding nodes_in
nodes_length [] = refl
nodes_length (a ∷ []) = refl
nodes_length (a ∷ b ∷ []) = refl
nodes_length (a ∷ b ∷ c ∷ []) = refl
nodes_length (a ∷ b ∷ c ∷ d ∷ r) = let h : length (nodes_in r) ≡ length r / 4 = nodes_length r in omega arith

-- so many nodes on is four times so many numbers on
nodes_on : (i : ℕ) (t : List ℕ) → drop i (nodes_in t) ≡ nodes_in (drop (4 * i) t)
unfolding nodes_in
nodes_on zero t = refl
nodes_on (suc i) [] = ap nodes_in (sym (drop_of_length-le [] {i = 4 * suc i} (omega arith)))
nodes_on (suc i) (a ∷ []) = ap nodes_in (sym (drop_of_length-le (a ∷ []) {i = 4 * suc i} (omega arith)))
nodes_on (suc i) (a ∷ b ∷ []) = ap nodes_in (sym (drop_of_length-le (a ∷ b ∷ []) {i = 4 * suc i} (omega arith)))
nodes_on (suc i) (a ∷ b ∷ c ∷ []) = ap nodes_in (sym (drop_of_length-le (a ∷ b ∷ c ∷ []) {i = 4 * suc i} (omega arith)))
nodes_on (suc i) (a ∷ b ∷ c ∷ d ∷ r) = rw (four_on i) (nodes_on i r)

module _ (i : ℕ) (t : List ℕ) where
  pub none_there : length t / 4 ≤ i → drop i (nodes_in t) ≡ []
  none_there h = nodes_on i t ∙ few (drop (4 * i) t) (omega (arith, length-drop (4 * i) t))

  four_numbers : i < length t / 4
      → drop (4 * i) t ≡ get_or t (4 * i) 0 ∷ get_or t (4 * i + 1) 0 ∷ get_or t (4 * i + 2) 0 ∷ get_or t (4 * i + 3) 0 ∷ drop (4 * (i + 1)) t
  four_numbers h =
      let a : suc (4 * i) ≡ 4 * i + 1 = omega arith in
      let b : suc (4 * i + 1) ≡ 4 * i + 2 = omega arith in
      let c : suc (4 * i + 2) ≡ 4 * i + 3 = omega arith in
      let d : suc (4 * i + 3) ≡ 4 * (i + 1) = omega arith in
      let e : drop (4 * i) t ≡ get_or t (4 * i) 0 ∷ drop (suc (4 * i)) t = drop-cons t (4 * i) 0 (omega arith) in
      let f : drop (suc (4 * i)) t ≡ get_or t (4 * i + 1) 0 ∷ drop (suc (4 * i + 1)) t = rw a (drop-cons t (4 * i + 1) 0 (omega arith)) in
      let g : drop (suc (4 * i + 1)) t ≡ get_or t (4 * i + 2) 0 ∷ drop (suc (4 * i + 2)) t = rw b (drop-cons t (4 * i + 2) 0 (omega arith)) in
      let k : drop (suc (4 * i + 2)) t ≡ get_or t (4 * i + 3) 0 ∷ drop (suc (4 * i + 3)) t = rw c (drop-cons t (4 * i + 3) 0 (omega arith)) in
      rw (e, f, g, k, d) refl

  pub node_there : i < length t / 4 → drop i (nodes_in t) ≡ node_at i t ∷ drop (i + 1) (nodes_in t)
  unfolding nodes_in
  node_there h = nodes_on i t ∙ ap nodes_in (four_numbers h) ∙ ap (λ (x : List Node). node_at i t ∷ x) (sym (nodes_on (i + 1) t))

  -- the count of a node, and none behind the last
  pub count_there : i < length t / 4 → count_at (drop i (nodes_in t)) ≡ get_or t (4 * i + 1) 0
  count_there h = rw (node_there h)

  pub no_count : length t / 4 ≤ i → count_at (drop i (nodes_in t)) ≡ 0
  no_count h = rw (none_there h)

-- what stands behind a member's key, if it has one
pub behind_label : (b : Sort) (table : List ℕ) (at k : ℕ) → k ≡ label_size b → drop (label_size b) (drop at (nodes_in table)) ≡ drop (at + k) (nodes_in table)
behind_label b table at k e = drop-drop (label_size b) at (nodes_in table) ∙ ap (λ (j : ℕ). drop (at + j) (nodes_in table)) (sym e)

-- the nodes of a member, with its key's
pub member_is : (b : Sort) (table : List ℕ) (at k c : ℕ) → k ≡ label_size b → c ≡ count_at (drop (at + k) (nodes_in table))
    → k + c ≡ member_size b (drop at (nodes_in table))
member_is b table at k c e f =
    let g : c ≡ count_at (drop (label_size b) (drop at (nodes_in table))) = f ∙ ap count_at (sym (behind_label b table at k e)) in
    λ i. e i + g i

-- a member in its nodes leaves room for its value
pub value_room : (b : Sort) (table : List ℕ) (at k : ℕ) → k ≡ label_size b → at + member_size b (drop at (nodes_in table)) ≤ node_max
    → at + k + count_at (drop (at + k) (nodes_in table)) ≤ node_max
value_room b table at k e h = omega (arith, member_is b table at k (count_at (drop (at + k) (nodes_in table))) e refl)
