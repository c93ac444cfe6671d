-- The room of the nodes is summed up one by one; a fit table's text finds place in it.
-- Assumes nothing.
use Prim.Native.Nat.{ℕ, suc, ◌+◌, ◌-◌, ◌*◌, ◌/◌, ◌≤◌, ◌<◌}
use mathlib.Core.Bool.{true}
use mathlib.Core.List.{List}
use mathlib.Core.Path.{◌≡◌, refl, sym, ap, ◌∙◌}
use native.Mathlib.Nat.{zero-add}
use native.Mathlib.Omega.{arith}
use borrow.Author.Tests.{lt-ltb, le-ltb, le-leb, lt-leb}
use lib.ListN.{length, drop}
use Rattle.prelude.proofs.Picks.{pick_true, pick_false}
use Rattle.json8.specs.Nodes.{Node}
use Rattle.trees.specs.Trees.{Tree}
use Rattle.trees.specs.Tables.{Maybe, just, nothing, nodes_in, count_at, tree_of}
use Rattle.trees.specs.Rooms.{bytes_held, room_of}
use Rattle.trees.proofs.Rooms.{tree_room}
use Rattle.json8_fit.specs.Fitness.{is_fit}
use Rattle.json8_fit.specs.inner.Steps.{node_at}
use Rattle.json8_write.specs.inner.Texts.{tree_text}
use Rattle.json8_fit.proofs.TableNodes.{node_there}
use Rattle.json8_fit.proofs.Choices.{false_true}

-- the bytes of a node, by its kind
module _ (v : Node) where
  pub held_word : v.kind < 3 → 0 ≡ bytes_held v
  unfolding bytes_held
  held_word h = sym (pick_true _ _ _ (lt-ltb v.kind 3 h))

  module _ (h : 3 ≤ v.kind) where
    pub held_size : v.kind ≤ 6 → v.size ≡ bytes_held v
    unfolding bytes_held
    held_size g = sym (pick_false _ _ _ (le-ltb v.kind 3 h) ∙ pick_true _ _ _ (le-leb v.kind 6 g))

    pub held_none : 6 < v.kind → 0 ≡ bytes_held v
    unfolding bytes_held
    held_none g = sym (pick_false _ _ _ (le-ltb v.kind 3 h) ∙ pick_false _ _ _ (lt-leb v.kind 6 g))

-- the loop's invariant: the room of the nodes before i, and that of the others
pub record Summed (table : List ℕ) (n i room : ℕ) : Type 0 where
  pub inside : i ≤ n
  pub same : room + room_of (n - i) (drop i (nodes_in table)) ≡ room_of n (nodes_in table)
  pub small : room ≤ i * 25769803782

pub begun : (table : List ℕ) (n : ℕ) → Summed table n 0 0
begun table n = record { inside = omega arith; same = zero-add _ ∙ ap (λ (k : ℕ). room_of k (nodes_in table)) (let e : n - 0 ≡ n = omega arith in e); small = omega arith }

module _ (table : List ℕ) (n i room : ℕ) (s : Summed table n i room) where
  pub summed : {b : ℕ} → n ≤ length table / 4 → i < n → b ≡ bytes_held (node_at i table) → b < 4294967296 → Summed table n (i + 1) (room + 6 * (1 + b))
  unfolding room_of
  summed {b} f h eb g =
      let e : n - i ≡ suc (n - (i + 1)) = omega arith in
      let k : room_of (n - i) (drop i (nodes_in table)) ≡ 6 * (1 + bytes_held (node_at i table)) + room_of (n - (i + 1)) (drop (i + 1) (nodes_in table)) =
      (λ j. room_of (e j) (node_there i table (omega arith) j)) in
      record { inside = omega arith; same = omega (arith, s.same, k, eb); small = omega (arith, s.small) }

  pub summed_all : n ≤ i → room ≡ room_of n (nodes_in table)
  unfolding room_of
  summed_all h =
      let e : n - i ≡ 0 = omega (arith, s.inside) in
      let k : room_of (n - i) (drop i (nodes_in table)) ≡ 0 = ap (λ (m : ℕ). room_of m (drop i (nodes_in table))) e in
      omega (arith, s.same, k)

-- a fit table's text is no longer
pub text_room : (table text store : List ℕ) {c n room : ℕ} → is_fit (tree_of (nodes_in table) text store) ≡ true → c ≡ count_at (drop 0 (nodes_in table)) → n ≡ room_of c (nodes_in table) → n ≤ room
    → length (tree_text (tree_of (nodes_in table) text store)) ≤ room
text_room table text store {c} {n} {room} f ec en h = go (tree_of (nodes_in table) text store) refl f
  where
    go : (x : Maybe Tree) → tree_of (nodes_in table) text store ≡ x → is_fit x ≡ true → length (tree_text x) ≤ room
    go nothing e g = false_true g
    go (just t) e g = omega (arith, tree_room text store (nodes_in table) t e, en, ap (λ (k : ℕ). room_of k (nodes_in table)) ec)
