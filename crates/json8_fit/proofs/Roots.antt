-- A whole table is its root: the root's count is judged first, and then the root as the one member of its nodes.
-- Assumes nothing.
use Prim.Native.Nat.{ℕ, ◌/◌, ◌≤◌, ◌<◌}
use mathlib.Core.Bool.{Bool, true, false}
use mathlib.Core.List.{List}
use mathlib.Core.Path.{◌≡◌, sym, ap, ◌∙◌}
use native.Mathlib.Omega.{arith}
use borrow.Author.Tests.{le-leb, lt-leb, leb-true}
use lib.Dec.{leb}
use lib.ListN.{length, drop}
use Rattle.prelude.proofs.Picks.{pick_true, pick_false}
use Rattle.json8.specs.declared.nodes.Sort.TheVariants.{Items}
use Rattle.prelude.specs.Limits.{node_max, depth_max}
use Rattle.trees.specs.Trees.{Tree}
use Rattle.trees.specs.Tables.{Maybe, need, nodes_in, count_at, tree_at, tree_of}
use Rattle.json8_fit.specs.Fitness.{is_fit}
use Rattle.json8_fit.specs.inner.Steps.{within}
use Rattle.json8_fit.proofs.TableNodes.{nodes_length}
use Rattle.json8_fit.proofs.Choices.{fit_need}
use Rattle.json8_fit.proofs.Fitting.{root_member}

-- "1 to 1,024 nodes by the root's count, all inside the table"
module _ (table text store : List ℕ) (c : ℕ) (ec : c ≡ count_at (drop 0 (nodes_in table))) where
  abbrev whole : Maybe Tree
  whole = tree_of (nodes_in table) text store

  pub whole_many : node_max < c → false ≡ is_fit whole
  unfolding tree_of
  whole_many h = sym (ap is_fit (pick_false _ _ _ (lt-leb (count_at (nodes_in table)) node_max (omega (arith, ec)))))

  module _ (h : c ≤ node_max) where
    few : whole ≡ need (leb (count_at (nodes_in table)) (length (nodes_in table))) (tree_at depth_max text store (nodes_in table))
    unfolding tree_of
    few = pick_true _ _ _ (le-leb (count_at (nodes_in table)) node_max (omega (arith, ec)))

    pub whole_outside : length table / 4 < c → false ≡ is_fit whole
    whole_outside f =
        sym (ap is_fit (few ∙ pick_false _ _ _ (lt-leb (count_at (nodes_in table)) (length (nodes_in table)) (omega (arith, ec, nodes_length table)))))

    pub whole_value : {r : Bool} → c ≤ length table / 4 → r ≡ is_fit (within Items table text store depth_max 1 c 0) → r ≡ is_fit whole
    whole_value f e =
        e ∙ root_member table text store depth_max c ec
        ∙ sym (ap is_fit (few ∙ pick_true _ _ _ (le-leb (count_at (nodes_in table)) (length (nodes_in table)) (omega (arith, ec, nodes_length table)))))

-- a table that is fit
module _ (table text store : List ℕ) (f : is_fit (tree_of (nodes_in table) text store) ≡ true) where
  parts : (leb (count_at (nodes_in table)) node_max ≡ true) × (leb (count_at (nodes_in table)) (length (nodes_in table)) ≡ true)
  unfolding tree_of
  parts =
      let a = fit_need (leb (count_at (nodes_in table)) node_max) _ f in
      (a.0, (fit_need (leb (count_at (nodes_in table)) (length (nodes_in table))) (tree_at depth_max text store (nodes_in table)) a.1).0)

  pub root_count : {c : ℕ} → c ≡ count_at (drop 0 (nodes_in table)) → (c ≤ node_max) × (c ≤ length table / 4)
  root_count ec = (
    omega (arith, ec, leb-true (count_at (nodes_in table)) node_max parts.0),
    omega (arith, ec, nodes_length table, leb-true (count_at (nodes_in table)) (length (nodes_in table)) parts.1),
  )

  pub root_is : tree_of (nodes_in table) text store ≡ tree_at depth_max text store (drop 0 (nodes_in table))
  unfolding tree_of
  root_is = pick_true _ _ _ parts.0 ∙ pick_true _ _ _ parts.1
