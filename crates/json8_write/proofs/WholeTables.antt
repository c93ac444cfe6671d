-- A whole table: its text is that of its root, and what is written of it is that text, in a room.
-- Assumes nothing.
use Prim.Native.Nat.{ℕ, ◌+◌, ◌≤◌}
use mathlib.Core.Bool.{true, false}
use mathlib.Core.List.{List}
use mathlib.Core.Path.{◌≡◌, refl, sym, ap, ◌∙◌}
use native.Mathlib.Omega.{arith}
use lib.ListN.{length, drop}
use Rattle.prelude.proofs.Cases.{never}
use Rattle.rooms.specs.inner.Puts.{Put}
use Rattle.rooms.proofs.Puts.{put_as}
use Rattle.rooms.proofs.Passes.{Whole}
use Rattle.json8.specs.declared.nodes.Sort.TheVariants.{Items}
use Rattle.prelude.specs.Limits.{node_max, depth_max}
use Rattle.trees.specs.Trees.{Tree}
use Rattle.trees.specs.Tables.{Maybe, just, nothing, nodes_in, count_at, tree_of}
use Rattle.json8_fit.specs.Fitness.{is_fit}
use Rattle.json8_fit.specs.inner.Steps.{within}
use Rattle.json8_fit.proofs.Choices.{false_true}
use Rattle.json8_fit.proofs.Roots.{root_count, root_is}
use Rattle.std.specs.Prelude.{Result, Ok, Err}
use Rattle.prelude.specs.declared.refusals.Refusal.{Refusal}
use Rattle.prelude.specs.Refusals.{unfit, no_room}
use Rattle.json8_write.specs.Write.{wrote_tree, tree_into}
use Rattle.json8_write.specs.inner.Texts.{tree_text, body_text}
use Rattle.json8_write.proofs.GroupTexts.{root_within, root_text}

-- a table that is fit is its root, the one member of its nodes
module _ (table text store : List ℕ) (f : is_fit (tree_of (nodes_in table) text store) ≡ true) {c : ℕ} (ec : c ≡ count_at (drop 0 (nodes_in table))) where
  pub root_fit : (0 + c ≤ node_max) × (is_fit (within Items table text store depth_max 1 c 0) ≡ true)
  root_fit = (omega (arith, (root_count table text store f ec).0), root_within table text store depth_max c ec (sym (ap is_fit (root_is table text store f)) ∙ f))

  pub root_put : {room o r : ℕ} {out new : List ℕ} → Put (body_text true (within Items table text store depth_max 1 c 0)) room o r out new
      → Put (tree_text (tree_of (nodes_in table) text store)) room o r out new
  root_put w =
      let e = root_is table text store f in
      put_as (ap tree_text e ∙ sym (root_text table text store depth_max c ec (sym (ap is_fit e) ∙ f))) w

-- what writing answers and leaves
abbrev WroteIt : Maybe Tree → List ℕ → Result ℕ Refusal → List ℕ → Type 0
WroteIt x out r new = (r ≡ wrote_tree (length out) x) × (new ≡ tree_into x out)

pub wrote_unfit : (x : Maybe Tree) (out : List ℕ) → is_fit x ≡ false → WroteIt x out (Err unfit) out
wrote_unfit (just t) out e = never (let z : true ≡ false = e in cc)
wrote_unfit nothing out e = (refl, refl)

pub wrote_fit : (x : Maybe Tree) (out : List ℕ) {r : Result ℕ Refusal} {new : List ℕ} → is_fit x ≡ true → Whole Ok (Err no_room) (tree_text x) out r new → WroteIt x out r new
wrote_fit (just t) out e w = w
wrote_fit nothing out e w = false_true e
