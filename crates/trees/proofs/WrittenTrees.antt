-- A tree's text is read to nodes that mean the tree, at any place of a text and with anything behind it that goes on neither a word nor a
-- number: by induction on the tree.
-- Assumes nothing.
use Prim.Native.Nat.{ℕ, zero, suc, ◌+◌, ◌≤◌, ◌<◌}
use mathlib.Core.Bool.{true, false}
use mathlib.Core.List.{List, [], ◌∷◌, ◌++◌}
use mathlib.Core.Path.{◌≡◌, refl, ◌∙◌}
use native.Mathlib.Omega.{arith}
use lib.ListN.{length, drop}
use Rattle.prelude.specs.Pick.{pick}
use Rattle.notation.specs.Marks.{opening}
use Rattle.tokens.specs.Blanks.{is_space}
use Rattle.tokens.specs.Words.{is_letter}
use Rattle.tokens.specs.Starts.{start_of}
use Rattle.json8.specs.declared.nodes.Sort.{Sort}
use Rattle.json8.specs.declared.nodes.Sort.TheVariants.{Items, Pairs}
use Rattle.json8.specs.Nodes.{node}
use Rattle.prelude.specs.Limits.{node_max}
use Rattle.json8.specs.Values.{value_of, group_kind, close_of, member_of, members, group_node as branched, group_of, group, value}
use Rattle.json8.proofs.Limited.{limited_free}
use Rattle.trees.specs.Trees.{Tree, null, bool, number as numberTree, string as stringTree, branch, Members, none, one, open_of, render, render_members}
use Rattle.trees.specs.Sound.{SoundTo, SoundMembers}
use Rattle.trees.specs.Sizes.{size_of, sizes_of, store_of}
use Rattle.trees.specs.Claims.{Stops}
use Rattle.trees.proofs.Firsts.{solid, begins, Heads}
use Rattle.trees.proofs.Meanings.{branch_meant}
use Rattle.trees.proofs.WrittenTokens.{written_begins, number_heads, behind, Back, words, number_back, string_back}
use Rattle.trees.proofs.WrittenMembers.{RowBack, none_back, one_back}

pub tree_heads : (d : ℕ) (t : Tree) → SoundTo d t → Heads (render t)
unfolding render SoundTo begins solid is_space pick
tree_heads d null s = refl
tree_heads d (bool true) s = refl
tree_heads d (bool false) s = refl
tree_heads d (numberTree w) s = number_heads w s
tree_heads d (stringTree bs) s = (written_begins bs []).1
tree_heads d (branch Items ms) s = refl
tree_heads d (branch Pairs ms) s = refl

opened_read : (b : Sort) (d p n m : ℕ) (s : List ℕ) → n < node_max
    → value (suc d) p n m (open_of b ∷ s) ≡ branched (group_kind b) p (members (close_of b) (member_of b (value d)) (p + 1) (n + 1) m 0 s)
unfolding value_of start_of opening is_letter group group_of pick
opened_read Items d p n m s h = limited_free (group_of Items (value d)) p n m (0x5b ∷ s) h
opened_read Pairs d p n m s h = limited_free (group_of Pairs (value d)) p n m (0x7b ∷ s) h

module _ (text : List ℕ) where
  branch_back : (b : Sort) (d p n m : ℕ) (ms : Members b) (s : List ℕ) → drop p text ≡ open_of b ∷ s → n < node_max → RowBack text b d ms (p + 1) (n + 1) m
      → Back text (suc d) (branch b ms) p n m
  unfolding render store_of
  branch_back b d p n m ms s e h v =
      record {
        nodes = node (group_kind b) (suc (length v.nodes)) p v.count ∷ v.nodes;
        bytes = v.bytes;
        read = rw e (opened_read b d p n m s h ∙ rw (← behind text p (open_of b ∷ []) s e, v.read));
        meant = branch_meant text b d m p v.count v.nodes v.bytes ms v.meant;
        kept = v.kept;
      }

  mutual
    unfolding render render_members SoundTo SoundMembers size_of sizes_of

    pub tree_back : (t : Tree) (d p n m : ℕ) (r : List ℕ) → drop p text ≡ render t ++ r → SoundTo d t → Stops r → n + size_of t ≤ node_max → Back text d t p n m
    tree_back null d p n m r e s f h = (words text d p n m r (omega arith) f).0 e
    tree_back (bool false) d p n m r e s f h = (words text d p n m r (omega arith) f).1 e
    tree_back (bool true) d p n m r e s f h = (words text d p n m r (omega arith) f).2 e
    tree_back (numberTree w) d p n m r e s f h = number_back text d p n m w r e (omega arith) f s
    tree_back (stringTree bs) d p n m r e s f h = string_back text d p n m bs r e (omega arith) s
    tree_back (branch b ms) zero p n m r e s f h = absurd s
    tree_back (branch b ms) (suc d) p n m r e s f h =
        branch_back b d p n m ms (render_members true ms ++ r) e (omega arith)
        (row_back ms d (p + 1) (n + 1) m r (behind text p (open_of b ∷ []) (render_members true ms ++ r) e) s (omega arith))

    row_back : {b : Sort} (ms : Members b) (d p n m : ℕ) (r : List ℕ) → drop p text ≡ render_members true ms ++ r → SoundMembers d ms → n + sizes_of ms ≤ node_max → RowBack text b d ms p n m
    row_back {b} none d p n m r e s h = none_back text b d p n m r e
    row_back {b} (one k t ms) d p n m r e s h =
        one_back text b d p n m k t ms r e s.0 (tree_heads d t s.1) h (λ y f p n m e g. tree_back t d p n m y e s.1 f g)
        (λ p n m e g. row_back ms d p n m r e s.2 g)
