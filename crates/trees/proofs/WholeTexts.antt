-- Whole texts: what is read of one fits the table and the store, so that they mean the tree that the nodes mean, whatever they held before;
-- a tree's own text is read so, and a tree read from a value's text is the only one that has it.
-- Assumes nothing.
use Prim.Native.Nat.{ℕ, ◌+◌, ◌/◌, ◌≤◌}
use mathlib.Core.List.{List, [], ◌∷◌, ◌++◌, append-nil}
use mathlib.Core.Path.{◌≡◌, refl, sym, ap, ◌∙◌}
use native.Mathlib.Omega.{arith}
use lib.ListN.{length, drop, length-append}
use lib.Seq.{take-append_seam}
use lib.Dec.{ltb}
use borrow.Author.Tests.{le-ltb, ltb-false, le-leb}
use Rattle.prelude.specs.Pick.{pick}
use Rattle.prelude.proofs.Cases.{split, never}
use Rattle.prelude.specs.Bytes.{IsBytes}
use Rattle.prelude.specs.Limits.{text_max, node_max, depth_max}
use Rattle.tokens.specs.Blanks.{blanks_from}
use Rattle.json8.specs.Nodes.{Node, Read, got, refused, seq, flat}
use Rattle.json8.specs.Leaves.{spaces}
use Rattle.json8.specs.Values.{value}
use Rattle.json8.specs.Read.{text_end, read_all, fitted, read_of, done, parsed_of}
use Rattle.json8.proofs.Claims.{tables_fit}
use Rattle.trees.specs.Trees.{Tree, render}
use Rattle.trees.specs.Tables.{just, nodes_in, tree_of}
use Rattle.trees.specs.Sound.{Sound}
use Rattle.trees.specs.Sizes.{size_of, store_of, stored_bytes}
use Rattle.trees.specs.Claims.{tree_in, text_tree, ReadAs, WrittenAs, Stops, FrontRead}
use Rattle.trees.proofs.Fitting.{tree_sound}
use Rattle.trees.proofs.Meanings.{Meant}
use Rattle.trees.proofs.Firsts.{heads_firm, seq_firm}
use Rattle.trees.proofs.WrittenTokens.{behind, seq_both}
use Rattle.trees.proofs.WrittenTrees.{tree_heads, tree_back}
use Rattle.trees.proofs.ReadTrees.{Holds, Trees, all_meant}

flat_back : (ns : List Node) (r : List ℕ) → nodes_in (flat ns ++ r) ≡ ns ++ nodes_in r
unfolding nodes_in flat
flat_back [] r = refl
flat_back (v ∷ ns) r = ap (λ (z : List Node). v ∷ z) (flat_back ns r)

module _ (s : List ℕ) (ns : List Node) (bs : List ℕ) (t : Tree) (v : Meant s depth_max 0 ns bs t) (few : length ns ≤ node_max) where
  tree_in_lem : (after : List Node) (rest : List ℕ) → tree_of (ns ++ after) s (bs ++ rest) ≡ just t
  unfolding tree_of pick
  tree_in_lem after rest =
      rw (v.count after, le-leb (length ns) node_max few, le-leb (length ns) (length (ns ++ after)) (omega (arith, length-append ns after)))
      (v.means (bs ++ rest) (record { rest = rest; inside = omega arith; same = refl }) after)

  tree_is : tree_of ns s bs ≡ just t
  tree_is = rw (append-nil ns, append-nil bs) at (tree_in_lem [] [])

-- a text that is read to nodes of this meaning
pub record Known (s : List ℕ) (t : Tree) : Type 0 where
  pub len : ℕ
  pub tag : ℕ
  pub nodes : List Node
  pub bytes : List ℕ
  pub read : read_all s ≡ got len tag nodes bytes
  pub meant : Meant s depth_max 0 nodes bytes t

module _ (s : List ℕ) (t : Tree) (k : Known s t) where
  fits : (length k.nodes ≤ node_max) × (length k.bytes ≤ length s)
  fits = tables_fit s k.len k.tag k.nodes k.bytes k.read

  pub known_tree : text_tree s ≡ just t
  known_tree = rw k.read (tree_is s k.nodes k.bytes t k.meant fits.0)

  unfoldable known_read : (table store : List ℕ) → length s ≤ text_max → length k.nodes ≤ length table / 4 → length k.bytes ≤ length store → ReadAs t s table store
  unfolding read_of pick
  known_read table store h i j =
      let e : read_of (length table / 4) (length store) s ≡ got k.len k.tag k.nodes k.bytes =
      rw (le-ltb text_max (length s) h, k.read, le-ltb (length table / 4) (length k.nodes) i, le-ltb (length store) (length k.bytes) j) in
      record {
        bytes = length k.bytes;
        accepted = rw (← k.meant.size, e);
        stored =
            rw (← k.meant.size, e, flat_back k.nodes, take-append_seam k.nodes (nodes_in (drop (length (flat k.nodes)) table)))
            k.meant.stored;
        means = rw (e, flat_back k.nodes) (tree_in_lem s k.nodes k.bytes t k.meant fits.0 (nodes_in (drop (length (flat k.nodes)) table)) (drop (length k.bytes) store));
      }

  known_bytes : (table store : List ℕ) (h : length s ≤ text_max) (i : length k.nodes ≤ length table / 4) (j : length k.bytes ≤ length store)
      → (known_read table store h i j).bytes ≡ length k.bytes
  unfolding known_read
  known_bytes table store h i j = refl

-- a tree's own text
end_read : (p n m : ℕ) (s : List ℕ) → s ≡ [] → seq spaces text_end p n m s ≡ got 0 0 [] []
unfolding seq spaces blanks_from text_end
end_read p n m s e = rw e

-- with the bytes that its strings have in the store
pub record KnownWritten (t : Tree) : Type 0 where
  pub known : Known (render t) t
  pub kept : length known.bytes ≡ store_of t

pub written_known : (t : Tree) → Sound t → KnownWritten t
unfolding read_all
written_known t s =
    let v = tree_back (render t) t depth_max 0 0 0 [] (sym (append-nil (render t))) s.legal tt (omega (arith, s.few)) in
    let e = seq_both (render t) (value depth_max) (seq spaces text_end) 0 0 0 (length (render t)) 0 v.nodes v.bytes 0 0 [] [] v.read
    (end_read _ _ _ (drop (0 + length (render t)) (render t)) (behind (render t) 0 (render t) [] (sym (append-nil (render t))))) in
    record {
      known =
          record {
            len = length (render t) + 0;
            tag = 0;
            nodes = v.nodes;
            bytes = v.bytes;
            read =
                seq_firm (seq (value depth_max) (seq spaces text_end)) 0 0 0 (render t) (heads_firm (render t) (tree_heads depth_max t s.legal))
                ∙ (rw (append-nil v.nodes, append-nil v.bytes) at e);
            meant = v.meant;
          };
      kept = v.kept;
    }

pub written_read : (t : Tree) → Sound t → length (render t) ≤ text_max → (table store : List ℕ) → size_of t ≤ length table / 4 → store_of t ≤ length store
    → WrittenAs t table store
written_read t s h table store i j =
    let k = written_known t s in
    let few : length k.known.nodes ≤ length table / 4 = omega (arith, k.known.meant.size) in
    let less : length k.known.bytes ≤ length store = omega (arith, k.kept) in
    record {
      read = known_read (render t) t k.known table store h few less;
      bytes = known_bytes (render t) t k.known table store h few less ∙ k.kept;
    }

pub front_read : (t : Tree) (r : List ℕ) → Sound t → Stops r → FrontRead t (render t ++ r)
front_read t r s h =
    let v = tree_back (render t ++ r) t depth_max 0 0 0 r refl s.legal h (omega (arith, s.few)) in
    record {
      nodes = v.nodes;
      bytes = v.bytes;
      read = v.read;
      means = tree_is (render t ++ r) v.nodes v.bytes t v.meant (omega (arith, v.meant.size, s.few));
    }

-- one text, one reading, one tree
same_tree : (t u : Tree) (a b : List ℕ) → a ≡ b → FrontRead t a → FrontRead u b → t ≡ u
same_tree t u a b e x y =
    let r : got (length (render t)) 0 x.nodes x.bytes ≡ got (length (render u)) 0 y.nodes y.bytes =
    sym x.read ∙ ap (value depth_max 0 0 0) e ∙ y.read in
    let n : x.nodes ≡ y.nodes = cc in
    let c : x.bytes ≡ y.bytes = cc in
    let j : tree_of x.nodes a x.bytes ≡ tree_of y.nodes b y.bytes = rw (n, c, e) in
    cc

pub render_one : (t u : Tree) → Sound t → Sound u → render t ≡ render u → t ≡ u
render_one t u a b e = same_tree t u (render t ++ []) (render u ++ []) (ap (λ (z : List ℕ). z ++ []) e) (front_read t [] a tt) (front_read u [] b tt)

-- an accepted text
module _ (s : List ℕ) where
  pub read_nests : (l tag : ℕ) (ns : List Node) (bs : List ℕ) → read_all s ≡ got l tag ns bs
      → (t : Tree) × (tree_of ns s bs ≡ just t) × (length ns ≡ size_of t) × (length bs ≡ stored_bytes ns)
  read_nests l tag ns bs e =
      let f : Holds s (Trees s depth_max) 0 (got l tag ns bs) = rw e at (all_meant s) in
      (f.2.0, tree_is s ns bs f.2.0 f.2.1 (tables_fit s l tag ns bs e).0, f.2.1.size, f.2.1.stored)

  fit_read : (table store : List ℕ) (n m : ℕ) (r : Read) → length s ≤ text_max → read_all s ≡ r → Holds s (Trees s depth_max) 0 r
      → parsed_of (fitted (length table / 4) (length store) r) ≡ done n m → (t : Tree) × (text_tree s ≡ just t) × ReadAs t s table store
  unfolding pick
  fit_read table store n m (refused refusal at) h e f g = never (cc)
  fit_read table store n m (got l tag ns bs) h e (z, y, (t, v)) g =
      let k : Known s t = record { len = l; tag = tag; nodes = ns; bytes = bs; read = e; meant = v } in
      split (ltb (length table / 4) (length ns)) (λ a. never (let o = rw a at g in cc))
      (λ a. split (ltb (length store) (length bs)) (λ b. never (let o = rw (a, b) at g in cc))
      (λ b. (t, known_tree s t k, known_read s t k table store h (ltb-false _ _ a) (ltb-false _ _ b))))

  pub read_fit : (table store : List ℕ) (n m : ℕ) → parsed_of (read_of (length table / 4) (length store) s) ≡ done n m
      → (t : Tree) × (text_tree s ≡ just t) × ReadAs t s table store
  unfolding read_of pick
  read_fit table store n m g =
      split (ltb text_max (length s)) (λ a. never (let o = rw a at g in cc))
      (λ a. fit_read table store n m (read_all s) (ltb-false _ _ a) refl (all_meant s) (rw a at g))

  pub text_sound : (t : Tree) → IsBytes s → text_tree s ≡ just t → Sound t
  text_sound t b e = go (read_all s) (all_meant s) e
    where
      go : (r : Read) → Holds s (Trees s depth_max) 0 r → tree_in s r ≡ just t → Sound t
      go (got l tag ns bs) f e = tree_sound s bs b (f.1 b) ns t e
      go (refused refusal at) f e = never (cc)
