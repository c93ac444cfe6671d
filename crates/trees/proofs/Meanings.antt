-- What nodes mean, with any nodes behind them and any bytes around theirs in the store: a leaf by its kind, members one after another, and
-- a bracket around them.
-- Assumes nothing.
use Prim.Native.Nat.{ℕ, suc, ◌+◌, ◌-◌, ◌≤◌, ◌<◌}
use native.Mathlib.Nat.{zero-add}
use mathlib.Core.List.{List, [], ◌∷◌, ◌++◌, append_assoc}
use mathlib.Core.Path.{◌≡◌, refl, sym, ap, ◌∙◌}
use native.Mathlib.Omega.{arith}
use lib.Dec.{eqb}
use lib.ListN.{length, drop, length-append}
use lib.Seq.{drop-append_seam}
use borrow.Author.Tests.{eq-eqb, ne_eqb, le-leb, lt-ltb}
use Rattle.prelude.specs.Pick.{pick}
use Rattle.prelude.proofs.Standing.{Stands, stands_left, stands_right}
use Rattle.json8.specs.declared.nodes.Sort.{Sort}
use Rattle.json8.specs.declared.nodes.Sort.TheVariants.{Items, Pairs}
use Rattle.json8.specs.Nodes.{Node, node}
use Rattle.json8.specs.Values.{group_kind}
use Rattle.trees.specs.Trees.{Label, Tree, string, branch, Members, none, one}
use Rattle.trees.specs.Tables.{just, count_at, string_of, scalar_of, label_size, label_at, member_size, members_at, tree_from, grouped, tree_at}
use Rattle.trees.specs.Sizes.{size_of, sizes_of, stored_bytes}

-- the bytes that nodes have in the store, one behind another
pub stored_append : (ns os : List Node) → stored_bytes (ns ++ os) ≡ stored_bytes ns + stored_bytes os
unfolding stored_bytes
stored_append [] os = sym (zero-add (stored_bytes os))
stored_append (v ∷ ns) os = let h = stored_append ns os in omega arith

abbrev pub leaf_bytes : Node → ℕ
leaf_bytes v = pick (eqb v.kind 6) v.size 0

pub unstored : (v : Node) → (v.kind ≡ 6 → ⊥) → 0 ≡ leaf_bytes v
unfolding pick
unstored v h = rw (ne_eqb v.kind 6 h)

module _ (text : List ℕ) where
  -- the nodes ns, behind m bytes of the store and with the bytes bs in it, mean a tree that has as many nodes
  pub record Meant (d m : ℕ) (ns : List Node) (bs : List ℕ) (t : Tree) : Type 0 where
    pub size : length ns ≡ size_of t
    pub stored : length bs ≡ stored_bytes ns
    pub count : (after : List Node) → count_at (ns ++ after) ≡ length ns
    pub means : (store : List ℕ) → Stands store m bs → (after : List Node) → tree_at d text store (ns ++ after) ≡ just t

  -- the node of a string, which may be a key
  pub record Spelt (m : ℕ) (v : Node) (bs w : List ℕ) : Type 0 where
    pub least : 5 ≤ v.kind
    pub most : v.kind ≤ 6
    pub alone : v.count ≡ 1
    pub stored : length bs ≡ leaf_bytes v
    pub means : (store : List ℕ) → Stands store m bs → string_of text store v ≡ just w

  pub record MemberMeant (b : Sort) (d m : ℕ) (ns : List Node) (bs : List ℕ) (k : Label b) (t : Tree) : Type 0 where
    pub size : length ns ≡ label_size b + size_of t
    pub stored : length bs ≡ stored_bytes ns
    pub count : (after : List Node) → member_size b (ns ++ after) ≡ length ns
    pub label : (store : List ℕ) → Stands store m bs → (after : List Node) → label_at b text store (ns ++ after) ≡ just k
    pub means : (store : List ℕ) → Stands store m bs → (after : List Node) → tree_at d text store (drop (label_size b) (ns ++ after)) ≡ just t

  pub record RowMeant (b : Sort) (d m c : ℕ) (ns : List Node) (bs : List ℕ) (ms : Members b) : Type 0 where
    pub size : length ns ≡ sizes_of ms
    pub stored : length bs ≡ stored_bytes ns
    pub means : (store : List ℕ) → Stands store m bs → (after : List Node)
        → members_at b (label_at b text store) (tree_at d text store) c (length ns) (ns ++ after) ≡ just ms

  -- a node without children
  pub leaf_meant : (d m : ℕ) (v : Node) (bs : List ℕ) (t : Tree) → v.kind ≤ 6 → v.count ≡ 1 → size_of t ≡ 1 → length bs ≡ leaf_bytes v
      → ((store : List ℕ) → Stands store m bs → scalar_of text store v ≡ just t) → Meant d m (v ∷ []) bs t
  unfolding tree_from stored_bytes pick
  leaf_meant d m v bs t k c z w f =
      record {
        size = sym z;
        stored = omega (arith, w);
        count = λ after. c;
        means =
            λ store a after. let p : (v.kind ≡ 7 → ⊥) = λ e. omega arith in
            let q : (v.kind ≡ 8 → ⊥) = λ e. omega arith in
            rw (ne_eqb v.kind 7 p, ne_eqb v.kind 8 q, eq-eqb v.count 1 c) (f store a);
      }

  pub string_meant : (d m : ℕ) (v : Node) (bs w : List ℕ) → Spelt m v bs w → Meant d m (v ∷ []) bs (string w)
  unfolding scalar_of size_of pick
  string_meant d m v bs w s =
      let i : (k : ℕ) → k < 5 → v.kind ≡ k → ⊥ = λ k h e. omega (arith, s.least) in
      leaf_meant d m v bs (string w) s.most s.alone refl s.stored
      (λ store a.
      rw (
        ne_eqb v.kind 0 (i 0 (omega arith)),
        ne_eqb v.kind 1 (i 1 (omega arith)),
        ne_eqb v.kind 2 (i 2 (omega arith)),
        ne_eqb v.kind 3 (i 3 (omega arith)),
        ne_eqb v.kind 4 (i 4 (omega arith)),
        s.means store a,
      ))

  -- members
  pub item_meant : (d m : ℕ) (ns : List Node) (bs : List ℕ) (t : Tree) → Meant d m ns bs t → MemberMeant Items d m ns bs tt t
  unfolding label_at
  item_meant d m ns bs t a =
      record {
        size = a.size ∙ sym (zero-add (size_of t));
        stored = a.stored;
        count = λ after. zero-add _ ∙ a.count after;
        label = λ store s after. refl;
        means = a.means;
      }

  pub pair_meant : (d m : ℕ) (v : Node) (bs w : List ℕ) (ns : List Node) (cs : List ℕ) (t : Tree) → Spelt m v bs w → Meant d (m + length bs) ns cs t
      → MemberMeant Pairs d m (v ∷ ns) (bs ++ cs) w t
  unfolding label_at stored_bytes pick
  pair_meant d m v bs w ns cs t s a =
      record {
        size = omega (arith, a.size);
        stored = omega (arith, length-append bs cs, s.stored, a.stored);
        count = λ after. omega (arith, a.count after);
        label = λ store x after. rw (eq-eqb v.count 1 s.alone) (s.means store (stands_left bs cs x));
        means = λ store x after. a.means store (stands_right bs cs x) after;
      }

  pub row_none : (b : Sort) (d m : ℕ) → RowMeant b d m 0 [] [] none
  unfolding members_at sizes_of stored_bytes pick
  row_none b d m = record { size = refl; stored = refl; means = λ store a after. refl }

  pub row_next : (b : Sort) (d m c : ℕ) (ns : List Node) (bs : List ℕ) (k : Label b) (t : Tree) (os : List Node) (cs : List ℕ) (ms : Members b)
      → MemberMeant b d m ns bs k t → RowMeant b d (m + length bs) c os cs ms → RowMeant b d m (suc c) (ns ++ os) (bs ++ cs) (one k t ms)
  unfolding members_at sizes_of pick
  row_next b d m c ns bs k t os cs ms x y =
      let l : length (ns ++ os) ≡ length ns + length os = length-append ns os in
      record {
        size = omega (arith, x.size, y.size);
        stored = omega (arith, length-append bs cs, x.stored, y.stored, stored_append ns os);
        means =
            λ store a after. let z : length (ns ++ os) - length ns ≡ length os = omega arith in
            let s : Stands store m bs = stands_left bs cs a in
            rw (
              append_assoc ns os after,
              x.count (os ++ after),
              le-leb (length ns) (length (ns ++ os)) (omega arith),
              x.label store s (os ++ after),
              x.means store s (os ++ after),
              z,
              drop-append_seam ns (os ++ after),
              y.means store (stands_right bs cs a) after,
            );
      }

  group_unstored : (b : Sort) → group_kind b ≡ 6 → ⊥
  group_unstored Items e = omega arith
  group_unstored Pairs e = omega arith

  grouped_at : (b : Sort) (d p c w : ℕ) (r : List Node) (store : List ℕ) (ms : Members b) → 0 < w
      → members_at b (label_at b text store) (tree_at d text store) c (w - 1) r ≡ just ms
      → tree_at (suc d) text store (node (group_kind b) w p c ∷ r) ≡ just (branch b ms)
  unfolding tree_from grouped pick
  grouped_at Items d p c w r store ms h e = rw (lt-ltb 0 w h, e)
  grouped_at Pairs d p c w r store ms h e = rw (lt-ltb 0 w h, e)

  pub branch_meant : (b : Sort) (d m p c : ℕ) (ns : List Node) (bs : List ℕ) (ms : Members b) → RowMeant b d m c ns bs ms
      → Meant (suc d) m (node (group_kind b) (suc (length ns)) p c ∷ ns) bs (branch b ms)
  unfolding size_of stored_bytes
  branch_meant b d m p c ns bs ms x =
      record {
        size = ap suc x.size;
        stored = omega (arith, x.stored, unstored (node (group_kind b) (suc (length ns)) p c) (group_unstored b));
        count = λ after. refl;
        means =
            λ store a after. let z : suc (length ns) - 1 ≡ length ns = omega arith in
            grouped_at b d p c (suc (length ns)) (ns ++ after) store ms (omega arith) (rw z (x.means store a after));
      }
