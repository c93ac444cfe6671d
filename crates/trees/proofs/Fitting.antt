-- A table that has a meaning: its tree is sound, and has as many nodes as its root says; a leaf by its kind, members one after another, and
-- lists and dicts by the brackets left.
-- Assumes nothing.
use Prim.Native.Nat.{ℕ, zero, suc, ◌-◌}
use mathlib.Core.Bool.{true, false}
use mathlib.Core.List.{List, [], ◌∷◌}
use mathlib.Core.Path.{◌≡◌, refl, sym, ◌∙◌}
use native.Mathlib.Omega.{arith}
use lib.Dec.{eqb}
use lib.ListN.{length, take, drop}
use borrow.Author.Tests.{eqb-true, eqb-false, leb-true, ltb-true}
use Rattle.prelude.proofs.Cases.{never}
use Rattle.prelude.proofs.Picks.{pick_case}
use Rattle.prelude.specs.Bytes.{IsBytes}
use Rattle.string_claims.proofs.RoundTrip.{bytes_take, bytes_drop}
use Rattle.tokens.specs.Numbers.{number_kind}
use Rattle.json8.specs.declared.nodes.Sort.{Sort}
use Rattle.json8.specs.declared.nodes.Sort.TheVariants.{Items, Pairs}
use Rattle.std.specs.Prelude.{Option, Some, None}
use Rattle.json8_show.specs.declared.show.Shown.{Shown}
use Rattle.json8_show.specs.declared.show.Shown.TheVariants.{InText, InStore}
use Rattle.json8.specs.Nodes.{Node}
use Rattle.prelude.specs.Limits.{node_max, depth_max}
use Rattle.json8_show.specs.Show.{shown_by}
use Rattle.trees.specs.Trees.{Label, Tree, null, bool, number, string, branch, Members, none, one}
use Rattle.trees.specs.Tables.{Maybe, just, count_at, bytes_of, string_of, number_of, scalar_of, leaf_of, label_size, label_at, member_size, TreeReader, members_at, tree_from, grouped, tree_at, tree_of}
use Rattle.trees.specs.Sound.{SoundLabel, SoundTo, SoundMembers, Sound}
use Rattle.trees.specs.Sizes.{size_of, sizes_of}
use Rattle.trees.proofs.Choosing.{bind_just, need_just}

-- what a reader finds is sound, and has so many nodes
abbrev Good : ℕ → ℕ → Maybe Tree → Type 0
Good d c x = (t : Tree) → x ≡ just t → SoundTo d t × (size_of t ≡ c)

just_good : (d : ℕ) (u : Tree) → SoundTo d u → size_of u ≡ 1 → Good d 1 (just u)
just_good d u s z t e = let j : u ≡ t = cc in rw (← j) (s, z)

module _ (text store : List ℕ) (bt : IsBytes text) (bs : IsBytes store) where
  shown_bytes_lem : (q : Option Shown) (w : List ℕ) → bytes_of text store q ≡ just w → IsBytes w
  shown_bytes_lem (Some (InText place size)) w e = let z : take size (drop place text) ≡ w = cc in rw z at (bytes_take size (drop place text) (bytes_drop place text bt))
  shown_bytes_lem (Some (InStore place size)) w e = let z : take size (drop place store) ≡ w = cc in rw z at (bytes_take size (drop place store) (bytes_drop place store bs))
  shown_bytes_lem None w e = never (cc)

  string_bytes : (v : Node) (w : List ℕ) → string_of text store v ≡ just w → IsBytes w
  unfolding string_of
  string_bytes v w e = shown_bytes_lem (shown_by v.kind v.place v.size (length text) (length store)) w e

  number_good : (d : ℕ) (v : Node) → (v.kind ≡ 0 → ⊥) → Good d 1 (number_of text v)
  unfolding number_of SoundTo size_of
  number_good d v h t e =
      let w : List ℕ = take v.size (drop v.place text) in
      let (k, q) = need_just _ _ t (need_just _ _ t e).1 in
      just_good d (number w) (λ o. h (sym (eqb-true (number_kind w) v.kind k) ∙ o)) refl t q

  scalar_good : (d : ℕ) (v : Node) → Good d 1 (scalar_of text store v)
  unfolding scalar_of SoundTo size_of
  scalar_good d v =
      pick_case (Good d 1) (eqb v.kind 0) _ _ (λ a. just_good d null tt refl)
      (λ a. pick_case (Good d 1) (eqb v.kind 1) _ _ (λ b. just_good d (bool false) tt refl)
      (λ b. pick_case (Good d 1) (eqb v.kind 2) _ _ (λ c. just_good d (bool true) tt refl)
      (λ c. pick_case (Good d 1) (eqb v.kind 3) _ _ (λ f. number_good d v (eqb-false v.kind 0 a))
      (λ f. pick_case (Good d 1) (eqb v.kind 4) _ _ (λ g. number_good d v (eqb-false v.kind 0 a))
      (λ g t e. let w = bind_just (string_of text store v) (λ (w : List ℕ). just (string w)) t e in
      just_good d (string w.value) (string_bytes v w.value w.was) refl t w.rest)))))

  leaf_good : (d : ℕ) (v : Node) → Good d v.count (leaf_of text store v)
  leaf_good d v t e =
      let (c, q) = need_just _ _ t e in
      let (s, z) = scalar_good d v t q in
      (s, z ∙ sym (eqb-true v.count 1 c))

  label_sound : (b : Sort) (ns : List Node) (k : Label b) → label_at b text store ns ≡ just k → SoundLabel b k
  unfolding label_at
  label_sound Items ns k e = tt
  label_sound Pairs [] k e = never (cc)
  label_sound Pairs (v ∷ ns) k e = string_bytes v k (need_just _ _ k e).1

  -- generic in the reader of one member
  module _ (d : ℕ) (b : Sort) (rd : TreeReader) (f : (ns : List Node) → Good d (count_at ns) (rd ns)) where
    members_good : (c w : ℕ) (r : List Node) (ms : Members b) → members_at b (label_at b text store) rd c w r ≡ just ms
        → SoundMembers d ms × (sizes_of ms ≡ w)
    unfolding members_at SoundMembers sizes_of
    members_good zero w r ms e =
        let (z, q) = need_just _ _ ms e in
        let j : none ≡ ms = cc in
        rw (← j) (tt, sym (eqb-true w 0 z))
    members_good (suc c) w r ms e =
        let z : ℕ = member_size b r in
        let (h, q) = need_just _ _ ms e in
        let x = bind_just (label_at b text store r) _ ms q in
        let y = bind_just (rd (drop (label_size b) r)) _ ms x.rest in
        let o = bind_just (members_at b (label_at b text store) rd c (w - z) (drop z r)) _ ms y.rest in
        let j : one x.value y.value o.value ≡ ms = cc o.rest in
        let (g, i) = members_good c (w - z) (drop z r) o.value o.was in
        let (s, k) = f (drop (label_size b) r) y.value y.was in
        rw (← j) ((label_sound b r x.value x.was, s, g), omega (arith, leb-true z w h))

  from_good : (d : ℕ) (gr : Sort → Node → List Node → Maybe Tree) → ((b : Sort) (v : Node) (r : List Node) → Good d v.count (gr b v r))
      → (ns : List Node) → Good d (count_at ns) (tree_from gr text store ns)
  unfolding tree_from
  from_good d gr g [] = λ t e. never (cc)
  from_good d gr g (v ∷ r) =
      pick_case (Good d v.count) (eqb v.kind 7) _ _ (λ h. g Items v r)
      (λ h. pick_case (Good d v.count) (eqb v.kind 8) _ _ (λ i. g Pairs v r) (λ i. leaf_good d v))

  grouped_good : (d : ℕ) (b : Sort) (v : Node) (r : List Node) → Good d v.count (grouped d text store b v r)
  unfolding grouped SoundTo size_of
  grouped_good zero b v r t e = never (cc)
  grouped_good (suc d) b v r t e =
      let (s, j) = need_just _ _ t e in
      let w = bind_just (members_at b (label_at b text store) (tree_at d text store) v.size (v.count - 1) r) _ t j in
      let z : branch b w.value ≡ t = cc w.rest in
      let (a, c) = members_good d b (tree_at d text store) (from_good d (grouped d text store) (grouped_good d)) v.size (v.count - 1) r w.value w.was in
      rw (← z) (a, omega (arith, ltb-true 0 v.count s))

  pub tree_sound : (r : List Node) (t : Tree) → tree_of r text store ≡ just t → Sound t
  unfolding tree_of
  tree_sound r t e =
      let (h, q) = need_just _ _ t e in
      let (a, c) = from_good depth_max (grouped depth_max text store) (grouped_good depth_max) r t (need_just _ _ t q).1 in
      record { legal = a; few = omega (arith, leb-true (count_at r) node_max h) }
