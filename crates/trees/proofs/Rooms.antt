-- A table's text is no longer than its nodes tell: a leaf by its kind, members one after another, and lists and dicts by the brackets left;
-- each value leaves a byte for its comma.
-- Assumes nothing.
use Prim.Native.Nat.{ℕ, zero, suc, ◌+◌, ◌-◌, ◌*◌, ◌≤◌}
use mathlib.Core.Bool.{Bool, true, false}
use mathlib.Core.List.{List, [], ◌∷◌, ◌++◌}
use mathlib.Core.Path.{◌≡◌, refl, ap, ◌∙◌}
use native.Mathlib.Omega.{arith}
use native.Mathlib.Nat.{zero-add, sub-zero}
use lib.Dec.{leb, eqb}
use lib.ListN.{length, take, drop, length-append, length-take}
use borrow.Author.Tests.{eqb-true, leb-true, ltb-true, le-ltb, le-leb}
use Rattle.prelude.proofs.Cases.{never}
use Rattle.prelude.proofs.Picks.{pick_true, pick_false, pick_case}
use Rattle.strings_write.specs.Write.{write_string}
use Rattle.strings_write.proofs.WriteLengths.{write_length}
use Rattle.json8.specs.declared.nodes.Sort.{Sort}
use Rattle.json8.specs.declared.nodes.Sort.TheVariants.{Items, Pairs}
use Rattle.std.specs.Prelude.{Option}
use Rattle.json8_show.specs.declared.show.Shown.{Shown}
use Rattle.json8.specs.Nodes.{Node}
use Rattle.prelude.specs.Limits.{depth_max}
use Rattle.json8_show.specs.Show.{shown_by}
use Rattle.trees.specs.Trees.{Label, Tree, null, bool, number, string, branch, Members, none, one, comma, render, render_label, render_members}
use Rattle.trees.specs.Tables.{Maybe, just, count_at, bytes_of, string_of, number_of, scalar_of, leaf_of, label_size, label_at, member_size, TreeReader, members_at, tree_from, grouped, tree_at, tree_of}
use Rattle.trees.specs.Rooms.{bytes_held, room_of}
use Rattle.trees.proofs.Choosing.{bind_just, need_just}

-- what is found leaves a byte of so much room
abbrev Roomy : ℕ → Maybe Tree → Type 0
Roomy n x = (t : Tree) → x ≡ just t → length (render t) + 1 ≤ n

just_roomy : (n : ℕ) (u : Tree) → length (render u) + 1 ≤ n → Roomy n (just u)
just_roomy n u h t e = let j : u ≡ t = cc in rw (← j) h

-- the room of a node that is a string or a number
held : (v : Node) → 3 ≤ v.kind → v.kind ≤ 6 → bytes_held v ≡ v.size
unfolding bytes_held
held v h g = pick_false _ _ _ (le-ltb v.kind 3 h) ∙ pick_true _ _ _ (le-leb v.kind 6 g)

-- room of nodes one after another
room_parts : (a c : ℕ) (r : List Node) → a ≤ c → room_of c r ≡ room_of a r + room_of (c - a) (drop a r)
unfolding room_of
room_parts zero c r h = rw (zero-add _, sub-zero c)
room_parts (suc a) zero r h = absurd (omega arith)
room_parts (suc a) (suc c) [] h = room_none (suc c - suc a)
  where
    room_none : (n : ℕ) → 0 ≡ 0 + room_of n []
    room_none zero = refl
    room_none (suc n) = refl
room_parts (suc a) (suc c) (v ∷ r) h =
    let e : suc c - suc a ≡ c - a = omega arith in
    let i : room_of c r ≡ room_of a r + room_of (c - a) (drop a r) = room_parts a c r (omega arith) in
    rw (e, i) (omega arith)

module _ (text store : List ℕ) where
  shown_size : (kind place size : ℕ) (w : List ℕ) → bytes_of text store (shown_by kind place size (length text) (length store)) ≡ just w
      → (length w ≤ size) × ((5 ≤ kind) × (kind ≤ 6))
  unfolding shown_by
  shown_size kind place size w =
      pick_case (λ (q : Option Shown). bytes_of text store q ≡ just w → (length w ≤ size) × ((5 ≤ kind) × (kind ≤ 6))) (eqb kind 5) _ _
      (λ a. pick_case (λ (q : Option Shown). bytes_of text store q ≡ just w → (length w ≤ size) × ((5 ≤ kind) × (kind ≤ 6))) (leb (place + size) (length text)) _ _
      (λ b e. let z : take size (drop place text) ≡ w = cc in
      (omega (arith, ap length z, length-take size (drop place text)), (omega (arith, eqb-true kind 5 a), omega (arith, eqb-true kind 5 a))))
      (λ b e. never (cc)))
      (λ a. pick_case (λ (q : Option Shown). bytes_of text store q ≡ just w → (length w ≤ size) × ((5 ≤ kind) × (kind ≤ 6))) (eqb kind 6) _ _
      (λ c. pick_case (λ (q : Option Shown). bytes_of text store q ≡ just w → (length w ≤ size) × ((5 ≤ kind) × (kind ≤ 6))) (leb (place + size) (length store)) _ _
      (λ b e. let z : take size (drop place store) ≡ w = cc in
      (omega (arith, ap length z, length-take size (drop place store)), (omega (arith, eqb-true kind 6 c), omega (arith, eqb-true kind 6 c))))
      (λ b e. never (cc)))
      (λ c e. never (cc)))

  -- a string's text, with a byte for what follows it and one for its comma
  string_room : (v : Node) (w : List ℕ) → string_of text store v ≡ just w → length (write_string w) + 2 ≤ 6 * (1 + bytes_held v)
  unfolding string_of
  string_room v w e =
      let (h, k) = shown_size v.kind v.place v.size w e in
      omega (arith, write_length w, held v (omega (arith, k.0)) k.1)

  number_room : (v : Node) → 3 ≤ v.kind → v.kind ≤ 6 → Roomy (6 * (1 + bytes_held v)) (number_of text v)
  unfolding number_of render
  number_room v h g t e =
      let w : List ℕ = take v.size (drop v.place text) in
      let (k, q) = need_just _ _ t (need_just _ _ t e).1 in
      just_roomy (6 * (1 + bytes_held v)) (number w) (omega (arith, length-take v.size (drop v.place text), held v h g)) t q

  scalar_room : (v : Node) → Roomy (6 * (1 + bytes_held v)) (scalar_of text store v)
  unfolding scalar_of render
  scalar_room v =
      pick_case (Roomy (6 * (1 + bytes_held v))) (eqb v.kind 0) _ _ (λ a. just_roomy _ null (omega arith))
      (λ a. pick_case (Roomy (6 * (1 + bytes_held v))) (eqb v.kind 1) _ _ (λ b. just_roomy _ (bool false) (omega arith))
      (λ b. pick_case (Roomy (6 * (1 + bytes_held v))) (eqb v.kind 2) _ _ (λ c. just_roomy _ (bool true) (omega arith))
      (λ c. pick_case (Roomy (6 * (1 + bytes_held v))) (eqb v.kind 3) _ _ (λ f. number_room v (omega (arith, eqb-true v.kind 3 f)) (omega (arith, eqb-true v.kind 3 f)))
      (λ f. pick_case (Roomy (6 * (1 + bytes_held v))) (eqb v.kind 4) _ _ (λ g. number_room v (omega (arith, eqb-true v.kind 4 g)) (omega (arith, eqb-true v.kind 4 g)))
      (λ g t e. let w = bind_just (string_of text store v) (λ (w : List ℕ). just (string w)) t e in
      just_roomy _ (string w.value) (omega (arith, string_room v w.value w.was)) t w.rest)))))

  leaf_room : (v : Node) (r : List Node) → Roomy (room_of v.count (v ∷ r)) (leaf_of text store v)
  unfolding room_of
  leaf_room v r t e =
      let (c, q) = need_just _ _ t e in
      let s = scalar_room v t q in
      let k : room_of v.count (v ∷ r) ≡ 6 * (1 + bytes_held v) + 0 = ap (λ (n : ℕ). room_of n (v ∷ r)) (eqb-true v.count 1 c) in
      omega (arith, s)

  label_room : (b : Sort) (ns : List Node) (k : Label b) → label_at b text store ns ≡ just k → length (render_label b k) ≤ room_of (label_size b) ns
  unfolding label_at room_of
  label_room Items ns k e = omega arith
  label_room Pairs [] k e = never (cc)
  label_room Pairs (v ∷ ns) k e =
      omega (arith, string_room v k (need_just _ _ k e).1, length-append (write_string k) (0x3a ∷ []))

  comma_one : (first : Bool) → length (comma first) ≤ 1
  comma_one true = omega arith
  comma_one false = omega arith

  -- generic in the reader of one member
  module _ (b : Sort) (rd : TreeReader) (f : (ns : List Node) → Roomy (room_of (count_at ns) ns) (rd ns)) where
    members_room : (first : Bool) (c w : ℕ) (r : List Node) (ms : Members b) → members_at b (label_at b text store) rd c w r ≡ just ms
        → length (render_members first ms) ≤ room_of w r + 1
    unfolding members_at render_members
    members_room first zero w r ms e =
        let (z, q) = need_just _ _ ms e in
        let j : none ≡ ms = cc in
        rw (← j) (omega arith)
    members_room first (suc c) w r ms e =
        let z : ℕ = member_size b r in
        let (h, q) = need_just _ _ ms e in
        let x = bind_just (label_at b text store r) _ ms q in
        let y = bind_just (rd (drop (label_size b) r)) _ ms x.rest in
        let o = bind_just (members_at b (label_at b text store) rd c (w - z) (drop z r)) _ ms y.rest in
        let j : one x.value y.value o.value ≡ ms = cc o.rest in
        let i = members_room false c (w - z) (drop z r) o.value o.was in
        let l = label_room b r x.value x.was in
        let s = f (drop (label_size b) r) y.value y.was in
        let k : label_size b ≤ z = omega arith in
        let m : z - label_size b ≡ count_at (drop (label_size b) r) = omega arith in
        let u : room_of z r ≡ room_of (label_size b) r + room_of (count_at (drop (label_size b) r)) (drop (label_size b) r) = rw m at (room_parts (label_size b) z r k) in
        let v : room_of w r ≡ room_of z r + room_of (w - z) (drop z r) = room_parts z w r (leb-true z w h) in
        rw (← j) (omega (
          arith,
          i,
          l,
          s,
          u,
          v,
          comma_one first,
          length-append (comma first) (render_label b x.value ++ (render y.value ++ render_members false o.value)),
          length-append (render_label b x.value) (render y.value ++ render_members false o.value),
          length-append (render y.value) (render_members false o.value),
        ))

  from_room : (gr : Sort → Node → List Node → Maybe Tree) → ((b : Sort) (v : Node) (r : List Node) → Roomy (room_of v.count (v ∷ r)) (gr b v r))
      → (ns : List Node) → Roomy (room_of (count_at ns) ns) (tree_from gr text store ns)
  unfolding tree_from
  from_room gr g [] = λ t e. never (cc)
  from_room gr g (v ∷ r) =
      pick_case (Roomy (room_of v.count (v ∷ r))) (eqb v.kind 7) _ _ (λ h. g Items v r)
      (λ h. pick_case (Roomy (room_of v.count (v ∷ r))) (eqb v.kind 8) _ _ (λ i. g Pairs v r) (λ i. leaf_room v r))

  grouped_room : (d : ℕ) (b : Sort) (v : Node) (r : List Node) → Roomy (room_of v.count (v ∷ r)) (grouped d text store b v r)
  unfolding grouped render room_of
  grouped_room zero b v r t e = never (cc)
  grouped_room (suc d) b v r t e =
      let (s, j) = need_just _ _ t e in
      let w = bind_just (members_at b (label_at b text store) (tree_at d text store) v.size (v.count - 1) r) _ t j in
      let z : branch b w.value ≡ t = cc w.rest in
      let a = members_room b (tree_at d text store) (from_room (grouped d text store) (grouped_room d)) true v.size (v.count - 1) r w.value w.was in
      let c : v.count ≡ suc (v.count - 1) = omega (arith, ltb-true 0 v.count s) in
      let k : room_of v.count (v ∷ r) ≡ 6 * (1 + bytes_held v) + room_of (v.count - 1) r = ap (λ (n : ℕ). room_of n (v ∷ r)) c in
      rw (← z) (omega (arith, a))

  pub tree_room : (r : List Node) (t : Tree) → tree_of r text store ≡ just t → length (render t) ≤ room_of (count_at r) r
  unfolding tree_of
  tree_room r t e =
      let (h, q) = need_just _ _ t e in
      let a = from_room (grouped depth_max text store) (grouped_room depth_max) r t (need_just _ _ t q).1 in
      omega (arith, a)
