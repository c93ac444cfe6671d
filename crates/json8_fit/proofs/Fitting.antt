-- Whether parts of a table are fit: each part's answer is the and of its parts' answers, and a turn of the loop judges one member.
-- Assumes nothing.
use Prim.Native.Nat.{ℕ, zero, suc, ◌+◌, ◌-◌, ◌*◌, ◌≤◌, ◌<◌}
use mathlib.Core.Bool.{Bool, true, false, ◌&&◌}
use mathlib.Core.List.{List}
use mathlib.Core.Path.{◌≡◌, refl, sym, ap, ◌∙◌}
use native.Mathlib.Omega.{arith}
use borrow.Author.Tests.{le-leb, lt-leb, leb-true, eq-eqb, ne_eqb}
use lib.Dec.{leb, eqb}
use lib.ListN.{length, get_or, take, drop}
use lib.Seq.{drop-drop}
use Rattle.prelude.proofs.Cases.{split, and_left}
use Rattle.prelude.proofs.Picks.{pick_true, pick_false}
use Rattle.std.specs.Prelude.{Option, Some, None}
use Rattle.tokens.specs.Numbers.{number_kind, kind_told}
use Rattle.json8.specs.declared.nodes.Sort.{Sort}
use Rattle.json8.specs.declared.nodes.Sort.TheVariants.{Items, Pairs}
use Rattle.json8_show.specs.declared.show.Shown.{Shown}
use Rattle.json8_show.specs.declared.show.Shown.TheVariants.{InText, InStore}
use Rattle.json8_show.specs.Show.{shown_at}
use Rattle.json8.specs.Nodes.{Node}
use Rattle.prelude.specs.Limits.{node_max}
use Rattle.trees.specs.Trees.{Label, Tree, branch, Members, one}
use Rattle.trees.specs.Tables.{Maybe, just, nothing, bind, nodes_in, count_at, bytes_of, string_of, number_of, leaf_of, label_size, label_at, member_size, TreeReader, members_at, tree_at, grouped}
use Rattle.json8_fit.specs.Fitness.{is_fit}
use Rattle.json8_fit.specs.inner.Steps.{node_at, Inside, within, member_fit, is_kind}
use Rattle.json8_fit.proofs.TableNodes.{behind_label, value_room}
use Rattle.json8_fit.proofs.Choices.{need_fit, string_kept, string_is, number_is, leaf_counts, leaf_scalar, scalar_word, scalar_number, scalar_string, group_deep, group_empty, group_is}

-- strings
has_bytes : (text store : List ℕ) (w : Shown) → is_fit (bytes_of text store (Some w)) ≡ true
has_bytes text store (InText place size) = refl
has_bytes text store (InStore place size) = refl

module _ (table text store : List ℕ) (i : ℕ) (v : Option Shown) (h : Inside table i) (e : v ≡ shown_at table (length text) (length store) i) where
  pub fit_shown : {w : Shown} → v ≡ Some w → true ≡ is_fit (string_of text store (node_at i table))
  fit_shown {w} f = sym (ap is_fit (string_is table text store i v h e ∙ ap (bytes_of text store) f) ∙ has_bytes text store w)

  pub fit_nowhere : v ≡ None → false ≡ is_fit (string_of text store (node_at i table))
  fit_nowhere f = sym (ap is_fit (string_is table text store i v h e ∙ ap (bytes_of text store) f))

-- numbers
told_kind : (kind : ℕ) → 0 < kind → (k : ℕ) → is_kind kind (kind_told k) ≡ eqb k kind
told_kind kind h zero = sym (ne_eqb 0 kind (λ z. omega arith))
told_kind kind h (suc k) = refl

module _ (table text : List ℕ) (i place size : ℕ) (ep : place ≡ get_or table (4 * i + 2) 0) (es : size ≡ get_or table (4 * i + 3) 0) (b : Bool) (eb : b ≡ leb (place + size) (length text)) where
  pub fit_outside : b ≡ false → false ≡ is_fit (number_of text (node_at i table))
  fit_outside f = sym (ap is_fit (number_is table text i place size ep es ∙ pick_false _ _ _ (sym eb ∙ f)))

  pub fit_legal : {l : Bool} → 0 < get_or table (4 * i) 0 → b ≡ true
      → l ≡ is_kind (get_or table (4 * i) 0) (kind_told (number_kind (take (place + size - place) (drop place text)))) → l ≡ is_fit (number_of text (node_at i table))
  fit_legal {l} p f el =
      let z : place + size - place ≡ size = omega arith in
      (rw z at el) ∙ told_kind _ p _ ∙ sym (ap is_fit (number_is table text i place size ep es ∙ pick_true _ _ _ (sym eb ∙ f)) ∙ need_fit _ _)

-- leaves
module _ (text store : List ℕ) (v : Node) where
  pub fit_counts : (v.count ≡ 1 → ⊥) → false ≡ is_fit (leaf_of text store v)
  fit_counts h = sym (ap is_fit (leaf_counts text store v h))

  module _ (one : v.count ≡ 1) where
    pub fit_word : v.kind < 3 → true ≡ is_fit (leaf_of text store v)
    fit_word h = sym (ap is_fit (leaf_scalar text store v one) ∙ ap is_fit (scalar_word text store v h))

    pub fit_number : {r : Bool} → 3 ≤ v.kind → v.kind < 5 → r ≡ is_fit (number_of text v) → r ≡ is_fit (leaf_of text store v)
    fit_number h g e = e ∙ sym (ap is_fit (leaf_scalar text store v one ∙ scalar_number text store v h g))

    pub fit_string : {r : Bool} → 5 ≤ v.kind → r ≡ is_fit (string_of text store v) → r ≡ is_fit (leaf_of text store v)
    fit_string h e =
        e ∙ sym (ap is_fit (leaf_scalar text store v one ∙ scalar_string text store v (omega arith) h) ∙ string_kept (string_of text store v))

-- labels
module _ (b : Sort) (table text store : List ℕ) (i : ℕ) where
  pub fit_items : b ≡ Items → true ≡ is_fit (label_at b text store (drop i (nodes_in table)))
  unfolding label_at
  fit_items e = rw e

  pub fit_pairs : {r : Bool} → b ≡ Pairs → r ≡ is_fit (label_at Pairs text store (drop i (nodes_in table))) → r ≡ is_fit (label_at b text store (drop i (nodes_in table)))
  fit_pairs e f = rw e f

-- a member
module _ (b : Sort) (table text store : List ℕ) (left i w m : ℕ) (em : m ≡ member_size b (drop i (nodes_in table))) where
  abbrev member : Bool
  member = member_fit b (label_at b text store) (tree_at left text store) w (drop i (nodes_in table))

  pub member_long : w < m → false ≡ member
  member_long h = let e : leb (member_size b (drop i (nodes_in table))) w ≡ false = lt-leb (member_size b (drop i (nodes_in table))) w (omega (arith, em)) in rw e

  module _ (h : m ≤ w) where
    inside : leb (member_size b (drop i (nodes_in table))) w ≡ true
    inside = le-leb (member_size b (drop i (nodes_in table))) w (omega (arith, em))

    pub member_unlabelled : is_fit (label_at b text store (drop i (nodes_in table))) ≡ false → false ≡ member
    member_unlabelled f = rw (inside, f)

    pub member_value : {r : Bool} (k : ℕ) → is_fit (label_at b text store (drop i (nodes_in table))) ≡ true → k ≡ label_size b
        → r ≡ is_fit (tree_at left text store (drop (i + k) (nodes_in table))) → r ≡ member
    member_value k f e g =
        let d = behind_label b table i k e in
        rw (inside, f, d) g

    pub member_room : (k : ℕ) → k ≡ label_size b → i + w ≤ node_max → i + k + count_at (drop (i + k) (nodes_in table)) ≤ node_max
    member_room k e f = value_room b table i k e (omega (arith, em))

-- members are the first of them and the others
module _ (b : Sort) (label : List Node → Maybe (Label b)) (tree : TreeReader) where
  three : (x : Maybe (Label b)) (y : Maybe Tree) (z : Maybe (Members b))
      → is_fit (bind x (λ k. bind y (λ t. bind z (λ ms. just (one k t ms))))) ≡ (is_fit x && is_fit y) && is_fit z
  three (just k) (just t) (just ms) = refl
  three (just k) (just t) nothing = refl
  three (just k) nothing z = refl
  three nothing y z = refl

  pub members_fit : (c w : ℕ) (r : List Node)
      → is_fit (members_at b label tree (suc c) w r) ≡ member_fit b label tree w r && is_fit (members_at b label tree c (w - member_size b r) (drop (member_size b r) r))
  unfolding members_at
  members_fit c w r =
      split (leb (member_size b r) w)
      (λ e. ap is_fit (pick_true _ _ _ e) ∙ three (label r) (tree (drop (label_size b) r)) (members_at b label tree c (w - member_size b r) (drop (member_size b r) r)) ∙ rw e)
      (λ e. ap is_fit (pick_false _ _ _ e) ∙ rw e)

  pub members_left : (w : ℕ) (r : List Node) → eqb w 0 ≡ is_fit (members_at b label tree 0 w r)
  unfolding members_at
  members_left w r = sym (need_fit (eqb w 0) _)

-- the judging loop's invariant: the members from `at` on decide
pub record Judged (b : Sort) (table text store : List ℕ) (left : ℕ) (want : Bool) (members w at : ℕ) : Type 0 where
  pub same : want ≡ is_fit (within b table text store left members w at)
  pub bound : at + w ≤ node_max

pub begun : (b : Sort) (table text store : List ℕ) (left members w i : ℕ) → i + w ≤ node_max
    → Judged b table text store left (is_fit (within b table text store left members w i)) members w i
begun b table text store left members w i h = record { same = refl; bound = h }

module _ (b : Sort) (table text store : List ℕ) (left : ℕ) (want : Bool) (members w at : ℕ) (i : Judged b table text store left want members w at) where
  module _ (h : 0 < members) (r : Bool) (t : r ≡ member_fit b (label_at b text store) (tree_at left text store) w (drop at (nodes_in table))) where
    step : want ≡ r && is_fit (members_at b (label_at b text store) (tree_at left text store) (members - 1) (w - member_size b (drop at (nodes_in table))) (drop (member_size b (drop at (nodes_in table))) (drop at (nodes_in table))))
    step =
        let c : members ≡ suc (members - 1) = omega arith in
        i.same ∙ ap (λ (n : ℕ). is_fit (within b table text store left n w at)) c
        ∙ members_fit b (label_at b text store) (tree_at left text store) (members - 1) w (drop at (nodes_in table))
        ∙ ap (λ (x : Bool). x && is_fit (members_at b (label_at b text store) (tree_at left text store) (members - 1) (w - member_size b (drop at (nodes_in table))) (drop (member_size b (drop at (nodes_in table))) (drop at (nodes_in table))))) (sym t)

    pub judged_unfit : r ≡ false → want ≡ false
    judged_unfit e = step ∙ rw e

    module _ (e : r ≡ true) (s : ℕ) (es : s ≡ member_size b (drop at (nodes_in table))) where
      pub judged_size : s ≤ w
      judged_size = omega (arith, es, leb-true (member_size b (drop at (nodes_in table))) w (and_left _ _ (sym t ∙ e)))

      pub judged_on : Judged b table text store left want (members - 1) (w - s) (at + s)
      judged_on = record {
        same = step ∙ rw (e, sym es, drop-drop s at (nodes_in table));
        bound = omega (arith, i.bound, judged_size);
      }

  pub judged_last : members ≤ 0 → {r : Bool} → r ≡ eqb w 0 → r ≡ want
  judged_last h e =
      let z : members ≡ 0 = omega arith in
      e ∙ members_left b (label_at b text store) (tree_at left text store) w (drop at (nodes_in table)) ∙ sym (i.same ∙ ap (λ (n : ℕ). is_fit (within b table text store left n w at)) z)

-- a group
module _ (b : Sort) (table text store : List ℕ) (left i : ℕ) where
  abbrev group : Maybe Tree
  group = grouped left text store b (node_at i table) (drop (i + 1) (nodes_in table))

  pub deep_unfit : left ≡ 0 → false ≡ is_fit group
  deep_unfit e = sym (ap is_fit (group_deep b table text store left i e))

  pub empty_unfit : (left ≡ 0 → ⊥) → get_or table (4 * i + 1) 0 ≡ 0 → false ≡ is_fit group
  empty_unfit h e = sym (ap is_fit (group_empty b table text store left i h e))

  branched : (x : Maybe (Members b)) → is_fit (bind x (λ ms. just (branch b ms))) ≡ is_fit x
  branched (just ms) = refl
  branched nothing = refl

  pub group_fit : {c n : ℕ} → c ≡ get_or table (4 * i + 1) 0 → n ≡ get_or table (4 * i + 3) 0 → (left ≡ 0 → ⊥) → (c ≡ 0 → ⊥)
      → is_fit (within b table text store (left - 1) n (c - 1) (i + 1)) ≡ is_fit group
  group_fit ec en h f =
      (λ j. is_fit (within b table text store (left - 1) (en j) (ec j - 1) (i + 1)))
      ∙ sym (ap is_fit (group_is b table text store left i h (λ z. f (ec ∙ z)))
      ∙ branched (within b table text store (left - 1) (get_or table (4 * i + 3) 0) (get_or table (4 * i + 1) 0 - 1) (i + 1)))

-- the root is the one member of its nodes
pub root_member : (table text store : List ℕ) (left c : ℕ) → c ≡ count_at (drop 0 (nodes_in table))
    → is_fit (within Items table text store left 1 c 0) ≡ is_fit (tree_at left text store (drop 0 (nodes_in table)))
unfolding label_at
root_member table text store left c e =
    let m : member_size Items (nodes_in table) ≡ c = omega (arith, e) in
    let f : leb (member_size Items (nodes_in table)) c ≡ true = le-leb (member_size Items (nodes_in table)) c (omega arith) in
    let z : c - member_size Items (nodes_in table) ≡ 0 = omega arith in
    let l : is_fit (members_at Items (label_at Items text store) (tree_at left text store) 0 (c - member_size Items (nodes_in table)) (drop (member_size Items (nodes_in table)) (nodes_in table))) ≡ true =
    sym (members_left Items (label_at Items text store) (tree_at left text store) _ _) ∙ eq-eqb _ 0 z in
    members_fit Items (label_at Items text store) (tree_at left text store) 0 c (nodes_in table)
    ∙ rw (f, l) (and_true (is_fit (tree_at left text store (nodes_in table))))
  where
    and_true : (x : Bool) → x && true ≡ x
    and_true true = refl
    and_true false = refl
