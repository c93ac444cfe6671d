-- What a node means, by its numbers: the tests of the code choose the side of each pick of the definitions, once for fitness and for the texts.
-- Assumes nothing.
use Prim.Native.Nat.{ℕ, suc, ◌+◌, ◌-◌, ◌*◌, ◌/◌, ◌≤◌, ◌<◌}
use mathlib.Core.Bool.{Bool, true, false}
use mathlib.Core.List.{List, [], ◌∷◌}
use mathlib.Core.Path.{◌≡◌, refl, sym, ap, ◌∙◌}
use native.Mathlib.Omega.{arith}
use borrow.Author.Tests.{eq-eqb, ne_eqb, eqb-false, lt-leb, leb-true, leb-false, lt-ltb, le-ltb}
use lib.Dec.{leb, eqb}
use lib.ListN.{length, get_or, take, drop}
use Rattle.prelude.specs.Pick.{pick}
use Rattle.prelude.proofs.Cases.{split, never}
use Rattle.prelude.proofs.Picks.{pick_true, pick_false}
use Rattle.tokens.specs.Numbers.{number_kind}
use Rattle.json8.specs.declared.nodes.Sort.{Sort}
use Rattle.json8.specs.declared.nodes.Sort.TheVariants.{Items, Pairs}
use Rattle.json8_show.specs.declared.show.Shown.{Shown}
use Rattle.json8.specs.Nodes.{Node}
use Rattle.json8_show.specs.Show.{shown_at}
use Rattle.trees.specs.Trees.{Tree, number, string, branch}
use Rattle.trees.specs.Tables.{Maybe, just, nothing, bind, need, nodes_in, count_at, bytes_of, string_of, number_of, scalar_of, leaf_of, label_at, tree_from, grouped, tree_at}
use Rattle.std.specs.Prelude.{Option, Some, None}
use Rattle.json8_fit.specs.Fitness.{is_fit}
use Rattle.json8_fit.specs.inner.Steps.{node_at, Inside, within, sort_of, word_of}
use Rattle.json8_fit.proofs.TableNodes.{none_there, node_there, no_count}

-- what is needed of something that is fit
pub fit_need : {A : Type 0} (b : Bool) (x : Maybe A) → is_fit (need b x) ≡ true → (b ≡ true) × (is_fit x ≡ true)
unfolding pick
fit_need true x e = (refl, e)
fit_need false x e = never (let z : false ≡ true = e in cc)

pub need_fit : {A : Type 0} (b : Bool) (a : A) → is_fit (need b (just a)) ≡ b
unfolding pick
need_fit true a = refl
need_fit false a = refl

pub false_true : {P : Type 0} → ◌≡◌ {A = Bool} false true → P
false_true e = never (let z : ◌≡◌ {A = Bool} false true = e in cc)

pub unfit_never : {P : Type 0} {A : Type 0} (x : Maybe A) → x ≡ nothing → is_fit x ≡ true → P
unfit_never x e f = never (let z : false ≡ true = sym (ap is_fit e) ∙ f in cc)

-- a string, by where it is shown
pub string_is : (table text store : List ℕ) (i : ℕ) (v : Option Shown) → Inside table i → v ≡ shown_at table (length text) (length store) i
    → string_of text store (node_at i table) ≡ bytes_of text store v
unfolding string_of shown_at
string_is table text store i v h e =
    ap (bytes_of text store) (sym (e ∙ pick_false (leb (length table / 4) i) _ _ (lt-leb (length table / 4) i h)))

-- a number's text, where it lies inside
module _ (table text : List ℕ) (i place size : ℕ) (ep : place ≡ get_or table (4 * i + 2) 0) (es : size ≡ get_or table (4 * i + 3) 0) where
  pub number_is : number_of text (node_at i table)
      ≡ need (leb (place + size) (length text)) (need (eqb (number_kind (take size (drop place text))) (get_or table (4 * i) 0)) (just (number (take size (drop place text)))))
  unfolding number_of
  number_is = rw (sym ep, sym es)

-- kinds 0 to 6 of a node that counts itself alone
module _ (text store : List ℕ) (v : Node) where
  pub leaf_counts : (v.count ≡ 1 → ⊥) → leaf_of text store v ≡ nothing
  leaf_counts h = pick_false (eqb v.count 1) _ _ (ne_eqb v.count 1 h)

  pub leaf_scalar : v.count ≡ 1 → leaf_of text store v ≡ scalar_of text store v
  leaf_scalar e = pick_true (eqb v.count 1) _ _ (eq-eqb v.count 1 e)

  not_kind : (k : ℕ) → (v.kind ≡ k → ⊥) → eqb v.kind k ≡ false
  not_kind k h = ne_eqb v.kind k h

  pub scalar_word : v.kind < 3 → scalar_of text store v ≡ just (word_of v.kind)
  unfolding scalar_of word_of pick
  scalar_word h =
      split (eqb v.kind 0) (λ a. rw a refl)
      (λ a. split (eqb v.kind 1) (λ b. rw (a, b) refl)
      (λ b. split (eqb v.kind 2) (λ c. rw (a, b, c) refl)
      (λ c. absurd (omega (arith, eqb-false v.kind 0 a, eqb-false v.kind 1 b, eqb-false v.kind 2 c)))))

  module _ (h : 3 ≤ v.kind) where
    no_word : scalar_of text store v
        ≡ pick (eqb v.kind 3) (number_of text v) (pick (eqb v.kind 4) (number_of text v) (bind (string_of text store v) (λ bs. just (string bs))))
    unfolding scalar_of
    no_word =
        pick_false _ _ _ (not_kind 0 (λ z. omega (arith, z))) ∙ pick_false _ _ _ (not_kind 1 (λ z. omega (arith, z)))
        ∙ pick_false _ _ _ (not_kind 2 (λ z. omega (arith, z)))

    pub scalar_number : v.kind < 5 → scalar_of text store v ≡ number_of text v
    scalar_number g =
        no_word ∙ split (eqb v.kind 3) (λ a. pick_true _ _ _ a)
        (λ a. pick_false _ _ _ a ∙ split (eqb v.kind 4) (λ b. pick_true _ _ _ b)
        (λ b. absurd (omega (arith, eqb-false v.kind 3 a, eqb-false v.kind 4 b))))

    pub scalar_string : 5 ≤ v.kind → scalar_of text store v ≡ bind (string_of text store v) (λ bs. just (string bs))
    scalar_string g = no_word ∙ pick_false _ _ _ (not_kind 3 (λ z. omega (arith, z))) ∙ pick_false _ _ _ (not_kind 4 (λ z. omega (arith, z)))

-- a key is a string that counts itself alone
module _ (table text store : List ℕ) (i n : ℕ) (en : n ≡ count_at (drop i (nodes_in table))) where
  abbrev key : Maybe (List ℕ)
  key = label_at Pairs text store (drop i (nodes_in table))

  pub key_inside : n ≡ 1 → Inside table i
  key_inside e =
      split (leb (length table / 4) i)
      (λ h. absurd (omega (arith, e, en, no_count i table (leb-true (length table / 4) i h))))
      (λ h. leb-false (length table / 4) i h)

  pub key_counts : (n ≡ 1 → ⊥) → key ≡ nothing
  unfolding label_at
  key_counts h = go (drop i (nodes_in table)) en
    where
      go : (r : List Node) → n ≡ count_at r → label_at Pairs text store r ≡ nothing
      go [] e = refl
      go (v ∷ r) e = pick_false (eqb v.count 1) (string_of text store v) nothing (ne_eqb v.count 1 (λ z. h (e ∙ z)))

  pub key_string : n ≡ 1 → key ≡ string_of text store (node_at i table)
  unfolding label_at
  key_string e =
      let d : drop i (nodes_in table) ≡ node_at i table ∷ drop (i + 1) (nodes_in table) = node_there i table (key_inside e) in
      let c : get_or table (4 * i + 1) 0 ≡ 1 = sym (ap count_at d) ∙ sym en ∙ e in
      ap (label_at Pairs text store) d ∙ pick_true (eqb (get_or table (4 * i + 1) 0) 1) (string_of text store (node_at i table)) nothing (eq-eqb _ 1 c)

-- a string is fit wherever its value is
pub string_kept : (x : Maybe (List ℕ)) → is_fit (bind x (λ bs. just (string bs))) ≡ is_fit x
string_kept (just bs) = refl
string_kept nothing = refl

-- a value, by the node at a place
module _ (table text store : List ℕ) (left i : ℕ) where
  abbrev value : Maybe Tree
  value = tree_at left text store (drop i (nodes_in table))

  pub value_end : length table / 4 ≤ i → value ≡ nothing
  unfolding tree_from
  value_end h = ap (tree_at left text store) (none_there i table h)

  module _ (h : Inside table i) where
    value_is : value ≡ tree_at left text store (node_at i table ∷ drop (i + 1) (nodes_in table))
    value_is = ap (tree_at left text store) (node_there i table h)

    abbrev kind : ℕ
    kind = get_or table (4 * i) 0

    module _ (v : Option Sort) (e : v ≡ sort_of kind) where
      pub value_group : (b : Sort) → v ≡ Some b → value ≡ grouped left text store b (node_at i table) (drop (i + 1) (nodes_in table))
      unfolding tree_from sort_of
      value_group b f =
          split (eqb kind 7)
          (λ a. let z : ◌≡◌ {A = Option Sort} (Some Items) (Some b) = sym (e ∙ pick_true _ _ _ a) ∙ f in let y : Items ≡ b = cc in rw (← y) (value_is ∙ pick_true _ _ _ a))
          (λ a. split (eqb kind 8)
          (λ c. let z : ◌≡◌ {A = Option Sort} (Some Pairs) (Some b) = sym (e ∙ pick_false _ _ _ a ∙ pick_true _ _ _ c) ∙ f in let y : Pairs ≡ b = cc in
          rw (← y) (value_is ∙ pick_false _ _ _ a ∙ pick_true _ _ _ c))
          (λ c. never (let z : ◌≡◌ {A = Option Sort} None (Some b) = sym (e ∙ pick_false _ _ _ a ∙ pick_false _ _ _ c) ∙ f in cc)))

      pub value_leaf : v ≡ None → value ≡ leaf_of text store (node_at i table)
      unfolding tree_from sort_of
      value_leaf f =
          split (eqb kind 7)
          (λ a. never (let z : ◌≡◌ {A = Option Sort} (Some Items) None = sym (e ∙ pick_true _ _ _ a) ∙ f in cc))
          (λ a. split (eqb kind 8)
          (λ c. never (let z : ◌≡◌ {A = Option Sort} (Some Pairs) None = sym (e ∙ pick_false _ _ _ a ∙ pick_true _ _ _ c) ∙ f in cc))
          (λ c. value_is ∙ pick_false _ _ _ a ∙ pick_false _ _ _ c))

-- a group, by its node's numbers
module _ (b : Sort) (table text store : List ℕ) (left i : ℕ) where
  abbrev group : Maybe Tree
  group = grouped left text store b (node_at i table) (drop (i + 1) (nodes_in table))

  pub group_deep : left ≡ 0 → group ≡ nothing
  unfolding grouped
  group_deep e = rw e

  deeper : (left ≡ 0 → ⊥) → group ≡ grouped (suc (left - 1)) text store b (node_at i table) (drop (i + 1) (nodes_in table))
  deeper h = ap (λ (d : ℕ). grouped d text store b (node_at i table) (drop (i + 1) (nodes_in table))) (let e : left ≡ suc (left - 1) = omega (arith, h) in e)

  pub group_empty : (left ≡ 0 → ⊥) → get_or table (4 * i + 1) 0 ≡ 0 → group ≡ nothing
  unfolding grouped
  group_empty h e = deeper h ∙ pick_false _ _ _ (le-ltb 0 (get_or table (4 * i + 1) 0) (omega (arith, e)))

  pub group_is : (left ≡ 0 → ⊥) → (get_or table (4 * i + 1) 0 ≡ 0 → ⊥)
      → group ≡ bind (within b table text store (left - 1) (get_or table (4 * i + 3) 0) (get_or table (4 * i + 1) 0 - 1) (i + 1)) (λ ms. just (branch b ms))
  unfolding grouped
  group_is h f = deeper h ∙ pick_true _ _ _ (lt-ltb 0 (get_or table (4 * i + 1) 0) (omega (arith, f)))
