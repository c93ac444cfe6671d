-- The texts of the parts of a fit table that hold no other values.
-- Assumes nothing.
use Prim.Native.Nat.{ℕ, ◌+◌, ◌-◌, ◌*◌, ◌≤◌, ◌<◌}
use mathlib.Core.Bool.{true}
use mathlib.Core.List.{List, [], ◌∷◌, ◌++◌}
use mathlib.Core.Path.{◌≡◌, refl, sym, ap, ◌∙◌}
use native.Mathlib.Omega.{arith}
use borrow.Author.Tests.{leb-true, eq-eqb, ne_eqb, eqb-true, eqb-false}
use lib.Dec.{leb, eqb}
use lib.ListN.{length, get_or, take, drop}
use Rattle.prelude.specs.Pick.{pick}
use Rattle.prelude.proofs.Cases.{split}
use Rattle.prelude.proofs.Picks.{pick_true}
use Rattle.tokens.specs.Numbers.{number_kind}
use Rattle.strings_write.specs.Write.{write_string}
use Rattle.json8.specs.declared.nodes.Sort.{Sort}
use Rattle.json8.specs.declared.nodes.Sort.TheVariants.{Items, Pairs}
use Rattle.json8.specs.Nodes.{Node}
use Rattle.json8_show.specs.Show.{shown_by}
use Rattle.trees.specs.Trees.{number, string, render}
use Rattle.trees.specs.Tables.{Maybe, just, nothing, bind, nodes_in, count_at, bytes_of, string_of, number_of, leaf_of, label_at}
use Rattle.json8_fit.specs.Fitness.{is_fit}
use Rattle.rooms.specs.inner.Puts.{Put}
use Rattle.json8_fit.specs.inner.Steps.{node_at, Inside, word_of}
use Rattle.json8_write.specs.inner.Texts.{tree_text, string_text, label_text}
use Rattle.rooms.proofs.Puts.{put_as, put_none, put_then}
use Rattle.json8_fit.proofs.Fitting.{fit_number, fit_string}
use Rattle.json8_fit.proofs.Choices.{fit_need, false_true, unfit_never, number_is, leaf_scalar, scalar_word, scalar_number, scalar_string, key_counts, key_inside, key_string}

-- a string that is fit lies inside its buffer
abbrev Held : List ℕ → List ℕ → ℕ → ℕ → ℕ → Maybe (List ℕ)
Held text store k p n = bytes_of text store (shown_by k p n (length text) (length store))

text_held : (text store : List ℕ) (k p n : ℕ) → k ≡ 5 → is_fit (Held text store k p n) ≡ true → (p + n ≤ length text) × (Held text store k p n ≡ just (take n (drop p text)))
unfolding shown_by pick
text_held text store k p n e f =
    split (leb (p + n) (length text)) (λ t. (leb-true _ _ t, rw (eq-eqb k 5 e, t) refl))
    (λ t. unfit_never (Held text store k p n) (rw (eq-eqb k 5 e, t) refl) f)

store_held : (text store : List ℕ) (k p n : ℕ) → (k ≡ 5 → ⊥) → is_fit (Held text store k p n) ≡ true → (p + n ≤ length store) × (Held text store k p n ≡ just (take n (drop p store)))
unfolding shown_by pick
store_held text store k p n e f =
    split (eqb k 6)
    (λ q. split (leb (p + n) (length store)) (λ t. (leb-true _ _ t, rw (ne_eqb k 5 e, q, t) refl))
    (λ t. unfit_never (Held text store k p n) (rw (ne_eqb k 5 e, q, t) refl) f))
    (λ q. unfit_never (Held text store k p n) (rw (ne_eqb k 5 e, q) refl) f)

module _ (table text store : List ℕ) (i place size : ℕ) (ep : place ≡ get_or table (4 * i + 2) 0) (es : size ≡ get_or table (4 * i + 3) 0) (f : is_fit (string_of text store (node_at i table)) ≡ true) where
  held : string_of text store (node_at i table) ≡ Held text store (get_or table (4 * i) 0) place size
  unfolding string_of
  held = rw (ep, es) refl

  size_is : place + size - place ≡ size
  size_is = omega arith

  module _ (e : get_or table (4 * i) 0 ≡ 5) where
    in_text : (place + size ≤ length text) × (Held text store (get_or table (4 * i) 0) place size ≡ just (take size (drop place text)))
    in_text = text_held text store (get_or table (4 * i) 0) place size e (sym (ap is_fit held) ∙ f)

    pub text_inside : place + size ≤ length text
    text_inside = in_text.0

    pub text_string : {room o r : ℕ} {out new : List ℕ} → Put (write_string (take (place + size - place) (drop place text))) room o r out new
        → Put (string_text (string_of text store (node_at i table))) room o r out new
    text_string p = put_as (ap string_text (held ∙ in_text.1)) (rw size_is at p)

  module _ (e : get_or table (4 * i) 0 ≡ 5 → ⊥) where
    in_store_lem : (place + size ≤ length store) × (Held text store (get_or table (4 * i) 0) place size ≡ just (take size (drop place store)))
    in_store_lem = store_held text store (get_or table (4 * i) 0) place size e (sym (ap is_fit held) ∙ f)

    pub store_inside : place + size ≤ length store
    store_inside = in_store_lem.0

    pub store_string : {room o r : ℕ} {out new : List ℕ} → Put (write_string (take (place + size - place) (drop place store))) room o r out new
        → Put (string_text (string_of text store (node_at i table))) room o r out new
    store_string p = put_as (ap string_text (held ∙ in_store_lem.1)) (rw size_is at p)

-- a number that is fit
module _ (table text : List ℕ) (i place size : ℕ) (ep : place ≡ get_or table (4 * i + 2) 0) (es : size ≡ get_or table (4 * i + 3) 0) (f : is_fit (number_of text (node_at i table)) ≡ true) where
  parts : (leb (place + size) (length text) ≡ true) × (eqb (number_kind (take size (drop place text))) (get_or table (4 * i) 0) ≡ true)
  parts =
      let a = fit_need (leb (place + size) (length text)) _ (sym (ap is_fit (number_is table text i place size ep es)) ∙ f) in
      (a.0, (fit_need (eqb (number_kind (take size (drop place text))) (get_or table (4 * i) 0)) (just (number (take size (drop place text)))) a.1).0)

  pub number_inside : place + size ≤ length text
  number_inside = leb-true (place + size) (length text) parts.0

  pub number_put : {room o r : ℕ} {out new : List ℕ} → Put (take size (drop place text)) room o r out new → Put (tree_text (number_of text (node_at i table))) room o r out new
  unfolding render
  number_put w = put_as (ap tree_text (number_is table text i place size ep es ∙ pick_true _ _ _ parts.0 ∙ pick_true _ _ _ parts.1)) w

-- a leaf that is fit counts itself alone, and goes by its kind
module _ (text store : List ℕ) (v : Node) (f : is_fit (leaf_of text store v) ≡ true) where
  counts : v.count ≡ 1
  counts = eqb-true v.count 1 (fit_need (eqb v.count 1) _ f).0

  string_tree : (x : Maybe (List ℕ)) → tree_text (bind x (λ bs. just (string bs))) ≡ string_text x
  unfolding render
  string_tree (just bs) = refl
  string_tree nothing = refl

  module _ {room o r : ℕ} {out new : List ℕ} where
    pub leaf_string : 4 < v.kind → Put (string_text (string_of text store v)) room o r out new → Put (tree_text (leaf_of text store v)) room o r out new
    leaf_string h w = put_as (ap tree_text (leaf_scalar text store v counts ∙ scalar_string text store v (omega arith) (omega arith)) ∙ string_tree (string_of text store v)) w

    pub leaf_number : 2 < v.kind → v.kind ≤ 4 → Put (tree_text (number_of text v)) room o r out new → Put (tree_text (leaf_of text store v)) room o r out new
    leaf_number h g w = put_as (ap tree_text (leaf_scalar text store v counts ∙ scalar_number text store v (omega arith) (omega arith))) w

    pub leaf_word : v.kind ≤ 2 → Put (render (word_of v.kind)) room o r out new → Put (tree_text (leaf_of text store v)) room o r out new
    leaf_word h w = put_as (ap tree_text (leaf_scalar text store v counts ∙ scalar_word text store v (omega arith))) w

  pub string_fit : 4 < v.kind → is_fit (string_of text store v) ≡ true
  string_fit h = fit_string text store v counts (omega arith) refl ∙ f

  pub number_fit : 2 < v.kind → v.kind ≤ 4 → is_fit (number_of text v) ≡ true
  number_fit h g = fit_number text store v counts (omega arith) (omega arith) refl ∙ f

-- a key that is fit, and its colon
module _ (table text store : List ℕ) (i : ℕ) (f : is_fit (label_at Pairs text store (drop i (nodes_in table))) ≡ true) where
  one : count_at (drop i (nodes_in table)) ≡ 1
  one = split (eqb (count_at (drop i (nodes_in table))) 1) (λ e. eqb-true _ 1 e)
      (λ e. unfit_never _ (key_counts table text store i _ refl (eqb-false (count_at (drop i (nodes_in table))) 1 e)) f)

  pub key_there : Inside table i
  key_there = key_inside table text store i _ refl one

  pub key_holds : is_fit (string_of text store (node_at i table)) ≡ true
  key_holds = sym (ap is_fit (key_string table text store i _ refl one)) ∙ f

  colon : (x : Maybe (List ℕ)) → is_fit x ≡ true → label_text Pairs x ≡ string_text x ++ (0x3a ∷ [])
  colon (just bs) e = refl
  colon nothing e = false_true e

  pub key_put : {room o p r : ℕ} {out mid new : List ℕ} → Put (string_text (string_of text store (node_at i table))) room o p out mid → Put (0x3a ∷ []) room p r mid new
      → Put (label_text Pairs (label_at Pairs text store (drop i (nodes_in table)))) room o r out new
  key_put a b =
      let e = key_string table text store i _ refl one in
      put_as (ap (label_text Pairs) e ∙ colon (string_of text store (node_at i table)) key_holds) (put_then a b)

-- what stands before a member
module _ (b : Sort) (table text store : List ℕ) (i : ℕ) {room o : ℕ} {out : List ℕ} where
  pub label_items : b ≡ Items → Put (label_text b (label_at b text store (drop i (nodes_in table)))) room o o out out
  unfolding label_at
  label_items e = rw e put_none

  pub label_pairs : {r : ℕ} {new : List ℕ} → b ≡ Pairs → Put (label_text Pairs (label_at Pairs text store (drop i (nodes_in table)))) room o r out new
      → Put (label_text b (label_at b text store (drop i (nodes_in table)))) room o r out new
  label_pairs e t = rw e t

pub key_fit : (b : Sort) (table text store : List ℕ) (i : ℕ) → b ≡ Pairs → is_fit (label_at b text store (drop i (nodes_in table))) ≡ true
    → is_fit (label_at Pairs text store (drop i (nodes_in table))) ≡ true
key_fit b table text store i e f = rw e at f
