-- The text of a group that is fit: what is put already, and then what the members from one on are written as; a turn puts one.
-- Assumes nothing.
use Prim.Native.Nat.{ℕ, suc, ◌+◌, ◌-◌, ◌*◌, ◌/◌, ◌≤◌, ◌<◌}
use mathlib.Core.Bool.{Bool, true, false, ◌&&◌}
use mathlib.Core.List.{List, [], ◌∷◌, ◌++◌, append_assoc, append-nil}
use mathlib.Core.Path.{◌≡◌, refl, sym, ap, ◌∙◌}
use native.Mathlib.Omega.{arith}
use borrow.Author.Tests.{leb-true, leb-false}
use lib.Dec.{leb, eqb}
use lib.ListN.{length, get_or, drop}
use lib.Seq.{drop-drop}
use Rattle.prelude.proofs.Cases.{split, and_left, and_right}
use Rattle.prelude.proofs.Picks.{pick_true}
use Rattle.json8.specs.declared.nodes.Sort.{Sort}
use Rattle.json8.specs.declared.nodes.Sort.TheVariants.{Items}
use Rattle.json8.specs.Nodes.{Node}
use Rattle.prelude.specs.Limits.{node_max}
use Rattle.json8.specs.Values.{close_of}
use Rattle.trees.specs.Trees.{Label, Tree, branch, Members, none, one, open_of, comma, render, render_label, render_members}
use Rattle.trees.specs.Tables.{Maybe, just, nothing, bind, nodes_in, count_at, label_size, label_at, member_size, TreeReader, members_at, tree_at, grouped}
use Rattle.json8_fit.specs.Fitness.{is_fit}
use Rattle.rooms.specs.inner.Puts.{Put}
use Rattle.json8_fit.specs.inner.Steps.{node_at, Inside, within, member_fit}
use Rattle.json8_write.specs.inner.Texts.{tree_text, label_text, render_body, body_text, member_text}
use Rattle.rooms.proofs.Puts.{put_as, put_none, put_then}
use Rattle.json8_fit.proofs.TableNodes.{behind_label}
use Rattle.json8_fit.proofs.Choices.{fit_need, false_true, unfit_never, value_end, group_deep, group_empty, group_is}
use Rattle.json8_fit.proofs.Fitting.{members_fit, group_fit, root_member}

-- a value that is fit stands in the table
pub value_there : (table text store : List ℕ) (left i : ℕ) → is_fit (tree_at left text store (drop i (nodes_in table))) ≡ true → Inside table i
value_there table text store left i f =
    split (leb (length table / 4) i)
    (λ h. unfit_never _ (value_end table text store left i (leb-true (length table / 4) i h)) f)
    (λ h. leb-false (length table / 4) i h)

-- a member's comma, key and value
module _ (b : Sort) (table text store : List ℕ) (left i : ℕ) (first : Bool) (k : ℕ) (ek : k ≡ label_size b) where
  behind : drop (label_size b) (drop i (nodes_in table)) ≡ drop (i + k) (nodes_in table)
  behind = behind_label b table i k ek

  pub value_fit : is_fit (tree_at left text store (drop (label_size b) (drop i (nodes_in table)))) ≡ true → is_fit (tree_at left text store (drop (i + k) (nodes_in table))) ≡ true
  value_fit f = rw behind at f

  pub member_put : {room o p q r : ℕ} {out mid on new : List ℕ} → Put (comma first) room o p out mid
      → Put (label_text b (label_at b text store (drop i (nodes_in table)))) room p q mid on
      → Put (tree_text (tree_at left text store (drop (i + k) (nodes_in table)))) room q r on new
      → Put (member_text b (label_at b text store) (tree_at left text store) first (drop i (nodes_in table))) room o r out new
  member_put a c d = put_then a (put_then c (put_as (ap (λ (r : List Node). tree_text (tree_at left text store r)) behind) d))

-- members are the first of them and the others
module _ (b : Sort) (label : List Node → Maybe (Label b)) (tree : TreeReader) where
  three : (first : Bool) (x : Maybe (Label b)) (y : Maybe Tree) (z : Maybe (Members b)) → is_fit x ≡ true → is_fit y ≡ true → is_fit z ≡ true
      → body_text first (bind x (λ k. bind y (λ t. bind z (λ ms. just (one k t ms)))))
      ≡ (comma first ++ (label_text b x ++ tree_text y)) ++ body_text false z
  unfolding render_body
  three first (just k) (just t) (just ms) a c d = refl
  three first (just k) (just t) nothing a c d = false_true d
  three first (just k) nothing z a c d = false_true c
  three first nothing y z a c d = false_true a

  module _ (first : Bool) (c w : ℕ) (r : List Node) (f : is_fit (members_at b label tree (suc c) w r) ≡ true) where
    both : member_fit b label tree w r && is_fit (members_at b label tree c (w - member_size b r) (drop (member_size b r) r)) ≡ true
    both = sym (members_fit b label tree c w r) ∙ f

    pub first_inside : leb (member_size b r) w ≡ true
    first_inside = and_left _ _ (and_left _ _ both)

    pub first_label : is_fit (label r) ≡ true
    first_label = and_left _ _ (and_right (leb (member_size b r) w) _ (and_left _ _ both))

    pub first_tree : is_fit (tree (drop (label_size b) r)) ≡ true
    first_tree = and_right (is_fit (label r)) _ (and_right (leb (member_size b r) w) _ (and_left _ _ both))

    pub others : is_fit (members_at b label tree c (w - member_size b r) (drop (member_size b r) r)) ≡ true
    others = and_right (member_fit b label tree w r) _ both

    pub members_text : body_text first (members_at b label tree (suc c) w r)
        ≡ member_text b label tree first r ++ body_text false (members_at b label tree c (w - member_size b r) (drop (member_size b r) r))
    unfolding members_at
    members_text =
        ap (body_text first) (pick_true _ _ _ first_inside)
        ∙ three first (label r) (tree (drop (label_size b) r)) (members_at b label tree c (w - member_size b r) (drop (member_size b r) r)) first_label first_tree others

  pub last_text : (first : Bool) (w : ℕ) (r : List Node) → is_fit (members_at b label tree 0 w r) ≡ true → body_text first (members_at b label tree 0 w r) ≡ []
  unfolding members_at render_body
  last_text first w r f = ap (body_text first) (pick_true _ _ _ (fit_need (eqb w 0) _ f).0)

-- the loop's invariant: `done` is put, and the rest of the text is that of the members from `at` on, which fill w nodes
pub record Loop (b : Sort) (table text store : List ℕ) (left room : ℕ) (want : List ℕ) (p₀ : ℕ) (out₀ : List ℕ) (members at p : ℕ) (first : Bool) (out : List ℕ) : Type 0 where
  pub w : ℕ
  pub fit : is_fit (within b table text store left members w at) ≡ true
  pub bound : at + w ≤ node_max
  pub done : List ℕ
  pub same : want ≡ done ++ body_text first (within b table text store left members w at)
  pub put : Put done room p₀ p out₀ out
  pub long : length out ≡ length out₀

pub begun : (b : Sort) (table text store : List ℕ) (left room members w i o : ℕ) (out : List ℕ) → i + w ≤ node_max → is_fit (within b table text store left members w i) ≡ true
    → Loop b table text store left room (body_text true (within b table text store left members w i)) o out members i o true out
begun b table text store left room members w i o out h f =
    record { w = w; fit = f; bound = h; done = []; same = refl; put = put_none; long = refl }

-- a group that is fit: a bracket may be opened, and it counts itself
module _ (b : Sort) (table text store : List ℕ) (left i : ℕ) (f : is_fit (grouped left text store b (node_at i table) (drop (i + 1) (nodes_in table))) ≡ true) where
  pub opens : left ≡ 0 → ⊥
  opens e = unfit_never _ (group_deep b table text store left i e) f

  pub counts : get_or table (4 * i + 1) 0 ≡ 0 → ⊥
  counts e = unfit_never _ (group_empty b table text store left i opens e) f

  module _ (c n : ℕ) (ec : c ≡ get_or table (4 * i + 1) 0) (en : n ≡ get_or table (4 * i + 3) 0) where
    pub inner_fit : is_fit (within b table text store (left - 1) n (c - 1) (i + 1)) ≡ true
    inner_fit = group_fit b table text store left i ec en opens (λ z. counts (sym ec ∙ z)) ∙ f

    body_close : (first : Bool) (ms : Members b) → render_members first ms ≡ render_body first ms ++ (close_of b ∷ [])
    unfolding render_members render_body
    body_close first none = refl
    body_close first (one k t ms) =
        let e = body_close false ms in
        rw e (sym (append_assoc (comma first ++ (render_label b k ++ render t)) (render_body false ms) (close_of b ∷ [])
        ∙ append_assoc (comma first) (render_label b k ++ render t) (render_body false ms ++ (close_of b ∷ []))
        ∙ ap (λ (l : List ℕ). comma first ++ l) (append_assoc (render_label b k) (render t) (render_body false ms ++ (close_of b ∷ [])))))

    branched : (x : Maybe (Members b)) → is_fit x ≡ true → tree_text (bind x (λ ms. just (branch b ms))) ≡ (open_of b ∷ []) ++ (body_text true x ++ (close_of b ∷ []))
    unfolding render
    branched (just ms) e = ap (λ (l : List ℕ). open_of b ∷ l) (body_close true ms)
    branched nothing e = false_true e

    pub group_put : {room o p q r : ℕ} {out mid on new : List ℕ} → Put (open_of b ∷ []) room o p out mid
        → Put (body_text true (within b table text store (left - 1) n (c - 1) (i + 1))) room p q mid on → Put (close_of b ∷ []) room q r on new
        → Put (tree_text (grouped left text store b (node_at i table) (drop (i + 1) (nodes_in table)))) room o r out new
    group_put a d e =
        let k : within b table text store (left - 1) n (c - 1) (i + 1) ≡ within b table text store (left - 1) (get_or table (4 * i + 3) 0) (get_or table (4 * i + 1) 0 - 1) (i + 1) =
        (λ j. within b table text store (left - 1) (en j) (ec j - 1) (i + 1)) in
        put_as (ap tree_text (group_is b table text store left i opens counts) ∙ ap (λ (x : Maybe (Members b)). tree_text (bind x (λ ms. just (branch b ms)))) (sym k)
        ∙ branched (within b table text store (left - 1) n (c - 1) (i + 1)) inner_fit)
        (put_then a (put_then d e))

module _ (b : Sort) (table text store : List ℕ) (left room : ℕ) (want : List ℕ) (p₀ : ℕ) (out₀ : List ℕ) (members at p : ℕ) (first : Bool) (out : List ℕ)
    (i : Loop b table text store left room want p₀ out₀ members at p first out) where
  module _ (h : 0 < members) where
    abbrev here : List Node
    here = drop at (nodes_in table)

    one_more : members ≡ suc (members - 1)
    one_more = omega arith

    fit_on : is_fit (members_at b (label_at b text store) (tree_at left text store) (suc (members - 1)) i.w here) ≡ true
    fit_on = ap (λ (n : ℕ). is_fit (within b table text store left n i.w at)) (sym one_more) ∙ i.fit

    pub turn_size : member_size b here ≤ i.w
    turn_size = leb-true (member_size b here) i.w (first_inside b (label_at b text store) (tree_at left text store) first (members - 1) i.w here fit_on)

    pub turn_bound : at + member_size b here ≤ node_max
    turn_bound = omega (arith, turn_size, i.bound)

    pub turn_label : is_fit (label_at b text store here) ≡ true
    turn_label = first_label b (label_at b text store) (tree_at left text store) first (members - 1) i.w here fit_on

    pub turn_tree : is_fit (tree_at left text store (drop (label_size b) here)) ≡ true
    turn_tree = first_tree b (label_at b text store) (tree_at left text store) first (members - 1) i.w here fit_on

    pub further : {q s : ℕ} {new : List ℕ} → Put (member_text b (label_at b text store) (tree_at left text store) first here) room p q out new → s ≡ member_size b here → length new ≡ length out
        → Loop b table text store left room want p₀ out₀ (members - 1) (at + s) q false new
    further {q} {s} {new} t es l =
        let m = member_size b here in
        let d : drop m here ≡ drop (at + s) (nodes_in table) = drop-drop m at (nodes_in table) ∙ ap (λ (x : ℕ). drop (at + x) (nodes_in table)) (sym es) in
        record {
          w = i.w - m;
          fit = rw d at (others b (label_at b text store) (tree_at left text store) first (members - 1) i.w here fit_on);
          bound = omega (arith, i.bound, turn_size);
          done = i.done ++ member_text b (label_at b text store) (tree_at left text store) first here;
          same =
              i.same ∙ ap (λ (n : ℕ). i.done ++ body_text first (within b table text store left n i.w at)) one_more
              ∙ ap (λ (l : List ℕ). i.done ++ l) (members_text b (label_at b text store) (tree_at left text store) first (members - 1) i.w here fit_on)
              ∙ ap (λ (r : List Node). i.done ++ (member_text b (label_at b text store) (tree_at left text store) first here ++ body_text false (members_at b (label_at b text store) (tree_at left text store) (members - 1) (i.w - m) r))) d
              ∙ sym (append_assoc i.done _ _);
          put = put_then i.put t;
          long = l ∙ i.long;
        }

  pub ended : members ≤ 0 → Put want room p₀ p out₀ out
  ended h =
      let z : members ≡ 0 = omega arith in
      let f : is_fit (within b table text store left 0 i.w at) ≡ true = ap (λ (n : ℕ). is_fit (within b table text store left n i.w at)) (sym z) ∙ i.fit in
      put_as
      (i.same ∙ ap (λ (n : ℕ). i.done ++ body_text first (within b table text store left n i.w at)) z
      ∙ ap (λ (l : List ℕ). i.done ++ l) (last_text b (label_at b text store) (tree_at left text store) first i.w (drop at (nodes_in table)) f)
      ∙ append-nil i.done)
      i.put

-- the root is the one member of its nodes
module _ (table text store : List ℕ) (left c : ℕ) (e : c ≡ count_at (drop 0 (nodes_in table))) (f : is_fit (tree_at left text store (drop 0 (nodes_in table))) ≡ true) where
  pub root_within : is_fit (within Items table text store left 1 c 0) ≡ true
  root_within = root_member table text store left c e ∙ f

  pub root_text : body_text true (within Items table text store left 1 c 0) ≡ tree_text (tree_at left text store (drop 0 (nodes_in table)))
  unfolding label_at
  root_text =
      let m = member_size Items (nodes_in table) in
      members_text Items (label_at Items text store) (tree_at left text store) true 0 c (nodes_in table) root_within
      ∙ ap (λ (l : List ℕ). tree_text (tree_at left text store (nodes_in table)) ++ l)
      (last_text Items (label_at Items text store) (tree_at left text store) false (c - m) (drop m (nodes_in table))
      (others Items (label_at Items text store) (tree_at left text store) true 0 c (nodes_in table) root_within))
      ∙ append-nil (tree_text (tree_at left text store (nodes_in table)))
