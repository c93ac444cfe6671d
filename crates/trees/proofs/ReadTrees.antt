-- Whatever is read of a text means a tree: by what begins at a place, by the members one after another, and by the brackets that are left.
-- Assumes nothing.
use Prim.Native.Nat.{ℕ, zero, suc, ◌+◌, ◌<◌}
use native.Mathlib.Nat.{add-zero}
use mathlib.Core.List.{List, [], ◌∷◌, ◌++◌, append-nil}
use mathlib.Core.Path.{◌≡◌, refl, sym, ap, ◌∙◌}
use native.Mathlib.Omega.{arith}
use lib.Dec.{ltb, eqb}
use lib.ListN.{length, drop}
use lib.Seq.{drop-drop}
use borrow.Author.Tests.{eqb-true, eqb-false}
use Rattle.prelude.proofs.Cases.{split}
use Rattle.prelude.proofs.Picks.{pick_case}
use Rattle.prelude.proofs.Suffix.{by_suffix}
use Rattle.prelude.specs.Bytes.{IsBytes}
use Rattle.strings.specs.Read.{StringRead, accepted, refused as unread, read_token}
use Rattle.string_claims.proofs.RoundTrip.{bytes_drop}
use Rattle.std.specs.Prelude.{Option, Some, None, Result, Ok, Err}
use Rattle.prelude.specs.declared.refusals.Refused.{Refused}
use Rattle.tokens.specs.declared.starts.Start.{Start}
use Rattle.tokens.specs.declared.starts.Start.TheVariants.{Ended, String as StringStart, Word as WordStart, Number as NumberStart, List as ListStart, Dict, Nothing}
use Rattle.tokens.specs.Starts.{Behind, closes, separates, lacks}
use Rattle.tokens.specs.Blanks.{blanks}
use Rattle.tokens.specs.Words.{word_of, same_bytes, word_value, null_word, false_word, true_word}
use Rattle.tokens.specs.Numbers.{number_kind, number_token, number_from, number_at}
use Rattle.tokens.specs.Starts.{start_of, colon_at, comma_at}
use Rattle.tokens.proofs.Progress.{Begun, start_begun}
use Rattle.json8.specs.declared.nodes.Sort.{Sort}
use Rattle.json8.specs.declared.nodes.Sort.TheVariants.{Items, Pairs}
use Rattle.json8.specs.Nodes.{Node, node, Read, got, refused, Reader, preceded, chain, seq, limited}
use Rattle.prelude.specs.Limits.{node_max, depth_max}
use Rattle.json8.specs.Leaves.{passed, spaces, marked, colon, comma, string, plain, word_read, word, number, key_by, key}
use Rattle.json8.specs.Values.{value_by, value_of, group_kind, close_of, member_of, close_or, round, again, follow, members, group_node as branched, group_of, group, value}
use Rattle.json8.specs.Read.{text_end, read_all}
use Rattle.json8.proofs.Fair.{members_skip}
use Rattle.trees.specs.Trees.{Label, Tree, string as stringTree, number as numberTree, branch, Members, none, one}
use Rattle.trees.proofs.DenotedBytes.{bytes_none, bytes_append, token_bytes_lem}
use Rattle.trees.proofs.Meanings.{Meant, Spelt, MemberMeant, RowMeant, string_meant, item_meant, pair_meant, row_none, row_next, branch_meant}
use Rattle.trees.proofs.Leaves.{string_token, key_spelt, number_is, number_meant, Word, null_meant, false_meant, true_meant}

module _ (text : List ℕ) where
  -- what holds of the store's bytes before, the tag, the nodes and the bytes read
  abbrev Of : Type 1
  Of = ℕ → ℕ → List Node → List ℕ → Type 0

  -- where something is got: a tag above 0 has taken a byte, and a text of bytes gives bytes
  abbrev pub Holds : Of → ℕ → Read → Type 0
  Holds P m (got l tag ns bs) = (0 < tag → 0 < l) × (IsBytes text → IsBytes bs) × P m tag ns bs
  Holds P m (refused refusal at) = Unit

  abbrev HoldsBy : Of → Reader → Type 0
  HoldsBy P a = (p n m : ℕ) → Holds P m (a p n m (drop p text))

  weaken : (P Q : Of) → ((m t : ℕ) (ns : List Node) (bs : List ℕ) → P m t ns bs → Q m t ns bs) → (m : ℕ) (r : Read) → Holds P m r → Holds Q m r
  weaken P Q f m (got l t ns bs) h = (h.0, h.1, f m t ns bs h.2)
  weaken P Q f m (refused refusal at) h = tt

  module _ (P Q R : Of) (join : (m t u : ℕ) (ns ms : List Node) (bs cs : List ℕ) → P m t ns bs → Q (m + length bs) u ms cs → R m u (ns ++ ms) (bs ++ cs)) where
    more_holds : (m l t : ℕ) (ns : List Node) (bs : List ℕ) (r : Read) → Holds P m (got l t ns bs) → Holds Q (m + length bs) r → Holds R m (preceded l ns bs r)
    more_holds m l t ns bs (got k u ms cs) h g = (
      λ z. let y = g.0 z in omega arith,
      λ b. bytes_append bs cs (h.1 b) (g.1 b),
      join m t u ns ms bs cs h.2 g.2,
    )
    more_holds m l t ns bs (refused refusal at) h g = tt

    seq_holds : (a b : Reader) → HoldsBy P a → HoldsBy Q b → HoldsBy R (seq a b)
    unfolding seq
    seq_holds a b h g p n m = go (a p n m (drop p text)) (h p n m)
      where
        go : (r : Read) → Holds P m r → Holds R m (chain r b p n m (drop p text))
        go (got l t ns bs) f =
            rw (drop-drop l p text)
            (more_holds m l t ns bs (b (p + l) (n + length ns) (m + length bs) (drop (p + l) text)) f (g (p + l) (n + length ns) (m + length bs)))
        go (refused refusal at) f = tt

  limited_holds : (P : Of) (a : Reader) (p n m : ℕ) → Holds P m (a p n m (drop p text)) → Holds P m (limited a p n m (drop p text))
  unfolding limited
  limited_holds P a p n m h = pick_case (Holds P m) (ltb n node_max) (a p n m (drop p text)) _ (λ e. h) (λ e. tt)

  -- readers without nodes
  abbrev Empty : Of
  Empty m t ns bs = (ns ≡ []) × (bs ≡ [])

  abbrev Marked : Of
  Marked m t ns bs = (0 < t) × Empty m t ns bs

  spaces_holds : HoldsBy Empty spaces
  unfolding spaces
  spaces_holds p n m = go (blanks (drop p text))
    where
      go : (r : Result ℕ Refused) → Holds Empty m (passed p r)
      go (Ok i) = (λ z. absurd (omega arith), λ b. bytes_none, (refl, refl))
      go (Err f) = tt

  mark_holds : (p m : ℕ) (r : Behind) → Holds Marked m (marked p r)
  mark_holds p m closes = (λ z. omega arith, λ b. bytes_none, (omega arith, (refl, refl)))
  mark_holds p m separates = (λ z. omega arith, λ b. bytes_none, (omega arith, (refl, refl)))
  mark_holds p m (lacks code) = tt

  colon_holds : HoldsBy Empty colon
  unfolding colon
  colon_holds p n m = weaken Marked Empty (λ m t ns bs h. h.1) m (marked p (colon_at (drop p text))) (mark_holds p m (colon_at (drop p text)))

  comma_holds : (close : ℕ) → HoldsBy Marked (comma close)
  unfolding comma
  comma_holds close p n m = mark_holds p m (comma_at close (drop p text))

  before : (P : Of) (a b : Reader) → HoldsBy Empty a → HoldsBy P b → HoldsBy P (seq a b)
  before P a b = seq_holds Empty P P (λ m t u ns ms bs cs h g. rw (h.0, h.1) (rw (h.1, add-zero m) at g)) a b

  -- one string, which may be a key; and one tree
  abbrev Keys : Of
  Keys m t ns bs = (v : Node) × (w : List ℕ) × (ns ≡ v ∷ []) × Spelt text m v bs w

  abbrev pub Trees : ℕ → Of
  Trees d m t ns bs = (u : Tree) × Meant text d m ns bs u

  string_holds : HoldsBy Keys string
  unfolding string
  string_holds p n m = go (read_token (drop p text)) refl
    where
      go : (r : StringRead) → read_token (drop p text) ≡ r → Holds Keys m (string p n m (drop p text))
      go (accepted bs e) t =
          let x = string_token text m p bs e t in
          rw (x.read n) (λ z. absurd (omega arith), λ b. x.bytes (token_bytes_lem (drop p text) bs e t (bytes_drop p text b)), (x.top, bs, refl, x.spelt))
      go (unread code at) t = rw t tt

  plain_holds : (P : Of) (kind len p n m : ℕ) → P m 0 (node kind 1 p len ∷ []) [] → Holds P m (limited (plain kind len) p n m (drop p text))
  unfolding plain
  plain_holds P kind len p n m h = limited_holds P (plain kind len) p n m (λ z. absurd (omega arith), λ b. bytes_none, h)

  key_holds : HoldsBy Keys key
  unfolding key
  key_holds p n m = go (start_of (drop p text)) (start_begun (drop p text))
    where
      go : (q : Start) → Begun (drop p text) q → Holds Keys m (key_by q p n m (drop p text))
      go StringStart b = limited_holds Keys string p n m (string_holds p n m)
      go WordStart b =
          plain_holds Keys 5 (length (word_of (drop p text))) p n m (node 5 1 p (length (word_of (drop p text))), word_of (drop p text), refl, key_spelt text m p b)
      go Ended b = tt
      go NumberStart b = tt
      go ListStart b = tt
      go Dict b = tt
      go Nothing b = tt

  -- a word's value
  abbrev Valued : ℕ → Option ℕ → Type 0
  Valued m (Some kind) = (t : Tree) × Word text m kind t
  Valued m None = Unit

  word_valued : (m : ℕ) (w : List ℕ) → Valued m (word_value w)
  unfolding word_value
  word_valued m w =
      pick_case (Valued m) (same_bytes w null_word) (Some 0) _ (λ e. (_, null_meant text m))
      (λ e. pick_case (Valued m) (same_bytes w false_word) (Some 1) _ (λ f. (_, false_meant text m))
      (λ f. pick_case (Valued m) (same_bytes w true_word) (Some 2) None (λ g. (_, true_meant text m)) (λ g. tt)))

  module _ (d : ℕ) where
    key_tree : (m t : ℕ) (ns : List Node) (bs : List ℕ) → Keys m t ns bs → Trees d m t ns bs
    key_tree m t ns bs (v, w, e, s) = rw e (stringTree w, string_meant text d m v bs w s)

    word_holds : HoldsBy (Trees d) word
    unfolding word
    word_holds p n m = go (word_value (word_of (drop p text))) (word_valued m (word_of (drop p text)))
      where
        go : (v : Option ℕ) → Valued m v → Holds (Trees d) m (word_read v (length (word_of (drop p text))) p n m (drop p text))
        go (Some kind) (t, h) = plain_holds (Trees d) kind (length (word_of (drop p text))) p n m (t, h d p (length (word_of (drop p text))))
        go None h = tt

    number_holds : HoldsBy (Trees d) number
    unfolding number number_at number_from
    number_holds p n m =
        let w : List ℕ = number_token (drop p text) in
        split (eqb (number_kind w) 0) (λ e. rw (eqb-true (number_kind w) 0 e) tt)
        (λ e. let h = eqb-false (number_kind w) 0 e in
        rw (number_is text m p h n) (plain_holds (Trees d) (number_kind w) (length w) p n m (numberTree w, number_meant text m p h d)))

    value_holds : (ls ds : Reader) → HoldsBy (Trees d) ls → HoldsBy (Trees d) ds → HoldsBy (Trees d) (value_of ls ds)
    unfolding value_of
    value_holds ls ds f g p n m = go (start_of (drop p text))
      where
        go : (q : Start) → Holds (Trees d) m (value_by ls ds q p n m (drop p text))
        go StringStart =
            weaken Keys (Trees d) key_tree m (limited string p n m (drop p text)) (limited_holds Keys string p n m (string_holds p n m))
        go WordStart = word_holds p n m
        go NumberStart = number_holds p n m
        go ListStart = f p n m
        go Dict = g p n m
        go Ended = tt
        go Nothing = tt

    -- a member
    abbrev Member : Sort → Of
    Member b m t ns bs = (k : Label b) × (u : Tree) × MemberMeant text b d m ns bs k u

    member_holds : (b : Sort) (v : Reader) → HoldsBy (Trees d) v → HoldsBy (Member b) (member_of b v)
    member_holds Items v h =
        λ p n m. weaken (Trees d) (Member Items) (λ m t ns bs (u, x). (tt, u, item_meant text d m ns bs u x)) m (v p n m (drop p text)) (h p n m)
    member_holds Pairs v h =
        seq_holds Keys (Trees d) (Member Pairs)
        (λ m t u ns ms bs cs (x, w, e, s) (y, z). rw e (w, y, pair_meant text d m x bs w ms cs y s z)) key (seq spaces (seq colon (seq spaces v))) key_holds
        (before (Trees d) spaces _ spaces_holds (before (Trees d) colon _ colon_holds (before (Trees d) spaces v spaces_holds h)))

    module _ (b : Sort) (close : ℕ) (member : Reader) (h : HoldsBy (Member b) member) where
      -- the closing bracket, or a member and what stands behind it
      abbrev Round : Of
      Round m zero ns bs = Empty m 0 ns bs
      Round m (suc t) ns bs = Member b m t ns bs

      marked_member : (m t u : ℕ) (ns ms : List Node) (bs cs : List ℕ) → Member b m t ns bs → Marked (m + length bs) u ms cs → Round m u (ns ++ ms) (bs ++ cs)
      marked_member m t zero ns ms bs cs f g = absurd (omega (arith, g.0))
      marked_member m t (suc u) ns ms bs cs f g = rw (g.1.0, g.1.1, append-nil ns, append-nil bs) f

      round_holds : HoldsBy Round (round close member)
      unfolding close_or
      round_holds = before Round spaces (close_or close member) spaces_holds (λ p n m. go p n m (drop p text) refl)
        where
          go : (p n m : ℕ) (s : List ℕ) → drop p text ≡ s → Holds Round m (close_or close member p n m s)
          go p n m [] e = tt
          go p n m (x ∷ r) e =
              pick_case (Holds Round m) (eqb x close) (got 1 0 [] []) _ (λ z. (λ y. omega arith, λ b. bytes_none, (refl, refl)))
              (λ z. rw e at
              (seq_holds (Member b) Marked Round marked_member member (seq spaces (comma close)) h (before Marked spaces (comma close) spaces_holds (comma_holds close)) p n m))

      -- members one after another
      abbrev Rows : Of
      Rows m c ns bs = (ms : Members b) × RowMeant text b d m c ns bs ms

      again_holds : (m l t : ℕ) (ns : List Node) (bs : List ℕ) (r : Read) → Holds (Member b) m (got l (suc t) ns bs) → Holds Rows (m + length bs) r
          → Holds Rows m (again l ns bs r)
      again_holds m l t ns bs (got k c os cs) (z, y, (i, u, x)) (f, g, (ms, w)) = (
        λ q. let j : 0 < l = z (omega arith) in omega arith,
        λ q. bytes_append bs cs (y q) (g q),
        (one i u ms, row_next text b d m c ns bs i u os cs ms x w),
      )
      again_holds m l t ns bs (refused refusal at) f g = tt

      abbrev Loop : List ℕ → Type 0
      Loop s = (p n m : ℕ) → drop p text ≡ s → Holds Rows m (members close member p n m 0 s)

      loop_one : (x : ℕ) (r : List ℕ) → ((k : ℕ) → Loop (drop k r)) → Loop (x ∷ r)
      unfolding members
      loop_one x r ih p n m e = go (round close member p n m (x ∷ r)) (rw e at (round_holds p n m))
        where
          go : (q : Read) → Holds Round m q → Holds Rows m (follow p n m q (λ q i j k. members close member q i j k r))
          go (refused refusal at) f = tt
          go (got l zero ns bs) (z, y, (a, c)) = (z, y, rw (a, c) (none, row_none text b d m))
          go (got l (suc zero) ns bs) (z, y, (i, u, x)) = (
            z,
            y,
            (one i u none, rw (append-nil ns, append-nil bs) at (row_next text b d m 0 ns bs i u [] [] none x (row_none text b d (m + length bs)))),
          )
          go (got zero (suc (suc t)) ns bs) (z, y, a) = absurd (let j : 0 < 0 = z (omega arith) in omega arith)
          go (got (suc l) (suc (suc t)) ns bs) f =
              rw (members_skip close member (p + suc l) (n + length ns) (m + length bs) l r)
              (again_holds m (suc l) (suc t) ns bs (members close member (p + suc l) (n + length ns) (m + length bs) 0 (drop l r)) f
              (ih l (p + suc l) (n + length ns) (m + length bs) (sym (drop-drop (suc l) p text) ∙ ap (drop (suc l)) e)))

      members_hold : (p n m : ℕ) → Holds Rows m (members close member p n m 0 (drop p text))
      unfolding members
      members_hold p n m = by_suffix Loop (λ p n m e. tt) loop_one (drop p text) p n m refl

    bracketed_holds : (b : Sort) (v : Reader) → HoldsBy (Trees d) v → HoldsBy (Trees (suc d)) (group_of b v)
    unfolding group_of
    bracketed_holds b v h p n m =
        rw (drop-drop 1 p text)
        (go (members (close_of b) (member_of b v) (p + 1) (n + 1) m 0 (drop (p + 1) text)) (members_hold b (close_of b) (member_of b v) (member_holds b v h) (p + 1) (n + 1) m))
      where
        go : (r : Read) → Holds (λ m c ns bs. (ms : Members b) × RowMeant text b d m c ns bs ms) m r → Holds (Trees (suc d)) m (branched (group_kind b) p r)
        go (got l c ns bs) (z, y, (ms, x)) = (λ q. omega arith, y, (branch b ms, branch_meant text b d m p c ns bs ms x))
        go (refused refusal at) f = tt

  opened_holds : (d : ℕ) (b : Sort) → HoldsBy (Trees d) (group d b)
  unfolding group
  opened_holds zero b p n m = tt
  opened_holds (suc d) b p n m =
      limited_holds (Trees (suc d)) (group_of b (value d)) p n m
      (bracketed_holds d b (value d) (value_holds d (group d Items) (group d Pairs) (opened_holds d Items) (opened_holds d Pairs)) p n m)

  finish_holds : HoldsBy Empty text_end
  unfolding text_end
  finish_holds p n m = go (drop p text)
    where
      go : (s : List ℕ) → Holds Empty m (text_end p n m s)
      go [] = (λ z. absurd (omega arith), λ b. bytes_none, (refl, refl))
      go (x ∷ r) = tt

  pub all_meant : Holds (Trees depth_max) 0 (read_all text)
  unfolding read_all
  all_meant =
      before (Trees depth_max) spaces (seq (value depth_max) (seq spaces text_end)) spaces_holds
      (seq_holds (Trees depth_max) Empty (Trees depth_max) (λ m t u ns ms bs cs f g. rw (g.0, g.1, append-nil ns, append-nil bs) f) (value depth_max) (seq spaces text_end)
      (value_holds depth_max (group depth_max Items) (group depth_max Pairs) (opened_holds depth_max Items) (opened_holds depth_max Pairs))
      (before Empty spaces text_end spaces_holds finish_holds)) 0 0 0
