-- Members as they are written: one is read with its key, the loop goes on behind its comma, and ends behind the closing bracket.
-- Assumes nothing.
use Prim.Native.Nat.{ℕ, zero, suc, ◌+◌, ◌≤◌, ◌<◌}
use native.Mathlib.Nat.{zero-add, add-zero}
use mathlib.Core.Bool.{true, false}
use mathlib.Core.List.{List, [], ◌∷◌, ◌++◌, append_assoc, append-nil}
use mathlib.Core.Path.{◌≡◌, refl, sym, ap, ◌∙◌}
use native.Mathlib.Omega.{arith}
use lib.Dec.{eqb}
use lib.ListN.{length, drop, length-append}
use lib.Seq.{drop-drop}
use borrow.Author.Tests.{eq-eqb}
use Rattle.prelude.specs.Pick.{pick}
use Rattle.prelude.proofs.Cases.{never}
use Rattle.prelude.specs.Bytes.{IsBytes}
use Rattle.strings_write.specs.Write.{write_string}
use Rattle.tokens.specs.declared.starts.Start.{Start}
use Rattle.tokens.specs.Blanks.{is_space, blanks_from}
use Rattle.tokens.specs.Words.{is_letter, is_word}
use Rattle.tokens.specs.Numbers.{is_e, is_sign, is_number}
use Rattle.tokens.specs.Starts.{start_of, colon_at, comma_at}
use Rattle.json8.specs.declared.nodes.Sort.{Sort}
use Rattle.json8.specs.declared.nodes.Sort.TheVariants.{Items, Pairs}
use Rattle.json8.specs.Nodes.{Node, got, Reader, seq}
use Rattle.prelude.specs.Limits.{node_max}
use Rattle.json8.specs.Leaves.{spaces, marked, colon, comma, string, key_by, key}
use Rattle.json8.specs.Values.{close_of, member_of, close_or, round, again, members, value}
use Rattle.json8.proofs.Fair.{members_skip}
use Rattle.json8.proofs.Limited.{limited_free}
use Rattle.trees.specs.Trees.{Label, Tree, Members, none, one, render_label, render, render_members}
use Rattle.trees.specs.Tables.{label_size}
use Rattle.trees.specs.Sound.{SoundLabel}
use Rattle.trees.specs.Sizes.{size_of, sizes_of, label_kept, store_of, stores_of}
use Rattle.trees.specs.Claims.{Stops}
use Rattle.trees.proofs.Firsts.{solid, Heads, heads_append, heads_firm, head_open, seq_firm}
use Rattle.trees.proofs.Meanings.{MemberMeant, RowMeant, item_meant, pair_meant, row_none, row_next}
use Rattle.trees.proofs.Leaves.{Token}
use Rattle.trees.proofs.WrittenTokens.{written_begins, behind, seq_both, Back, string_at, string_kept}

-- the marks behind a member
close_firm : (b : Sort) → solid (close_of b) ≡ true
unfolding solid is_space pick
close_firm Items = refl
close_firm Pairs = refl

comma_open : (b : Sort) → eqb 0x2c (close_of b) ≡ false
comma_open Items = refl
comma_open Pairs = refl

close_stops : (b : Sort) (r : List ℕ) → Stops (close_of b ∷ r)
unfolding is_word is_letter is_number is_sign is_e pick
close_stops Items r = (refl, refl)
close_stops Pairs r = (refl, refl)

comma_stops : (r : List ℕ) → Stops (0x2c ∷ r)
unfolding is_word is_letter is_number is_sign is_e pick
comma_stops r = (refl, refl)

label_heads : (b : Sort) (k : Label b) (s : List ℕ) → Heads s → Heads (render_label b k ++ s)
label_heads Items k s h = h
label_heads Pairs k s h = heads_append (render_label Pairs k) s (heads_append (write_string k) (0x3a ∷ []) (written_begins k []).1)

-- one round of the loop
member_here : (b : Sort) (rd : Reader) (p n m : ℕ) (s : List ℕ) → Heads s
    → round (close_of b) rd p n m s ≡ seq rd (seq spaces (comma (close_of b))) p n m s
unfolding close_or pick
member_here b rd p n m [] h = absurd h
member_here b rd p n m (x ∷ r) h = seq_firm (close_or (close_of b) rd) p n m (x ∷ r) (heads_firm (x ∷ r) h) ∙ rw (head_open b x h)

-- the loop: its last round, and one before
loop_ends : (close : ℕ) (rd : Reader) (p n m : ℕ) (s : List ℕ) (l u : ℕ) (ns : List Node) (bs : List ℕ) → u ≤ 1
    → round close rd p n m s ≡ got l u ns bs → members close rd p n m 0 s ≡ got l u ns bs
unfolding members seq spaces blanks_from close_or
loop_ends close rd p n m [] l u ns bs h e = never (cc)
loop_ends close rd p n m (x ∷ r) l zero ns bs h e = rw e
loop_ends close rd p n m (x ∷ r) l (suc zero) ns bs h e = rw e
loop_ends close rd p n m (x ∷ r) l (suc (suc u)) ns bs h e = absurd (omega arith)

loop_next : (close : ℕ) (rd : Reader) (p n m : ℕ) (s : List ℕ) (l u : ℕ) (ns : List Node) (bs : List ℕ) → round close rd p n m s ≡ got (suc l) (suc (suc u)) ns bs
    → members close rd p n m 0 s ≡ again (suc l) ns bs (members close rd (p + suc l) (n + length ns) (m + length bs) 0 (drop (suc l) s))
unfolding members seq spaces blanks_from close_or
loop_next close rd p n m [] l u ns bs e = never (cc)
loop_next close rd p n m (x ∷ r) l u ns bs e = rw e (ap (again (suc l) ns bs) (members_skip close rd (p + suc l) (n + length ns) (m + length bs) l r))

module _ (text : List ℕ) where
  -- a member
  record MemberBack (b : Sort) (d : ℕ) (k : Label b) (t : Tree) (p n m : ℕ) : Type 0 where
    pub nodes : List Node
    pub bytes : List ℕ
    pub read : member_of b (value d) p n m (drop p text) ≡ got (length (render_label b k ++ render t)) 0 nodes bytes
    pub meant : MemberMeant text b d m nodes bytes k t
    pub kept : length bytes ≡ label_kept b k + store_of t

  key_read : (p n m : ℕ) (s r : List ℕ) → drop p text ≡ write_string s ++ r → n < node_max → (x : Token text m p s (length (write_string s)))
      → key p n m (drop p text) ≡ got (length (write_string s)) 0 (x.top ∷ []) x.kept
  unfolding key
  key_read p n m s r e h x =
      ap (λ (q : Start). key_by q p n m (drop p text)) (ap start_of e ∙ (written_begins s r).0) ∙ limited_free string p n m (drop p text) h ∙ x.read n

  colon_read : (v : Reader) (p n m : ℕ) (r : List ℕ) (l : ℕ) (ns : List Node) (bs : List ℕ) → drop p text ≡ 0x3a ∷ r → Heads r
      → v (p + 1) n m (drop (p + 1) text) ≡ got l 0 ns bs → seq spaces (seq colon (seq spaces v)) p n m (drop p text) ≡ got (1 + l) 0 ns bs
  unfolding colon colon_at solid is_space pick
  colon_read v p n m r l ns bs e h f =
      let q : drop (p + 1) text ≡ r = behind text p (0x3a ∷ []) r e in
      seq_firm (seq colon (seq spaces v)) p n m (drop p text) (rw e refl)
      ∙ seq_both text colon (seq spaces v) p n m 1 2 [] [] l 0 ns bs (rw e refl)
      (rw (add-zero n, add-zero m) (seq_firm v (p + 1) n m (drop (p + 1) text) (rw q (heads_firm r h)) ∙ f))

  pair_back : (d p n m : ℕ) (k : List ℕ) (t : Tree) (r : List ℕ) → drop p text ≡ render_label Pairs k ++ (render t ++ r) → IsBytes k → Heads (render t)
      → n < node_max → ((p m : ℕ) → drop p text ≡ render t ++ r → Back text d t p (n + 1) m) → MemberBack Pairs d k t p n m
  pair_back d p n m k t r e b g h f =
      let w : List ℕ = write_string k in
      let a : drop p text ≡ w ++ (0x3a ∷ (render t ++ r)) = e ∙ append_assoc w (0x3a ∷ []) (render t ++ r) in
      let c : drop (p + length w) text ≡ 0x3a ∷ (render t ++ r) = behind text p w (0x3a ∷ (render t ++ r)) a in
      let x = string_at text p m k (0x3a ∷ (render t ++ r)) a b in
      let v = f (p + length w + 1) (m + length x.kept) (behind text (p + length w) (0x3a ∷ []) (render t ++ r) c) in
      let l : length w + (1 + length (render t)) ≡ length ((w ++ (0x3a ∷ [])) ++ render t) =
      omega (arith, length-append (w ++ (0x3a ∷ [])) (render t), length-append w (0x3a ∷ [])) in
      record {
        nodes = x.top ∷ v.nodes;
        bytes = x.kept ++ v.bytes;
        read =
            rw (← l)
            (seq_both text key (seq spaces (seq colon (seq spaces (value d)))) p n m (length w) 0 (x.top ∷ []) x.kept (1 + length (render t)) 0 v.nodes v.bytes
            (key_read p n m k (0x3a ∷ (render t ++ r)) a h x)
            (colon_read (value d) (p + length w) (n + 1) (m + length x.kept) (render t ++ r) (length (render t)) v.nodes v.bytes c (heads_append (render t) r g) v.read));
        meant = pair_meant text d m x.top x.kept k v.nodes v.bytes t x.spelt v.meant;
        kept = omega (arith, length-append x.kept v.bytes, string_kept text p m k (0x3a ∷ (render t ++ r)) a b, v.kept);
      }

  member_back : (b : Sort) (d p n m : ℕ) (k : Label b) (t : Tree) (r : List ℕ) → drop p text ≡ render_label b k ++ (render t ++ r) → SoundLabel b k → Heads (render t)
      → n + (label_size b + size_of t) ≤ node_max → ((p n m : ℕ) → drop p text ≡ render t ++ r → n + size_of t ≤ node_max → Back text d t p n m) → MemberBack b d k t p n m
  member_back Items d p n m k t r e s g h f =
      let v = f p n m e (omega arith) in
      record { nodes = v.nodes; bytes = v.bytes; read = v.read; meant = item_meant text d m v.nodes v.bytes t v.meant; kept = v.kept ∙ sym (zero-add (store_of t)) }
  member_back Pairs d p n m k t r e s g h f = pair_back d p n m k t r e s g (omega arith) (λ p m e. f p (n + 1) m e (omega arith))

  -- a member, and the mark behind it
  round_back : (b : Sort) (rd : Reader) (p n m l : ℕ) (ns : List Node) (bs : List ℕ) (y tag : ℕ) (r : List ℕ) → Heads (drop p text)
      → rd p n m (drop p text) ≡ got l 0 ns bs → drop (p + l) text ≡ y ∷ r → solid y ≡ true
      → ((q : ℕ) → marked q (comma_at (close_of b) (y ∷ r)) ≡ got 1 tag [] []) → round (close_of b) rd p n m (drop p text) ≡ got (l + 1) tag ns bs
  unfolding comma
  round_back b rd p n m l ns bs y tag r h e z f g =
      let k : seq spaces (comma (close_of b)) (p + l) (n + length ns) (m + length bs) (drop (p + l) text) ≡ got 1 tag [] [] =
      rw z (seq_firm (comma (close_of b)) (p + l) (n + length ns) (m + length bs) (y ∷ r) f ∙ g (p + l)) in
      member_here b rd p n m (drop p text) h
      ∙ (rw (append-nil ns, append-nil bs) at (seq_both text rd (seq spaces (comma (close_of b))) p n m l 0 ns bs 1 tag [] [] e k))

  -- the members from one on, and the closing bracket
  pub record RowBack (b : Sort) (d : ℕ) (ms : Members b) (p n m : ℕ) : Type 0 where
    pub count : ℕ
    pub nodes : List Node
    pub bytes : List ℕ
    pub read : members (close_of b) (member_of b (value d)) p n m 0 (drop p text) ≡ got (length (render_members true ms)) count nodes bytes
    pub meant : RowMeant text b d m count nodes bytes ms
    pub kept : length bytes ≡ stores_of ms

  pub none_back : (b : Sort) (d p n m : ℕ) (r : List ℕ) → drop p text ≡ close_of b ∷ r → RowBack b d none p n m
  unfolding render_members stores_of close_or pick
  none_back b d p n m r e =
      record {
        count = 0;
        nodes = [];
        bytes = [];
        read =
            loop_ends (close_of b) (member_of b (value d)) p n m (drop p text) 1 0 [] [] (omega arith)
            (rw e (seq_firm (close_or (close_of b) (member_of b (value d))) p n m (close_of b ∷ r) (close_firm b) ∙ rw (eq-eqb (close_of b) (close_of b) refl)));
        meant = row_none text b d m;
        kept = refl;
      }

  -- a member in front of the others
  module _ (b : Sort) (d p n m : ℕ) (k : Label b) (t : Tree) (v : MemberBack b d k t p n m) (g : Heads (drop p text)) where
    abbrev taken : ℕ
    taken = length (render_label b k ++ render t)

    length_one : (ms : Members b) → length (render_members true (one k t ms)) ≡ taken + length (render_members false ms)
    unfolding render_members
    length_one ms =
        ap length (sym (append_assoc (render_label b k) (render t) (render_members false ms)))
        ∙ length-append (render_label b k ++ render t) (render_members false ms)

    last_back : (r : List ℕ) → drop (p + taken) text ≡ close_of b ∷ r → RowBack b d (one k t none) p n m
    unfolding render_members stores_of comma_at pick
    last_back r e =
        record {
          count = 1;
          nodes = v.nodes;
          bytes = v.bytes;
          read =
              loop_ends (close_of b) (member_of b (value d)) p n m (drop p text) (taken + 1) 1 v.nodes v.bytes (omega arith)
              (round_back b (member_of b (value d)) p n m taken v.nodes v.bytes (close_of b) 1 r g v.read e (close_firm b) (λ q. rw (eq-eqb (close_of b) (close_of b) refl)))
              ∙ ap (λ (z : ℕ). got z 1 v.nodes v.bytes) (sym (length_one none));
          meant =
              rw (append-nil v.nodes, append-nil v.bytes) at
              (row_next text b d m 0 v.nodes v.bytes k t [] [] none v.meant (row_none text b d (m + length v.bytes)));
          kept = omega (arith, v.kept);
        }

    next_back : (ms : Members b) (r : List ℕ) → drop (p + taken) text ≡ 0x2c ∷ r → length (render_members false ms) ≡ suc (length (render_members true ms))
        → RowBack b d ms (p + suc taken) (n + length v.nodes) (m + length v.bytes) → RowBack b d (one k t ms) p n m
    unfolding stores_of comma_at solid is_space pick
    next_back ms r e l w =
        let o = round_back b (member_of b (value d)) p n m taken v.nodes v.bytes 0x2c 2 r g v.read e refl (λ q. rw (comma_open b)) in
        let i : taken + 1 ≡ suc taken = omega arith in
        record {
          count = suc w.count;
          nodes = v.nodes ++ w.nodes;
          bytes = v.bytes ++ w.bytes;
          read =
              loop_next (close_of b) (member_of b (value d)) p n m (drop p text) taken 0 v.nodes v.bytes (rw i at o)
              ∙ rw (drop-drop (suc taken) p text, w.read)
              (ap (λ (z : ℕ). got z (suc w.count) (v.nodes ++ w.nodes) (v.bytes ++ w.bytes)) (omega (arith, length_one ms)));
          meant = row_next text b d m w.count v.nodes v.bytes k t w.nodes w.bytes ms v.meant w.meant;
          kept = omega (arith, length-append v.bytes w.bytes, v.kept, w.kept);
        }

  -- a member with the text y behind it
  member_at : (b : Sort) (d p n m : ℕ) (k : Label b) (t : Tree) (y : List ℕ) → drop p text ≡ render_label b k ++ (render t ++ y) → SoundLabel b k → Heads (render t)
      → n + (label_size b + size_of t) ≤ node_max → ((p n m : ℕ) → drop p text ≡ render t ++ y → n + size_of t ≤ node_max → Back text d t p n m)
      → MemberBack b d k t p n m × Heads (drop p text) × (drop (p + length (render_label b k ++ render t)) text ≡ y)
  member_at b d p n m k t y e s g h f = (
    member_back b d p n m k t y e s g h f,
    rw e (label_heads b k (render t ++ y) (heads_append (render t) y g)),
    behind text p (render_label b k ++ render t) y (e ∙ sym (append_assoc (render_label b k) (render t) y)),
  )

  one_parts : (b : Sort) (p : ℕ) (k : Label b) (t : Tree) (ms : Members b) (r : List ℕ) → drop p text ≡ render_members true (one k t ms) ++ r
      → drop p text ≡ render_label b k ++ (render t ++ (render_members false ms ++ r))
  unfolding render_members
  one_parts b p k t ms r e =
      e ∙ append_assoc (render_label b k) (render t ++ render_members false ms) r
      ∙ ap (λ (z : List ℕ). render_label b k ++ z) (append_assoc (render t) (render_members false ms) r)

  pub one_back : (b : Sort) (d p n m : ℕ) (k : Label b) (t : Tree) (ms : Members b) (r : List ℕ) → drop p text ≡ render_members true (one k t ms) ++ r → SoundLabel b k → Heads (render t)
      → n + (label_size b + size_of t + sizes_of ms) ≤ node_max
      → ((y : List ℕ) → Stops y → (p n m : ℕ) → drop p text ≡ render t ++ y → n + size_of t ≤ node_max → Back text d t p n m)
      → ((p n m : ℕ) → drop p text ≡ render_members true ms ++ r → n + sizes_of ms ≤ node_max → RowBack b d ms p n m) → RowBack b d (one k t ms) p n m
  unfolding render_members
  one_back b d p n m k t none r e s g h f i =
      let y : List ℕ = close_of b ∷ r in
      let (v, a, c) = member_at b d p n m k t y (one_parts b p k t none r e) s g (omega arith) (f y (close_stops b r)) in
      last_back b d p n m k t v a r c
  one_back b d p n m k t (one k' t' ms) r e s g h f i =
      let z : List ℕ = render_members true (one k' t' ms) ++ r in
      let (v, a, c) = member_at b d p n m k t (0x2c ∷ z) (one_parts b p k t (one k' t' ms) r e) s g (omega arith) (f (0x2c ∷ z) (comma_stops z)) in
      let l : ℕ = length (render_label b k ++ render t) in
      let q : p + l + 1 ≡ p + suc l = omega arith in
      next_back b d p n m k t v a (one k' t' ms) z c refl
      (i (p + suc l) (n + length v.nodes) (m + length v.bytes) (rw q at (behind text (p + l) (0x2c ∷ []) z c)) (omega (arith, v.meant.size)))
