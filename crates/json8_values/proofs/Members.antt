-- The members of a bracket in a loop: what is read from the loop's head on, behind the members passed, is what is read from the bracket on;
-- at the end the bracket's note goes in front of its members'.
-- Assumes nothing.
use mathlib.Core.Path.{◌≡◌, refl, sym, ap, ap₂, ◌∙◌, subst}
use mathlib.Core.List.{List, [], ◌∷◌, ◌++◌, append_assoc}
use Prim.Native.Nat.{ℕ, zero, suc, ◌+◌, ◌-◌, ◌≤◌, ◌<◌}
use native.Mathlib.Omega.{arith}
use native.Mathlib.Nat.{add-zero, zero-add}
use borrow.Author.Tests.{le-ltb, lt-ltb, eq-eqb, ne_eqb}
use lib.ListN.{length, get_or, set, drop, length-append, length-drop}
use lib.Seq.{sets, drop-drop}
use Rattle.prelude.specs.Limits.{text_max, node_max}
use Rattle.std.specs.Prelude.{Result, Err}
use Rattle.prelude.specs.declared.refusals.Refusal.{Refusal}
use Rattle.prelude.specs.declared.refusals.Refused.{Refused}
use Rattle.prelude.specs.Pick.{pick}
use Rattle.prelude.specs.Refusals.{cut_off, too_deep, too_many, refused_at}
use Rattle.prelude.proofs.Rest.{get_or_inside}
use Rattle.prelude.proofs.Stores.{sets_append}
use Rattle.tokens.specs.Blanks.{blanks_from}
use Rattle.tokens.specs.Starts.{start_of, comma_at}
use Rattle.json8.specs.declared.nodes.Sort.{Sort}
use Rattle.json8.specs.declared.nodes.Sort.TheVariants.{Items, Pairs}
use Rattle.json8.specs.Nodes.{Node, node, Read, got, refused, Reader, seq, limited}
use Rattle.json8.specs.Leaves.{spaces, colon, comma, key}
use Rattle.json8.specs.Values.{group_kind, close_of, member_of, close_or, round, again, members, group_node, group_of, group, value_of, value}
use Rattle.json8.proofs.Fair.{Fair, FairBy, seq_fair, spaces_fair, colon_fair, members_skip, member_fair, value_fair, round_fair}
use Rattle.json8_leaves.specs.declared.nodes.Noted.{Noted}
use Rattle.json8_leaves.specs.inner.Told.{Place, noted, notes, nodes_of, bytes_of, AllSound, Took, Told, Went, absent}
use Rattle.json8_leaves.proofs.Joined.{noted_at, stopped, told_got, told_stop, step_told, step_took, sets_before, seq_assoc, seq_stop, seq_took, seq_refused, notes_append, notes_length, sound_append, nodes_length, nodes_append, bytes_append, Blind, spaces_blind, colon_blind, comma_blind, seq_blind, went_took}

pub inner_fair : (b : Sort) (left : ℕ) → FairBy 1 (member_of b (value left))
inner_fair b left = member_fair b (value left) (value_fair left)

-- members read, and then others
abbrev plus : ℕ → ℕ → List Node → List ℕ → Read → Read
plus l c ns bs (got k d ms cs) = got (l + k) (c + d) (ns ++ ms) (bs ++ cs)
plus l c ns bs (refused refusal at) = refused refusal at

plus_none : (r : Read) → plus 0 0 [] [] r ≡ r
plus_none (got k d ms cs) = rw (zero-add k, zero-add d)
plus_none (refused refusal at) = refl

plus_again : (l c : ℕ) (ns : List Node) (bs : List ℕ) (k : ℕ) (ms : List Node) (cs : List ℕ) (r : Read)
    → plus l c ns bs (again k ms cs r) ≡ plus (l + k) (c + 1) (ns ++ ms) (bs ++ cs) r
plus_again l c ns bs k ms cs (got i d os ds) =
    let a : l + (k + i) ≡ l + k + i = omega arith in
    let b : c + suc d ≡ c + 1 + d = omega arith in
    rw (a, b, append_assoc ns ms os, append_assoc bs cs ds)
plus_again l c ns bs k ms cs (refused refusal at) = refl

-- one round of the loop
module _ (c : ℕ) (rd : Reader) (p n m : ℕ) where
  step_two : (s : List ℕ) (l u : ℕ) (ns : List Node) (bs : List ℕ) → round c rd p n m s ≡ got (suc l) (suc (suc u)) ns bs
      → members c rd p n m 0 s ≡ again (suc l) ns bs (members c rd (p + suc l) (n + length ns) (m + length bs) 0 (drop (suc l) s))
  unfolding members seq spaces blanks_from close_or
  step_two [] l u ns bs e = cc
  step_two (x ∷ r) l u ns bs e = rw e (ap (again (suc l) ns bs) (members_skip c rd (p + suc l) (n + length ns) (m + length bs) l r))

  step_one : (s : List ℕ) (l : ℕ) (ns : List Node) (bs : List ℕ) → round c rd p n m s ≡ got l 1 ns bs → members c rd p n m 0 s ≡ got l 1 ns bs
  unfolding members seq spaces blanks_from close_or
  step_one [] l ns bs e = cc
  step_one (x ∷ r) l ns bs e = rw e

  step_none : (s : List ℕ) (l : ℕ) (ns : List Node) (bs : List ℕ) → round c rd p n m s ≡ got l 0 ns bs → members c rd p n m 0 s ≡ got l 0 ns bs
  unfolding members seq spaces blanks_from close_or
  step_none [] l ns bs e = cc
  step_none (x ∷ r) l ns bs e = rw e

  step_stop : (s : List ℕ) (refusal : Refusal) (at : ℕ) → round c rd p n m s ≡ refused refusal at → members c rd p n m 0 s ≡ refused refusal at
  unfolding members seq spaces blanks_from close_or
  step_stop [] refusal at e = cc (add-zero p)
  step_stop (x ∷ r) refusal at e = rw e

module _ (b : Sort) (v : Reader) (text : List ℕ) (at n m : ℕ) (t₀ : List ℕ) where
  abbrev inner : ℕ → ℕ → ℕ → List ℕ → Read
  inner p i j s = members (close_of b) (member_of b v) p i j 0 s

  abbrev turn : ℕ → ℕ → ℕ → Read
  turn p i j = round (close_of b) (member_of b v) p i j (drop p text)

  -- at the head of the loop
  pub record Loop (t : List ℕ) (p i count : ℕ) : Type 0 where
    pub vs : List Node
    pub same : inner (at + 1) (n + 1) m (drop (at + 1) text)
        ≡ plus (p - (at + 1)) count (nodes_of m vs) (bytes_of text vs) (inner p i (m + length (bytes_of text vs)) (drop p text))
    pub onward : at + 1 ≤ p
    pub inside : p ≤ length text
    pub nodes : i ≡ n + 1 + length vs
    pub few : i ≤ node_max
    pub counted : count ≤ p
    pub table : t ≡ sets t₀ (n + 1) (notes vs)
    pub sound : AllSound text vs

  pub begun : at < length text → n < node_max → Loop t₀ (at + 1) (n + 1) 0
  unfolding notes nodes_of bytes_of
  begun h g =
      let z : at + 1 - (at + 1) ≡ 0 = omega arith in
      record {
        vs = [];
        same = rw (z, plus_none, add-zero m);
        onward = omega arith;
        inside = omega arith;
        nodes = omega arith;
        few = omega arith;
        counted = omega arith;
        table = refl;
        sound = tt;
      }

  module _ {t : List ℕ} {p i count : ℕ} (w : Loop t p i count) where
    abbrev pub bytes : ℕ
    bytes = m + length (bytes_of text w.vs)

    pub place_of : Place text at n → Place text p i
    place_of h = record { short = h.short; inside = w.inside; few = w.few }

    -- a refusal inside
    pub cut : {refusal : Refusal} {q : ℕ} → turn p i bytes ≡ refused refusal q → group_of b v at n m (drop at text) ≡ refused refusal q
    unfolding group_of
    cut {refusal} {q} e =
        let f : inner (at + 1) (n + 1) m (drop (at + 1) text) ≡ refused refusal q =
        w.same ∙ rw (step_stop (close_of b) (member_of b v) p i bytes (drop p text) refusal q e) in
        ap (λ (x : List ℕ). group_node (group_kind b) at (inner (at + 1) (n + 1) m x)) (drop-drop 1 at text) ∙ ap (group_node (group_kind b) at) f

    fair : (f : FairBy 1 (member_of b v)) {r : Read} → turn p i bytes ≡ r → Fair 1 p i (drop p text) r
    fair f e = subst (Fair 1 p i (drop p text)) e (round_fair (close_of b) (member_of b v) f p i bytes (drop p text) w.few)

    -- a round more
    pub further : (f : FairBy 1 (member_of b v)) {q k : ℕ} {t' : List ℕ} → Took text (turn p i bytes) p i bytes q k 2 t t' → Loop t' q k (count + 1)
    further f {q} {k} {t'} x = go x.len refl
      where
        go : (l : ℕ) → x.len ≡ l → Loop t' q k (count + 1)
        go zero e = let g = fair f x.same in absurd (let b : ⊥ = omega (arith, g.0) in b)
        go (suc l) e =
            let g = fair f x.same in
            let h : turn p i bytes ≡ got (suc l) 2 (nodes_of bytes x.vs) (bytes_of text x.vs) =
            x.same ∙ ap (λ (y : ℕ). got y 2 (nodes_of bytes x.vs) (bytes_of text x.vs)) e in
            let a : p - (at + 1) + suc l ≡ q - (at + 1) = omega (arith, x.place, w.onward) in
            let c : p + suc l ≡ q = omega (arith, x.place) in
            let d : i + length (nodes_of bytes x.vs) ≡ k = omega (arith, x.nodes, nodes_length bytes x.vs) in
            let y : bytes + length (bytes_of text x.vs) ≡ m + length (bytes_of text (w.vs ++ x.vs)) =
            omega (arith, ap length (bytes_append text w.vs x.vs), length-append (bytes_of text w.vs) (bytes_of text x.vs)) in
            record {
              vs = w.vs ++ x.vs;
              same =
                  w.same
                  ∙ rw (
                    step_two (close_of b) (member_of b v) p i bytes (drop p text) l 0 (nodes_of bytes x.vs) (bytes_of text x.vs) h,
                    plus_again,
                    a,
                    drop-drop (suc l) p text,
                    c,
                    d,
                    y,
                    nodes_append text m w.vs x.vs w.sound,
                    bytes_append text w.vs x.vs,
                  ) refl;
              onward = omega (arith, w.onward, x.place);
              inside = omega (arith, g.1, x.place, length-drop p text, w.inside);
              nodes = omega (arith, w.nodes, x.nodes, length-append w.vs x.vs);
              few = omega (arith, g.2, d);
              counted = omega (arith, w.counted, x.place, e);
              table =
                  x.table ∙ ap (λ (y : List ℕ). sets y i (notes x.vs)) w.table
                  ∙ sets_append (notes w.vs) (notes x.vs) t₀ (n + 1) i (omega (arith, w.nodes, notes_length w.vs))
                  ∙ ap (sets t₀ (n + 1)) (sym (notes_append w.vs x.vs));
              sound = sound_append text w.vs x.vs w.sound x.sound;
            }

  -- the bracket's note
  no_string : (y : Sort) → group_kind y ≡ 6 → ⊥
  no_string Items e = omega arith
  no_string Pairs e = omega arith

  small_kind : (y : Sort) → group_kind y ≤ 8
  small_kind Items = omega arith
  small_kind Pairs = omega arith

  shut : {t1 t2 : List ℕ} {q k : ℕ} (len cnt : ℕ) (us : List Node)
      → inner (at + 1) (n + 1) m (drop (at + 1) text) ≡ got len cnt (nodes_of m us) (bytes_of text us) → AllSound text us
      → q ≡ at + 1 + len → k ≡ n + 1 + length us → t1 ≡ sets t₀ (n + 1) (notes us) → Place text at n → k ≤ node_max → cnt ≤ text_max
      → t2 ≡ set t1 n (noted (node (group_kind b) (k - n) at cnt)) → Took text (group_of b v at n m (drop at text)) at n m q k 0 t₀ t2
  unfolding group_of notes nodes_of bytes_of pick
  shut {t1} {t2} {q} {k} len cnt us e s pq pk y h few small x =
      let z : k - n ≡ suc (length us) = omega arith in
      let l : length (nodes_of m us) ≡ length us = nodes_length m us in
      record {
        len = suc len;
        vs = node (group_kind b) (suc (length us)) at cnt ∷ us;
        same =
            ap (λ (r : List ℕ). group_node (group_kind b) at (inner (at + 1) (n + 1) m r)) (drop-drop 1 at text) ∙ ap (group_node (group_kind b) at) e
            ∙ rw (l, ne_eqb (group_kind b) 6 (no_string b)) refl;
        place = omega arith;
        nodes = omega arith;
        table =
            x ∙ ap (λ (r : ℕ). set t1 n (noted (node (group_kind b) r at cnt))) z
            ∙ ap (λ (r : List ℕ). set r n (noted (node (group_kind b) (suc (length us)) at cnt))) y
            ∙ sets_before (noted (node (group_kind b) (suc (length us)) at cnt) ∷ []) (notes us) t₀ n (n + 1) (omega arith);
        sound = (
          record {
            kind = small_kind b;
            count = omega arith;
            place = omega (arith, h.inside, h.short);
            size = small;
            inside = h.inside;
            escaped = λ f. absurd (no_string b f);
          },
          s,
        );
      }

  module _ {t t1 : List ℕ} {p i count q k : ℕ} (w : Loop t p i count) (t2 : List ℕ) (h : Place text at n) (few : k ≤ node_max) where
    behind : {u : ℕ} (cnt : ℕ) (x : Took text (turn p i (bytes w)) p i (bytes w) q k u t t1)
        → inner (at + 1) (n + 1) m (drop (at + 1) text)
        ≡ got (p - (at + 1) + x.len) cnt (nodes_of m w.vs ++ nodes_of (bytes w) x.vs) (bytes_of text w.vs ++ bytes_of text x.vs)
        → cnt ≤ text_max → t2 ≡ set t1 n (noted (node (group_kind b) (k - n) at cnt)) → Took text (group_of b v at n m (drop at text)) at n m q k 0 t₀ t2
    behind cnt x e small y =
        shut (p - (at + 1) + x.len) cnt (w.vs ++ x.vs)
        (e ∙ ap₂ (λ (a : List Node) (c : List ℕ). got (p - (at + 1) + x.len) cnt a c) (sym (nodes_append text m w.vs x.vs w.sound)) (sym (bytes_append text w.vs x.vs)))
        (sound_append text w.vs x.vs w.sound x.sound) (omega (arith, x.place, w.onward))
        (omega (arith, x.nodes, w.nodes, length-append w.vs x.vs))
        (x.table ∙ ap (λ (r : List ℕ). sets r i (notes x.vs)) w.table
        ∙ sets_append (notes w.vs) (notes x.vs) t₀ (n + 1) i (omega (arith, w.nodes, notes_length w.vs))
        ∙ ap (sets t₀ (n + 1)) (sym (notes_append w.vs x.vs)))
        h few small y

    pub closed : count ≤ text_max → Took text (turn p i (bytes w)) p i (bytes w) q k 0 t t1 → t2 ≡ set t1 n (noted (node (group_kind b) (k - n) at count))
        → Took text (group_of b v at n m (drop at text)) at n m q k 0 t₀ t2
    closed some x y =
        behind count x
        (w.same ∙ rw (step_none (close_of b) (member_of b v) p i (bytes w) (drop p text) x.len (nodes_of (bytes w) x.vs) (bytes_of text x.vs) x.same, add-zero count))
        (omega arith) y

    pub closed_behind : count < text_max → Took text (turn p i (bytes w)) p i (bytes w) q k 1 t t1 → t2 ≡ set t1 n (noted (node (group_kind b) (k - n) at (count + 1)))
        → Took text (group_of b v at n m (drop at text)) at n m q k 0 t₀ t2
    closed_behind some x y =
        behind (count + 1) x
        (w.same ∙ rw (step_one (close_of b) (member_of b v) p i (bytes w) (drop p text) x.len (nodes_of (bytes w) x.vs) (bytes_of text x.vs) x.same))
        (omega arith) y

-- how deep, how many
pub too_deep_lem : (d : ℕ) (b : Sort) (p n m : ℕ) (s : List ℕ) → d ≡ 0 → group d b p n m s ≡ refused too_deep p
unfolding group
too_deep_lem d b p n m s e = rw e

pub too_many_lem : (d : ℕ) (b : Sort) (p n m : ℕ) (s : List ℕ) → (d ≡ 0 → ⊥) → node_max ≤ n → group d b p n m s ≡ refused too_many p
unfolding group limited pick
too_many_lem zero b p n m s e h = absurd (e refl)
too_many_lem (suc d) b p n m s e h = rw (le-ltb n node_max h)

opened_is : (d : ℕ) (b : Sort) (p n m : ℕ) (s : List ℕ) → (d ≡ 0 → ⊥) → n < node_max → group d b p n m s ≡ group_of b (value (d - 1)) p n m s
unfolding group limited pick
opened_is zero b p n m s e h = absurd (e refl)
opened_is (suc d) b p n m s e h = let z : suc d - 1 ≡ d = omega arith in rw (lt-ltb n node_max h, z)

-- a pair is its label and its value
abbrev labelled : Reader
labelled = seq key (seq spaces (seq colon spaces))

pair_is : (v : Reader) → seq labelled v ≡ member_of Pairs v
pair_is v =
    seq_assoc key (seq spaces (seq colon spaces)) v
    ∙ ap (seq key) (seq_assoc spaces (seq colon spaces) v ∙ ap (seq spaces) (seq_assoc colon spaces v))

-- a round from the answers of the calls that it makes: blanks up to p, where the byte x stands
module _ (c : ℕ) (rd : Reader) (text : List ℕ) (at n m p x : ℕ) (w : Went (spaces at 0 0 (drop at text)) at p 0) (ex : x ≡ get_or (drop p text) 0 0) where
  close_one : (s : List ℕ) → x ≡ get_or s 0 0 → x ≡ c → 0 < c → close_or c rd p n m s ≡ got 1 0 [] []
  unfolding close_or pick
  close_one [] e f g = absurd (omega arith)
  close_one (y ∷ r) e f g = rw (eq-eqb y c (sym e ∙ f))

  pub round_closed : {t : List ℕ} → x ≡ c → 0 < c → Took text (round c rd at n m (drop at text)) at n m (p + 1) n 0 t t
  unfolding notes nodes_of bytes_of
  round_closed {t} f g =
      step_took spaces (close_or c rd) spaces_blind text at n m p 0 w (p + 1) n 0 t t
      (record { len = 1; vs = []; same = close_one (drop p text) ex f g; place = refl; nodes = omega arith; table = refl; sound = tt })

  -- where the bracket isn't closed, a member must stand: its reader refuses the text's end as the bracket would
  member_here : (s : List ℕ) → x ≡ get_or s 0 0 → (x ≡ c → ⊥) → ((j : ℕ) → rd p n j [] ≡ refused cut_off p) → (j : ℕ) → close_or c rd p n j s ≡ seq rd (seq spaces (comma c)) p n j s
  unfolding close_or pick
  member_here [] e f g j = sym (seq_stop rd (seq spaces (comma c)) p n j [] cut_off p (g j))
  member_here (y ∷ r) e f g j = rw (ne_eqb y c (λ z. f (e ∙ z)))

  module _ (f : x ≡ c → ⊥) (g : (j : ℕ) → rd p n j [] ≡ refused cut_off p) where
    pub round_member : {q i u : ℕ} {t t' : List ℕ} → Took text (seq rd (seq spaces (comma c)) p n m (drop p text)) p n m q i u t t'
        → Took text (round c rd at n m (drop at text)) at n m q i u t t'
    round_member {q} {i} {u} {t} {t'} y =
        step_took spaces (close_or c rd) spaces_blind text at n m p 0 w q i u t t'
        (subst (λ (r : Read). Took text r p n m q i u t t') (sym (member_here (drop p text) ex f g m)) y)

    pub round_refused : {refusal : Refusal} {q : ℕ} → seq rd (seq spaces (comma c)) p n m (drop p text) ≡ refused refusal q → round c rd at n m (drop at text) ≡ refused refusal q
    round_refused {refusal} {q} e =
        stopped (step_told spaces (close_or c rd) spaces_blind text at n m p 0 w (Err (refused_at refusal q)) [] []
        (told_stop (member_here (drop p text) ex f g m ∙ e))) refl

-- what follows a member: blanks up to z, where the byte y stands
comma_two : (c : ℕ) (s : List ℕ) (y z : ℕ) → y ≡ get_or s 0 0 → (y ≡ c → ⊥) → y ≡ 0x2c → comma c z 0 0 s ≡ got 1 2 [] []
unfolding comma comma_at pick
comma_two c [] y z e n f = absurd (omega arith)
comma_two c (x ∷ r) y z e n f = rw (sym e, ne_eqb y c n, f)

comma_close : (c : ℕ) (s : List ℕ) (y z : ℕ) → y ≡ get_or s 0 0 → y ≡ c → 0 < c → comma c z 0 0 s ≡ got 1 1 [] []
unfolding comma comma_at pick
comma_close c [] y z e f g = absurd (omega arith)
comma_close c (x ∷ r) y z e f g = rw (sym e, eq-eqb y c f)

comma_absent : (c : ℕ) (s : List ℕ) (y z : ℕ) → y ≡ get_or s 0 0 → (y ≡ c → ⊥) → (y ≡ 0x2c → ⊥) → comma c z 0 0 s ≡ refused (absent s) z
unfolding comma comma_at pick
comma_absent c [] y z e n f = refl
comma_absent c (x ∷ r) y z e n f = rw (sym e, ne_eqb y c n, ne_eqb y 0x2c f)

module _ (c : ℕ) (text : List ℕ) (at n m z y : ℕ) (w : Went (spaces at 0 0 (drop at text)) at z 0) (ey : y ≡ get_or (drop z text) 0 0) where
  after : {tag : ℕ} {t : List ℕ} → comma c z 0 0 (drop z text) ≡ got 1 tag [] [] → Took text (seq spaces (comma c) at n m (drop at text)) at n m (z + 1) n tag t t
  after {tag} {t} e =
      step_took spaces (comma c) spaces_blind text at n m z 0 w (z + 1) n tag t t
      (went_took (comma c) (comma_blind c) (record { len = 1; same = e; place = refl }))

  pub goes_on : {t : List ℕ} → (y ≡ c → ⊥) → y ≡ 0x2c → Took text (seq spaces (comma c) at n m (drop at text)) at n m (z + 1) n 2 t t
  goes_on h f = after (comma_two c (drop z text) y z ey h f)

  pub ends : {t : List ℕ} → y ≡ c → 0 < c → Took text (seq spaces (comma c) at n m (drop at text)) at n m (z + 1) n 1 t t
  ends f g = after (comma_close c (drop z text) y z ey f g)

  pub no_comma : (refusal : Refusal) → refusal ≡ absent (drop z text) → (y ≡ c → ⊥) → (y ≡ 0x2c → ⊥) → seq spaces (comma c) at n m (drop at text) ≡ refused refusal z
  no_comma refusal e h f =
      stopped (step_told spaces (comma c) spaces_blind text at n m z 0 w (Err (refused_at refusal z)) [] []
      (told_stop (comma_blind c z n m (drop z text) ∙ comma_absent c (drop z text) y z ey h f ∙ ap (λ (k : Refusal). refused k z) (sym e)))) refl

-- a member refuses the text's end as its bracket would
value_none : (d p n j : ℕ) → value d p n j [] ≡ refused cut_off p
unfolding value_of start_of
value_none d p n j = refl

key_none : (p n j : ℕ) → key p n j [] ≡ refused cut_off p
unfolding key start_of
key_none p n j = refl

pub member_none : (b : Sort) (d p n j : ℕ) → member_of b (value d) p n j [] ≡ refused cut_off p
member_none Items d p n j = value_none d p n j
member_none Pairs d p n j = seq_stop key (seq spaces (seq colon (seq spaces (value d)))) p n j [] cut_off p (key_none p n j)

-- the returns of the loop, whatever the store's bytes before the bracket
module _ (d : ℕ) (b : Sort) (text : List ℕ) (at n : ℕ) (t₀ : List ℕ) (deep : d ≡ 0 → ⊥) (room : n < node_max) (h : Place text at n)
    (t : List ℕ) (p i count : ℕ) (w : (m : ℕ) → Loop b (value (d - 1)) text at n m t₀ t p i count) where
  abbrev round-at : ℕ → Read
  round-at m = round (close_of b) (member_of b (value (d - 1))) p i (bytes b (value (d - 1)) text at n m t₀ (w m)) (drop p text)

  pub loop_cut : (t1 : List ℕ) (refusal : Refusal) (q : ℕ) → ((m : ℕ) → round-at m ≡ refused refusal q)
      → (m : ℕ) → Told text (group d b at n m (drop at text)) at n m (Err (refused_at refusal q)) t₀ t1
  loop_cut t1 refusal q e m =
      told_stop (opened_is d b at n m (drop at text) deep room ∙ cut b (value (d - 1)) text at n m t₀ (w m) (e m))

  module _ (t1 t2 : List ℕ) (q k : ℕ) (few : k ≤ node_max) where
    pub loop_closed : count ≤ text_max → ((m : ℕ) → Took text (round-at m) p i (bytes b (value (d - 1)) text at n m t₀ (w m)) q k 0 t t1)
        → t2 ≡ set t1 n (noted (node (group_kind b) (k - n) at count)) → (m : ℕ) → Told text (group d b at n m (drop at text)) at n m (noted_at q k) t₀ t2
    loop_closed some x y m =
        rw (opened_is d b at n m (drop at text) deep room) (told_got (closed b (value (d - 1)) text at n m t₀ (w m) t2 h few some (x m) y))

    pub loop_last : count < text_max → ((m : ℕ) → Took text (round-at m) p i (bytes b (value (d - 1)) text at n m t₀ (w m)) q k 1 t t1)
        → t2 ≡ set t1 n (noted (node (group_kind b) (k - n) at (count + 1))) → (m : ℕ) → Told text (group d b at n m (drop at text)) at n m (noted_at q k) t₀ t2
    loop_last some x y m =
        rw (opened_is d b at n m (drop at text) deep room) (told_got (closed_behind b (value (d - 1)) text at n m t₀ (w m) t2 h few some (x m) y))

-- the place behind a bracket, and the bracket's
module _ (text : List ℕ) (at n : ℕ) where
  same_place : at + 1 - 1 ≡ at
  same_place = omega arith

  pub bracket_place : Place text at n → Place text (at + 1 - 1) n
  bracket_place h = subst (λ (k : ℕ). Place text k n) (sym same_place) h

  pub bracket_byte : (x c : ℕ) → x ≡ get_or (drop at text) 0 0 → x ≡ c → get_or (drop (at + 1 - 1) text) 0 0 ≡ c
  bracket_byte x c e f = ap (λ (k : ℕ). get_or (drop k text) 0 0) same_place ∙ sym e ∙ f

  pub bracket_told : (d : ℕ) (b : Sort) (o : Result Noted Refused) (t t' : List ℕ)
      → ((m : ℕ) → Told text (group d b (at + 1 - 1) n m (drop (at + 1 - 1) text)) (at + 1 - 1) n m o t t')
      → (m : ℕ) → Told text (group d b at n m (drop at text)) at n m o t t'
  bracket_told d b o t t' h m = subst (λ (k : ℕ). Told text (group d b k n m (drop k text)) k n m o t t') same_place (h m)

pub bracket_inside : (text : List ℕ) (at x : ℕ) → x ≡ get_or (drop at text) 0 0 → 0 < x → at < length text
bracket_inside text at x e h = omega (arith, get_or_inside (drop at text) 0 (λ z. omega arith), length-drop at text)

pub loop_begun : (b : Sort) (v : Reader) (text : List ℕ) (from n : ℕ) (t : List ℕ) → 0 < from → from - 1 < length text → n < node_max
    → (m : ℕ) → Loop b v text (from - 1) n m t t from (n + 1) 0
loop_begun b v text from n t h l r m =
    let q : from - 1 + 1 ≡ from = omega arith in
    subst (λ (p : ℕ). Loop b v text (from - 1) n m t t p (n + 1) 0) q (begun b v text (from - 1) n m t l r)

-- a pair, from the answers of the calls that read it
pub around_fair : FairBy 1 (seq spaces (seq colon spaces))
around_fair = seq_fair 0 1 spaces (seq colon spaces) spaces_fair (seq_fair 1 0 colon spaces colon_fair spaces_fair)

pub around_blind : Blind (seq spaces (seq colon spaces))
around_blind = seq_blind spaces (seq colon spaces) spaces_blind (seq_blind colon spaces colon_blind spaces_blind)

module _ (v : Reader) (text : List ℕ) (o i j : ℕ) where
  pair_same : seq labelled v o i j (drop o text) ≡ member_of Pairs v o i j (drop o text)
  pair_same = ap (λ (f : Reader). f o i j (drop o text)) (pair_is v)

  pub key_refused : (refusal : Refusal) (z : ℕ) → key o i j (drop o text) ≡ refused refusal z → member_of Pairs v o i j (drop o text) ≡ refused refusal z
  key_refused refusal z e = seq_stop key (seq spaces (seq colon (seq spaces v))) o i j (drop o text) refusal z e

  module _ {e h : ℕ} {t t1 : List ℕ} (k : Took text (key o i j (drop o text)) o i j e h 0 t t1) where
    pub colon_refused : (refusal : Refusal) (z : ℕ) → seq spaces (seq colon spaces) e 0 0 (drop e text) ≡ refused refusal z → member_of Pairs v o i j (drop o text) ≡ refused refusal z
    colon_refused refusal z f =
        sym pair_same
        ∙ seq_stop labelled v o i j (drop o text) refusal z (seq_refused key (seq spaces (seq colon spaces)) text o i j e h 0 t t1 k refusal z (around_blind _ _ _ _ ∙ f))

    module _ {c : ℕ} (w : Went (seq spaces (seq colon spaces) e 0 0 (drop e text)) e c 0) where
      label_took : Took text (labelled o i j (drop o text)) o i j c h 0 t t1
      label_took = seq_took key (seq spaces (seq colon spaces)) text o i j e h 0 t t1 k c h 0 t1 (went_took (seq spaces (seq colon spaces)) around_blind w)

      pub pair_refused : (refusal : Refusal) (z : ℕ) → ((m : ℕ) → v c h m (drop c text) ≡ refused refusal z) → member_of Pairs v o i j (drop o text) ≡ refused refusal z
      pair_refused refusal z f = sym pair_same ∙ seq_refused labelled v text o i j c h 0 t t1 label_took refusal z (f _)

      pub pair_took : {q n : ℕ} {t2 : List ℕ} → ((m : ℕ) → Took text (v c h m (drop c text)) c h m q n 0 t1 t2) → Took text (member_of Pairs v o i j (drop o text)) o i j q n 0 t t2
      pair_took {q} {n} {t2} x =
          subst (λ (r : Read). Took text r o i j q n 0 t t2) pair_same (seq_took labelled v text o i j c h 0 t t1 label_took q n 0 t2 (x _))
