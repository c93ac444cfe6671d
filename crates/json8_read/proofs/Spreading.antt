-- Notes read back, and spread into table and store one node behind another.
-- Assumes nothing.
use mathlib.Core.Path.{◌≡◌, refl, sym, ap, ap₂, subst, ◌∙◌}
use mathlib.Core.List.{List, [], ◌∷◌, ◌++◌, append-nil}
use Prim.Native.Nat.{ℕ, suc, ◌+◌, ◌-◌, ◌*◌, ◌/◌, ◌%◌, ◌≤◌, ◌<◌}
use native.Mathlib.Omega.{arith}
use native.Mathlib.Nat.{zero-add}
use native.Mathlib.Numerals.{add-one}
use borrow.Author.Tests.{eq-eqb, ne_eqb, eqb-true}
use borrow.Rule.Slice.PartMut.{put_mid}
use lib.Dec.{eqb}
use lib.ListN.{length, get_or, take, drop, length-append, length-drop}
use lib.Seq.{sets, length-sets, take-suc, take-add, take_all, length-take-le}
use Rattle.prelude.specs.Limits.{text_max, node_max}
use Rattle.prelude.specs.Pick.{pick}
use Rattle.prelude.proofs.Cases.{split}
use Rattle.prelude.proofs.Stores.{sets_append, part_filled}
use Rattle.strings.specs.Read.{read_token}
use Rattle.string_tokens.specs.inner.Quotes.{denoted}
use Rattle.json8.specs.Nodes.{Node, flat}
use Rattle.json8_leaves.specs.inner.Told.{noted, notes, nodes_of, bytes_of, Sound, AllSound}
use Rattle.json8_leaves.proofs.Joined.{nodes_length, nodes_append, bytes_append}
use Rattle.json8_read.specs.inner.Spread.{node_of, nodes_in, sizes, Fits, AllFit}

pub flat_append : (ns ms : List Node) → flat (ns ++ ms) ≡ flat ns ++ flat ms
unfolding flat
flat_append [] ms = refl
flat_append (v ∷ ns) ms = ap (λ (l : List ℕ). v.kind ∷ v.count ∷ v.place ∷ v.size ∷ l) (flat_append ns ms)

pub flat_length : (ns : List Node) → length (flat ns) ≡ 4 * length ns
unfolding flat
flat_length [] = refl
flat_length (v ∷ ns) = let h = flat_length ns in omega arith

-- a noted node read back
back_kind : (k c p n : ℕ) → k ≤ 8 → c ≤ node_max → n ≤ text_max → (4294967296 * p + 65536 * n + 2048 * k + c) % 65536 / 2048 ≡ k
back_kind k c p n a b d = omega arith

back_count : (k c p n : ℕ) → c ≤ node_max → (4294967296 * p + 65536 * n + 2048 * k + c) % 2048 ≡ c
back_count k c p n b = omega arith

back_place : (k c p n : ℕ) → k ≤ 8 → c ≤ node_max → n ≤ text_max → (4294967296 * p + 65536 * n + 2048 * k + c) / 4294967296 ≡ p
back_place k c p n a b d = omega arith

back_size : (k c p n : ℕ) → k ≤ 8 → c ≤ node_max → n ≤ text_max → (4294967296 * p + 65536 * n + 2048 * k + c) / 65536 % 65536 ≡ n
back_size k c p n a b d = omega arith

node_back : (text : List ℕ) (v : Node) → Sound text v → node_of (noted v) ≡ v
unfolding node_of noted
node_back text v h =
    let a = back_kind v.kind v.count v.place v.size h.kind h.count h.size in
    let b = back_count v.kind v.count v.place v.size h.count in
    let c = back_place v.kind v.count v.place v.size h.kind h.count h.size in
    let d = back_size v.kind v.count v.place v.size h.kind h.count h.size in
    λ i. record { kind = a i; count = b i; place = c i; size = d i }

pub notes_back : (text : List ℕ) (vs : List Node) → AllSound text vs → nodes_in (notes vs) ≡ vs
unfolding nodes_in notes
notes_back text [] h = refl
notes_back text (v ∷ vs) h = ap₂ (λ (x : Node) (l : List Node). x ∷ l) (node_back text v h.0) (notes_back text vs h.1)

in_append : (a b : List ℕ) → nodes_in (a ++ b) ≡ nodes_in a ++ nodes_in b
unfolding nodes_in
in_append [] b = refl
in_append (x ∷ a) b = ap (λ (l : List Node). node_of x ∷ l) (in_append a b)

pub in_length : (a : List ℕ) → length (nodes_in a) ≡ length a
unfolding nodes_in
in_length [] = refl
in_length (x ∷ a) = ap suc (in_length a)

-- one more note
pub in_next : (l : List ℕ) (i : ℕ) → i < length l → nodes_in (take (i + 1) l) ≡ nodes_in (take i l) ++ (node_of (get_or l i 0) ∷ [])
unfolding nodes_in
in_next l i h = rw (add-one i, take-suc l i 0 h) (in_append (take i l) (get_or l i 0 ∷ []))

-- and those behind it
in_rest : (l : List ℕ) (n i : ℕ) → i < n → i < length l
    → nodes_in (take n l) ≡ (nodes_in (take i l) ++ (node_of (get_or l i 0) ∷ [])) ++ nodes_in (take (n - (i + 1)) (drop (i + 1) l))
in_rest l n i h g =
    let e : n ≡ i + 1 + (n - (i + 1)) = omega arith in
    ap (λ (k : ℕ). nodes_in (take k l)) e ∙ ap nodes_in (take-add (i + 1) (n - (i + 1)) l)
    ∙ in_append (take (i + 1) l) (take (n - (i + 1)) (drop (i + 1) l))
    ∙ ap (λ (x : List Node). x ++ nodes_in (take (n - (i + 1)) (drop (i + 1) l))) (in_next l i g)

sound_front : (text : List ℕ) (a b : List Node) → AllSound text (a ++ b) → AllSound text a
sound_front text [] b h = tt
sound_front text (v ∷ a) b h = (h.0, sound_front text a b h.1)

sound_last : (text : List ℕ) (a : List Node) (v : Node) → AllSound text (a ++ (v ∷ [])) → Sound text v
sound_last text [] v h = h.0
sound_last text (x ∷ a) v h = sound_last text a v h.1

-- what nodes take of the store
pub sizes_append : (a b : List Node) → sizes (a ++ b) ≡ sizes a + sizes b
unfolding sizes pick
sizes_append [] b = sym (zero-add (sizes b))
sizes_append (v ∷ a) b =
    let h = sizes_append a b in
    split (eqb v.kind 6) (λ e. rw e (let z : v.size + sizes (a ++ b) ≡ v.size + sizes a + sizes b = omega arith in z)) (λ e. rw e h)

pub sizes_are : (text : List ℕ) (vs : List Node) → AllSound text vs → sizes vs ≡ length (bytes_of text vs)
unfolding sizes bytes_of pick
sizes_are text [] h = refl
sizes_are text (v ∷ vs) h =
    let i = sizes_are text vs h.1 in
    split (eqb v.kind 6)
    (λ e. rw e (let z : v.size + sizes vs ≡ length (denoted (read_token (drop v.place text)) ++ bytes_of text vs)
    = omega (arith, h.0.escaped (eqb-true _ _ e), length-append (denoted (read_token (drop v.place text))) (bytes_of text vs)) in z))
    (λ e. rw e i)

pub sizes_one : (v : Node) → v.kind ≡ 6 → sizes (v ∷ []) ≡ v.size + 0
unfolding sizes pick
sizes_one v e = rw (eq-eqb v.kind 6 e)

pub sizes_none : (v : Node) → (v.kind ≡ 6 → ⊥) → sizes (v ∷ []) ≡ 0
unfolding sizes pick
sizes_none v e = rw (ne_eqb v.kind 6 e)

-- the sum so far
pub record Summed (notes : List ℕ) (n i m : ℕ) : Type 0 where
  pub inside : i ≤ n
  pub sum : m ≡ sizes (nodes_in (take i notes))
  pub small : m ≤ 65535 * i

pub summed_none : (notes : List ℕ) (n : ℕ) → Summed notes n 0 0
unfolding sizes nodes_in
summed_none notes n = record { inside = omega arith; sum = refl; small = omega arith }

pub summed_more : (notes : List ℕ) (n i m k : ℕ) → Summed notes n i m → i < n → i < length notes
    → k ≡ sizes (node_of (get_or notes i 0) ∷ []) → k ≤ 65535 → Summed notes n (i + 1) (m + k)
summed_more notes n i m k w h g e f =
    record {
      inside = omega arith;
      sum =
          ap₂ (λ (a b : ℕ). a + b) w.sum e ∙ sym (sizes_append (nodes_in (take i notes)) (node_of (get_or notes i 0) ∷ []))
          ∙ ap sizes (sym (in_next notes i g));
      small = omega (arith, w.small);
    }

pub summed_all : (notes : List ℕ) (n i m : ℕ) → Summed notes n i m → n ≤ i → m ≡ sizes (nodes_in (take n notes))
summed_all notes n i m w h = let e : i ≡ n = omega (arith, w.inside) in w.sum ∙ ap (λ (k : ℕ). sizes (nodes_in (take k notes))) e

-- one node, by its kind
module _ (text : List ℕ) (v : Node) (m : ℕ) where
  module _ (e : v.kind ≡ 6) where
    six_bytes : bytes_of text (v ∷ []) ≡ denoted (read_token (drop v.place text))
    unfolding bytes_of pick
    six_bytes = rw (eq-eqb v.kind 6 e) (append-nil (denoted (read_token (drop v.place text))))

    six_flat : flat (nodes_of m (v ∷ [])) ≡ 6 ∷ 1 ∷ m ∷ v.size ∷ []
    unfolding nodes_of flat pick
    six_flat = rw (eq-eqb v.kind 6 e)

  module _ (e : v.kind ≡ 6 → ⊥) where
    other_bytes : bytes_of text (v ∷ []) ≡ []
    unfolding bytes_of pick
    other_bytes = rw (ne_eqb v.kind 6 e)

    other_flat : flat (nodes_of m (v ∷ [])) ≡ v.kind ∷ v.count ∷ v.place ∷ v.size ∷ []
    unfolding nodes_of flat pick
    other_flat = rw (ne_eqb v.kind 6 e)

abbrev pub NodeSpread : List ℕ → Node → (i m : ℕ) → (t s : List ℕ) → (e : ℕ) → (t' s' : List ℕ) → Type 0
NodeSpread text v i m t s e t' s' =
    (e ≡ m + length (bytes_of text (v ∷ []))) × ((t' ≡ sets t (4 * i) (flat (nodes_of m (v ∷ [])))) × (s' ≡ sets s m (bytes_of text (v ∷ []))))

module _ (text : List ℕ) (v : Node) (i m : ℕ) (t s : List ℕ) (f : Fits text v i m t s) where
  module _ (e : v.kind ≡ 6) (z : ℕ) (ez : z ≡ v.size) where
    bytes_are : length (bytes_of text (v ∷ [])) ≡ z
    bytes_are = ap length (six_bytes text v m e) ∙ sym (f.sound.escaped e) ∙ sym ez

    pub six_room : m + z ≤ length s
    six_room = omega (arith, bytes_are, f.bytes)

    pub six_small : m + z ≤ text_max
    six_small = omega (arith, bytes_are, f.short)

    part_is : (at : ℕ) → at ≡ v.place → take (length text - at) (drop at text) ≡ drop v.place text
    part_is at ea = take_all (length text - at) (drop at text) (omega (arith, length-drop at text)) ∙ ap (λ (k : ℕ). drop k text) ea

    pub six_asks : (at : ℕ) → at ≡ v.place
        → length (take (m + z - m) (drop m s)) ≡ length (denoted (read_token (take (length text - at) (drop at text))))
    six_asks at ea =
        length-take-le (m + z - m) (drop m s) (omega (arith, length-drop m s, six_room))
        ∙ (let q : m + z - m ≡ length (denoted (read_token (drop v.place text))) = omega (arith, ez, f.sound.escaped e) in q)
        ∙ ap (λ (r : List ℕ). length (denoted (read_token r))) (sym (part_is at ea))

    pub six_done : (at x y : ℕ) (t' new : List ℕ) → at ≡ v.place → x ≡ m → y ≡ v.size → t' ≡ sets t (4 * i) (6 ∷ 1 ∷ x ∷ y ∷ [])
        → new ≡ denoted (read_token (take (length text - at) (drop at text))) → NodeSpread text v i m t s (m + z) t' (put_mid m (m + z - m) s new)
    six_done at x y t' new ea ex ey p q =
        let b : new ≡ bytes_of text (v ∷ []) = q ∙ ap (λ (r : List ℕ). denoted (read_token r)) (part_is at ea) ∙ sym (six_bytes text v m e) in
        let l : m + z ≡ m + length new = omega (arith, bytes_are, ap length b) in (
          omega (arith, bytes_are),
          (
            p ∙ ap (sets t (4 * i)) (ap₂ (λ (j k : ℕ). 6 ∷ 1 ∷ j ∷ k ∷ []) ex ey ∙ sym (six_flat text v m e)),
            part_filled s new m (m + z) l six_room ∙ ap (sets s m) b,
          ),
        )

  pub other_done : (k c p n : ℕ) (t' : List ℕ) → (v.kind ≡ 6 → ⊥) → k ≡ v.kind → c ≡ v.count → p ≡ v.place → n ≡ v.size
      → t' ≡ sets t (4 * i) (k ∷ c ∷ p ∷ n ∷ []) → NodeSpread text v i m t s m t' s
  other_done k c p n t' e ek ec ep en q = (
    let z = ap length (other_bytes text v m e) in omega arith,
    (
      q ∙ ap (sets t (4 * i)) ((λ j. ek j ∷ ec j ∷ ep j ∷ en j ∷ []) ∙ sym (other_flat text v m e)),
      ap (sets s m) (sym (other_bytes text v m e)),
    ),
  )

-- the first i nodes are spread
pub record Spread (text notes : List ℕ) (n : ℕ) (t₀ s₀ t s : List ℕ) (i m : ℕ) : Type 0 where
  pub inside : i ≤ n
  pub count : m ≡ length (bytes_of text (nodes_in (take i notes)))
  pub nodes : t ≡ sets t₀ 0 (flat (nodes_of 0 (nodes_in (take i notes))))
  pub bytes : s ≡ sets s₀ 0 (bytes_of text (nodes_in (take i notes)))

pub spread_none : (text notes : List ℕ) (n : ℕ) (t s : List ℕ) → Spread text notes n t s t s 0 0
unfolding nodes_in nodes_of bytes_of flat
spread_none text notes n t s = record { inside = omega arith; count = refl; nodes = refl; bytes = refl }

module _ (text notes : List ℕ) (n : ℕ) (t₀ s₀ t s : List ℕ) (i m : ℕ) (w : Spread text notes n t₀ s₀ t s i m) where
  module _ (a : AllFit text (nodes_in (take n notes)) t₀ s₀) (h : i < n) (g : i < length notes) where
    abbrev done : List Node
    done = nodes_in (take i notes)

    abbrev one : List Node
    one = node_of (get_or notes i 0) ∷ []

    abbrev rest : List Node
    rest = nodes_in (take (n - (i + 1)) (drop (i + 1) notes))

    sound : AllSound text (done ++ one)
    sound = sound_front text (done ++ one) rest (subst (AllSound text) (in_rest notes n i h g) a.sound)

    all_bytes : length (bytes_of text (nodes_in (take n notes))) ≡ length (bytes_of text done) + length (bytes_of text one) + length (bytes_of text rest)
    all_bytes =
        ap (λ (l : List Node). length (bytes_of text l)) (in_rest notes n i h g)
        ∙ ap length (bytes_append text (done ++ one) rest ∙ ap (λ (l : List ℕ). l ++ bytes_of text rest) (bytes_append text done one))
        ∙ length-append (bytes_of text done ++ bytes_of text one) (bytes_of text rest)
        ∙ ap (λ (k : ℕ). k + length (bytes_of text rest)) (length-append (bytes_of text done) (bytes_of text one))

    all_nodes : length (nodes_in (take n notes)) ≡ i + 1 + length rest
    all_nodes =
        let a = length-append (done ++ one) rest in
        let b = length-append done one in
        let c = in_length (take i notes) in
        let d = length-take-le i notes (omega arith) in ap length (in_rest notes n i h g) ∙ omega arith

    pub next_fits : Fits text (node_of (get_or notes i 0)) i m t s
    next_fits =
        record {
          sound = sound_last text done (node_of (get_or notes i 0)) sound;
          nodes =
              omega (arith, a.nodes, all_nodes, ap length w.nodes, length-sets t₀ 0 (flat (nodes_of 0 done)));
          bytes = omega (arith, a.bytes, all_bytes, w.count, ap length w.bytes, length-sets s₀ 0 (bytes_of text done));
          short = omega (arith, a.short, all_bytes, w.count);
        }

    pub spread_more : (e : ℕ) (t' s' : List ℕ) → NodeSpread text (node_of (get_or notes i 0)) i m t s e t' s' → Spread text notes n t₀ s₀ t' s' (i + 1) e
    spread_more e t' s' (p, (q, r)) =
        let next = in_next notes i g in
        let l : 0 + length (flat (nodes_of 0 done)) ≡ 4 * i =
        omega (arith, flat_length (nodes_of 0 done), nodes_length 0 done, in_length (take i notes), length-take-le i notes (omega arith)) in
        let k : 0 + length (bytes_of text done) ≡ m = omega (arith, w.count) in
        let b : bytes_of text done ++ bytes_of text one ≡ bytes_of text (nodes_in (take (i + 1) notes)) =
        sym (bytes_append text done one) ∙ ap (bytes_of text) (sym next) in
        let d : nodes_of 0 done ++ nodes_of m one ≡ nodes_of 0 (nodes_in (take (i + 1) notes)) =
        ap (λ (j : ℕ). nodes_of 0 done ++ nodes_of j one) (sym k) ∙ sym (nodes_append text 0 done one (sound_front text done one sound))
        ∙ ap (nodes_of 0) (sym next) in
        record {
          inside = omega arith;
          count = omega (arith, p, w.count, length-append (bytes_of text done) (bytes_of text one), ap length b);
          nodes =
              q ∙ ap (λ (x : List ℕ). sets x (4 * i) (flat (nodes_of m one))) w.nodes
              ∙ sets_append (flat (nodes_of 0 done)) (flat (nodes_of m one)) t₀ 0 (4 * i) l
              ∙ ap (sets t₀ 0) (sym (flat_append (nodes_of 0 done) (nodes_of m one)) ∙ ap flat d);
          bytes =
              r ∙ ap (λ (x : List ℕ). sets x m (bytes_of text one)) w.bytes
              ∙ sets_append (bytes_of text done) (bytes_of text one) s₀ 0 m k ∙ ap (sets s₀ 0) b;
        }

  pub same_table : length t ≡ length t₀
  same_table = ap length w.nodes ∙ length-sets t₀ 0 (flat (nodes_of 0 (nodes_in (take i notes))))

  pub same_store : length s ≡ length s₀
  same_store = ap length w.bytes ∙ length-sets s₀ 0 (bytes_of text (nodes_in (take i notes)))

  pub spread_all : n ≤ i
      → (m ≡ length (bytes_of text (nodes_in (take n notes)))) × ((t ≡ sets t₀ 0 (flat (nodes_of 0 (nodes_in (take n notes)))))
      × (s ≡ sets s₀ 0 (bytes_of text (nodes_in (take n notes)))))
  spread_all h = let e : i ≡ n = omega (arith, w.inside) in rw (sym e) (w.count, (w.nodes, w.bytes))
