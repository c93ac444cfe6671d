-- A whole text: the pass tells what is read, and it is spread where there is room.
-- Assumes nothing.
use mathlib.Core.Path.{◌≡◌, refl, ap, subst, ◌∙◌}
use mathlib.Core.Bool.{true, false}
use mathlib.Core.List.{List, [], ◌∷◌, ◌++◌}
use Prim.Native.Nat.{ℕ, ◌/◌, ◌≤◌, ◌<◌}
use native.Mathlib.Omega.{arith}
use borrow.Author.Tests.{lt-ltb, le-ltb, ltb-true, ltb-false}
use lib.Dec.{ltb}
use lib.ListN.{length, take, drop, drop_of_length-le}
use lib.Seq.{sets, length-sets, drop-cons}
use Rattle.std.specs.Prelude.{Result, Ok, Err}
use Rattle.prelude.specs.declared.refusals.Refused.{Refused}
use Rattle.prelude.specs.Pick.{pick}
use Rattle.prelude.specs.Refusals.{too_long, trailing, no_room, refused_at}
use Rattle.prelude.specs.Limits.{text_max, node_max, depth_max}
use Rattle.prelude.proofs.Cases.{never}
use Rattle.prelude.proofs.Stores.{sets_over}
use Rattle.json8.specs.declared.answers.Parsed.{Parsed}
use Rattle.json8_leaves.specs.declared.nodes.Noted.{Noted}
use Rattle.json8.specs.Nodes.{Node, Read, got, refused, Reader, seq, flat}
use Rattle.json8.specs.Leaves.{spaces}
use Rattle.json8.specs.Values.{value}
use Rattle.json8.specs.Read.{text_end, read_all, read_of, done, parsed_of, table_after, store_after}
use Rattle.json8.proofs.Fair.{Fair, read_fair}
use Rattle.json8_leaves.specs.inner.Told.{Place, notes, nodes_of, bytes_of, Took, Told}
use Rattle.json8_leaves.proofs.Joined.{took, stopped, notes_length, nodes_length}
use Rattle.json8_read.specs.inner.Spread.{nodes_in, sizes, AllFit}
use Rattle.json8_read.proofs.Spreading.{flat_length, notes_back, sizes_are}

pub from_start : (text : List ℕ) → length text ≤ text_max → Place text 0 0
from_start text h = record { short = h; inside = omega arith; few = omega arith }

abbrev pub behind_value : Reader
behind_value = seq spaces text_end

pub all_told : (text : List ℕ) (r : Result Noted Refused) (t t' : List ℕ) → Told text (seq spaces (seq (value depth_max) behind_value) 0 0 0 (drop 0 text)) 0 0 0 r t t'
    → Told text (read_all text) 0 0 0 r t t'
unfolding read_all
all_told text r t t' x = x

pub finish_more : (text : List ℕ) (x n m : ℕ) → x < length text → text_end x n m (drop x text) ≡ refused trailing x
unfolding text_end
finish_more text x n m h = rw (drop-cons text x 0 h)

pub finish_done : (text : List ℕ) (x n m : ℕ) (t : List ℕ) → length text ≤ x → Took text (text_end x n m (drop x text)) x n m x n 0 t t
unfolding text_end notes nodes_of bytes_of
finish_done text x n m t h =
    record { len = 0; vs = []; same = rw (drop_of_length-le text h); place = omega arith; nodes = omega arith; table = refl; sound = tt }

take_front : (xs ys : List ℕ) → take (length xs) (xs ++ ys) ≡ xs
take_front [] ys = refl
take_front (x ∷ xs) ys = ap (λ (l : List ℕ). x ∷ l) (take_front xs ys)

front_of : (xs l l' : List ℕ) (n : ℕ) → l' ≡ sets l 0 xs → n ≡ length xs → length xs ≤ length l → take n l' ≡ xs
front_of xs l l' n e f g = rw (f, e, sets_over xs l g) (take_front xs _)

-- whether the store is too short, by the text's length or the sum of what nodes take
pub long_enough : (l r x : ℕ) → l ≤ r → (false ≡ true → r < x) × (false ≡ false → x ≤ l → x ≤ r)
long_enough l r x h = (λ e. never cc, λ e g. omega arith)

pub by_sum : (l r x k : ℕ) → k ≡ x → (ltb r k ≡ true → r < x) × (ltb r k ≡ false → x ≤ l → x ≤ r)
by_sum l r x k h = (λ e. omega (arith, ltb-true r k e), λ e g. omega (arith, ltb-false r k e))

module _ (text t s : List ℕ) where
  -- what reading a text answers, and what the caller's table and store hold afterwards
  abbrev pub Answered : Result Parsed Refused → List ℕ → List ℕ → Type 0
  Answered r t' s' =
      (r ≡ parsed_of (read_of (length t / 4) (length s) text)) × ((t' ≡ table_after (read_of (length t / 4) (length s) text) t)
      × (s' ≡ store_after (read_of (length t / 4) (length s) text) s))

  answered : (v : Read) {r : Result Parsed Refused} {t' s' : List ℕ} → read_of (length t / 4) (length s) text ≡ v → r ≡ parsed_of v → t' ≡ table_after v t → s' ≡ store_after v s
      → Answered r t' s'
  answered v e a b c = rw e (a, (b, c))

  pub too_long_lem : text_max < length text → Answered (Err (refused_at too_long 0)) t s
  unfolding read_of pick
  too_long_lem h = answered (refused too_long 0) (rw (lt-ltb text_max (length text) h)) refl refl refl

  -- the pass, over notes l
  module _ (h : length text ≤ text_max) (l l' : List ℕ) (r : Result Noted Refused) (x : Told text (read_all text) 0 0 0 r l l') where
    pub pass_refused : (f : Refused) → r ≡ Err f → Answered (Err f) t s
    unfolding read_of pick
    pass_refused f e = answered (refused f.refusal f.place) (rw (le-ltb text_max (length text) h, stopped x e)) refl refl refl

    module _ (k : length l ≡ node_max) (v : Noted) (e : r ≡ Ok v) where
      abbrev i : ℕ
      i = v.nodes

      w : Took text (read_all text) 0 0 0 v.at i 0 l l'
      w = took x e

      abbrev ns : List Node
      ns = nodes_of 0 w.vs

      abbrev bs : List ℕ
      bs = bytes_of text w.vs

      count : i ≡ length ns
      count = omega (arith, w.nodes, nodes_length 0 w.vs)

      fair : Fair 1 0 0 text (got w.len 0 ns bs)
      fair = subst (Fair 1 0 0 text) w.same (read_fair text)

      pub few : i ≤ node_max
      few = omega (arith, fair.2, count)

      pub within : i ≤ length l'
      within = omega (arith, few, k, ap length w.table, length-sets l 0 (notes w.vs))

      noted_are : nodes_in (take i l') ≡ w.vs
      noted_are =
          ap nodes_in (front_of (notes w.vs) l l' i w.table (omega (arith, w.nodes, notes_length w.vs)) (omega (arith, notes_length w.vs, w.nodes, few, k)))
          ∙ notes_back text w.vs w.sound

      sizes_be : sizes (nodes_in (take i l')) ≡ length bs
      sizes_be = ap sizes noted_are ∙ sizes_are text w.vs w.sound

      pub tight_table : length t / 4 < i → Answered (Err (refused_at no_room 0)) t s
      unfolding read_of pick
      tight_table g =
          let f : length t / 4 < length ns = omega (arith, count, g) in
          answered (refused no_room 0) (rw (le-ltb text_max (length text) h, w.same, lt-ltb (length t / 4) (length ns) f)) refl refl refl

      module _ (g : i ≤ length t / 4) where
        fits : length ns ≤ length t / 4
        fits = omega (arith, count, g)

        pub tight_store : length s < sizes (nodes_in (take i l')) → Answered (Err (refused_at no_room 0)) t s
        unfolding read_of pick
        tight_store y =
            let f : length s < length bs = omega (arith, sizes_be, y) in
            answered (refused no_room 0)
            (rw (le-ltb text_max (length text) h, w.same, le-ltb (length t / 4) (length ns) fits, lt-ltb (length s) (length bs) f)) refl refl refl

        module _ (y : sizes (nodes_in (take i l')) ≤ length text → sizes (nodes_in (take i l')) ≤ length s) where
          bytes_fit : length bs ≤ length s
          bytes_fit = let z = y (omega (arith, sizes_be, fair.3, fair.1)) in omega (arith, sizes_be, z)

          pub all_fit : AllFit text (nodes_in (take i l')) t s
          all_fit =
              rw noted_are (record {
                sound = w.sound;
                nodes = omega (arith, w.nodes, g);
                bytes = bytes_fit;
                short = omega (arith, fair.3, fair.1, h);
              })

          pub spread_done : (j : ℕ) (t' s' : List ℕ) → (j ≡ length (bytes_of text (nodes_in (take i l'))))
              × ((t' ≡ sets t 0 (flat (nodes_of 0 (nodes_in (take i l'))))) × (s' ≡ sets s 0 (bytes_of text (nodes_in (take i l'))))) → Answered (done i j) t' s'
          unfolding read_of pick
          spread_done j t' s' (a, (b, c)) =
              let d : j ≡ length bs = a ∙ ap (λ (v : List Node). length (bytes_of text v)) noted_are in
              let f : length (flat ns) ≤ length t = omega (arith, flat_length ns, fits) in
              answered (got w.len 0 ns bs)
              (rw (le-ltb text_max (length text) h, w.same, le-ltb (length t / 4) (length ns) fits, le-ltb (length s) (length bs) bytes_fit))
              (ap (λ (y : ℕ). done y j) count ∙ ap (done (length ns)) d)
              (b ∙ ap (λ (v : List Node). sets t 0 (flat (nodes_of 0 v))) noted_are ∙ sets_over (flat ns) t f)
              (c ∙ ap (λ (v : List Node). sets s 0 (bytes_of text v)) noted_are ∙ sets_over bs s bytes_fit)
