-- Tokens as they are written: a word, a number or a string at a place of a text is read to its node, with anything behind it that doesn't
-- go on with it.
-- Assumes nothing.
use Prim.Native.Nat.{ℕ, ◌+◌, ◌<◌}
use mathlib.Core.Bool.{Bool, true, false}
use mathlib.Core.List.{List, [], ◌∷◌, ◌++◌}
use mathlib.Core.Path.{◌≡◌, refl, sym, ap, ◌∙◌}
use lib.ListN.{length, take, drop}
use lib.Seq.{drop-drop, drop-append_seam, take-append_seam}
use Rattle.std.specs.Prelude.{Some}
use Rattle.prelude.specs.Pick.{pick}
use Rattle.prelude.proofs.Picks.{pick_case}
use Rattle.utf8.specs.Utf8.{valid_utf8}
use Rattle.notation.specs.declared.styles.Form.TheVariants.{AsJson, AsBytes}
use Rattle.prelude.specs.Bytes.{IsBytes}
use Rattle.notation.specs.Marks.{opening}
use Rattle.strings_write.specs.Write.{quoted, write_string}
use Rattle.string_claims.proofs.RoundTrip.{token_back}
use Rattle.tokens.specs.declared.starts.Start.{Start}
use Rattle.tokens.specs.declared.starts.Start.TheVariants.{String as StringStart, Word as WordStart, Number as NumberStart}
use Rattle.tokens.specs.Blanks.{is_space}
use Rattle.tokens.specs.Words.{is_letter, is_word, run_of, same_bytes, word_value, null_word, false_word, true_word}
use Rattle.tokens.specs.Numbers.{is_number, number_kind, number_token}
use Rattle.tokens.specs.Starts.{start_of}
use Rattle.tokens.proofs.Runs.{run_none}
use Rattle.json8.specs.declared.nodes.Sort.TheVariants.{Items, Pairs}
use Rattle.json8.specs.Nodes.{Node, node, got, Reader, seq}
use Rattle.prelude.specs.Limits.{node_max}
use Rattle.json8.specs.Leaves.{slashed, string, plain, word}
use Rattle.json8.specs.Values.{value_by, value_of, group, value}
use Rattle.json8.proofs.Limited.{limited_free}
use Rattle.trees.specs.Trees.{Tree, null, bool, number as numberTree, string as stringTree, render}
use Rattle.trees.specs.Sizes.{kept_of, store_of}
use Rattle.trees.specs.Claims.{Stops}
use Rattle.trees.proofs.Firsts.{solid, begins, Heads}
use Rattle.tokens.proofs.NumberTexts.{All, run_back, number_legal}
use Rattle.trees.proofs.NumberTexts.{number_begins}
use Rattle.trees.proofs.Meanings.{Meant, string_meant}
use Rattle.trees.proofs.Leaves.{Token, string_token, number_is, number_meant, Word, null_meant, false_meant, true_meant}

-- a string's text begins a string
pub written_begins : (s r : List ℕ) → (start_of (write_string s ++ r) ≡ StringStart) × Heads (write_string s)
unfolding write_string quoted start_of opening begins solid is_space pick
written_begins s r =
    pick_case (λ w. (start_of (w ++ r) ≡ StringStart) × Heads w) (valid_utf8 s) (quoted AsJson s) (quoted AsBytes s) (λ e. (refl, refl)) (λ e. (refl, refl))

pub number_heads : (w : List ℕ) → (number_kind w ≡ 0 → ⊥) → Heads w
unfolding number_kind
number_heads [] h = absurd (h refl)
number_heads (x ∷ w) h = (number_begins x w h []).0

number_start : (w r : List ℕ) → (number_kind w ≡ 0 → ⊥) → start_of (w ++ r) ≡ NumberStart
unfolding number_kind
number_start [] r h = absurd (h refl)
number_start (x ∷ w) r h = (number_begins x w h (w ++ r)).1

stop : (f : ℕ → Bool) (r : List ℕ) → Stops r → ((x : ℕ) → is_word x ≡ false → is_number x ≡ false → f x ≡ false) → run_of f r ≡ []
unfolding run_of
stop f [] s h = refl
stop f (x ∷ r) s h = run_none f x r (h x s.0 s.1)

module _ (text : List ℕ) where
  -- a place behind some bytes
  pub behind : (p : ℕ) (u r : List ℕ) → drop p text ≡ u ++ r → drop (p + length u) text ≡ r
  behind p u r e = sym (drop-drop (length u) p text) ∙ ap (drop (length u)) e ∙ drop-append_seam u r

  -- one reader and then another
  pub seq_both : (a b : Reader) (p n m l u : ℕ) (ns : List Node) (bs : List ℕ) (k tag : ℕ) (ms : List Node) (cs : List ℕ)
      → a p n m (drop p text) ≡ got l u ns bs → b (p + l) (n + length ns) (m + length bs) (drop (p + l) text) ≡ got k tag ms cs
      → seq a b p n m (drop p text) ≡ got (l + k) tag (ns ++ ms) (bs ++ cs)
  unfolding seq
  seq_both a b p n m l u ns bs k tag ms cs e f = rw (e, drop-drop l p text, f)

  -- a tree at a place, and the nodes and bytes that it is read to
  pub record Back (d : ℕ) (t : Tree) (p n m : ℕ) : Type 0 where
    pub nodes : List Node
    pub bytes : List ℕ
    pub read : value d p n m (drop p text) ≡ got (length (render t)) 0 nodes bytes
    pub meant : Meant text d m nodes bytes t
    pub kept : length bytes ≡ store_of t

  value_at : (d p n m : ℕ) (s : List ℕ) (q : Start) → drop p text ≡ s → start_of s ≡ q
      → value d p n m (drop p text) ≡ value_by (group d Items) (group d Pairs) q p n m (drop p text)
  unfolding value_of
  value_at d p n m s q e f = ap (λ (q : Start). value_by (group d Items) (group d Pairs) q p n m (drop p text)) (ap start_of e ∙ f)

  -- tokens
  word_back : (d p n m : ℕ) (w r : List ℕ) (kind : ℕ) (t : Tree) → drop p text ≡ w ++ r → n < node_max → Stops r → render t ≡ w
      → start_of (w ++ r) ≡ WordStart → All is_word w → word_value w ≡ Some kind → Word text m kind t → 0 ≡ store_of t → Back d t p n m
  unfolding word plain
  word_back d p n m w r kind t e h s z b a v f g =
      record {
        nodes = node kind 1 p (length w) ∷ [];
        bytes = [];
        read =
            value_at d p n m (w ++ r) WordStart e b
            ∙ rw (e, run_back is_word w r a (stop is_word r s (λ x i j. i)), v, z) (limited_free (plain kind (length w)) p n m (w ++ r) h);
        meant = f d p (length w);
        kept = g;
      }

  pub number_back : (d p n m : ℕ) (w r : List ℕ) → drop p text ≡ w ++ r → n < node_max → Stops r → (number_kind w ≡ 0 → ⊥) → Back d (numberTree w) p n m
  unfolding render plain store_of
  number_back d p n m w r e h s k =
      let q : number_token (drop p text) ≡ w = ap number_token e ∙ run_back is_number w r (number_legal w k).0 (stop is_number r s (λ x i j. j)) in
      let j : number_kind (number_token (drop p text)) ≡ 0 → ⊥ = rw q k in
      record {
        nodes = node (number_kind w) 1 p (length w) ∷ [];
        bytes = [];
        read =
            value_at d p n m (w ++ r) NumberStart e (number_start w r k) ∙ number_is text m p j n
            ∙ rw q (limited_free (plain (number_kind w) (length w)) p n m (drop p text) h);
        meant = rw q at (number_meant text m p j d);
        kept = refl;
      }

  pub string_at : (p m : ℕ) (s r : List ℕ) → drop p text ≡ write_string s ++ r → IsBytes s → Token text m p s (length (write_string s))
  string_at p m s r e b = string_token text m p s (length (write_string s)) (rw e (token_back s r b))

  -- what a written string has in the store
  pub string_kept : (p m : ℕ) (s r : List ℕ) (e : drop p text ≡ write_string s ++ r) (b : IsBytes s) → length (string_at p m s r e b).kept ≡ kept_of s
  unfolding kept_of
  string_kept p m s r e b =
      (string_at p m s r e b).much
      ∙ ap (λ (w : List ℕ). pick (slashed w) (length s) 0) (ap (take (length (write_string s))) e ∙ take-append_seam (write_string s) r)

  pub string_back : (d p n m : ℕ) (s r : List ℕ) → drop p text ≡ write_string s ++ r → n < node_max → IsBytes s → Back d (stringTree s) p n m
  unfolding render store_of
  string_back d p n m s r e h b =
      let x = string_at p m s r e b in
      record {
        nodes = x.top ∷ [];
        bytes = x.kept;
        read = value_at d p n m (write_string s ++ r) StringStart e (written_begins s r).0 ∙ limited_free string p n m (drop p text) h ∙ x.read n;
        meant = string_meant text d m x.top x.kept s x.spelt;
        kept = string_kept p m s r e b;
      }

  pub words : (d p n m : ℕ) (r : List ℕ) → n < node_max → Stops r
      → (drop p text ≡ null_word ++ r → Back d null p n m) × (drop p text ≡ false_word ++ r → Back d (bool false) p n m) × (drop p text ≡ true_word ++ r → Back d (bool true) p n m)
  unfolding render store_of start_of opening is_word is_letter word_value same_bytes pick
  words d p n m r h s = (
    λ e. word_back d p n m null_word r 0 null e h s refl refl (refl, (refl, (refl, (refl, tt)))) refl (null_meant text m) refl,
    λ e. word_back d p n m false_word r 1 (bool false) e h s refl refl (refl, (refl, (refl, (refl, (refl, tt))))) refl (false_meant text m) refl,
    λ e. word_back d p n m true_word r 2 (bool true) e h s refl refl (refl, (refl, (refl, (refl, tt)))) refl (true_meant text m) refl,
  )
