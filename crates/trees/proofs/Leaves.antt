-- What one token's node means: a string's the bytes that it denotes, wherever they stand, as what has no backslash is one run of literal
-- characters; a number's its text; a word's its value, or as a key itself.
-- Assumes nothing.
use Prim.Native.Nat.{ℕ, zero, suc, ◌+◌, ◌-◌, ◌≤◌, ◌<◌}
use native.Mathlib.Nat.{zero-add}
use mathlib.Core.Bool.{true, false}
use mathlib.Core.List.{List, [], ◌∷◌}
use mathlib.Core.Path.{◌≡◌, refl, sym, ◌∙◌}
use native.Mathlib.Omega.{arith}
use lib.Dec.{eqb, lit<, lit≤}
use lib.ListN.{length, get_or, take, drop, length-drop}
use lib.Seq.{take-append_seam}
use borrow.Author.Tests.{eqb-true, eqb-false, eq-eqb, ne_eqb, le-leb}
use Rattle.prelude.specs.Pick.{pick}
use Rattle.prelude.proofs.Cases.{split, never}
use Rattle.notation.specs.declared.styles.Style.{Style}
use Rattle.notation.specs.Styles.{quote}
use Rattle.notation.specs.Literals.{literal_run}
use Rattle.prelude.specs.Bytes.{IsBytes}
use Rattle.notation.specs.Marks.{Opening, opens, unopened, opening}
use Rattle.strings.specs.Read.{accepted, read_token}
use Rattle.tokens.specs.Words.{is_word, word_of}
use Rattle.tokens.specs.Numbers.{is_number, number_kind, number_token, legal, number_from, number_at}
use Rattle.tokens.proofs.Runs.{run_le, run_take}
use Rattle.json8.specs.Nodes.{Node, node, got, limited}
use Rattle.json8.specs.Leaves.{slashed, string_node, string, plain, number_read, number}
use Rattle.json8_show.specs.Show.{shown_by}
use Rattle.json8.proofs.Backslashes.{quote_inside, whole_run, run_unslashed, slash_behind}
use Rattle.prelude.proofs.Standing.{stands_in}
use Rattle.trees.specs.Trees.{Tree, null, bool, number as numberTree}
use Rattle.trees.specs.Tables.{just, string_of, number_of, scalar_of}
use Rattle.trees.specs.Sizes.{size_of}
use Rattle.tokens.proofs.NumberTexts.{number_legal}
use Rattle.trees.proofs.Meanings.{unstored, Meant, Spelt, leaf_meant}

number_some : (w : List ℕ) → (number_kind w ≡ 0 → ⊥) → 0 < length w
unfolding number_kind
number_some [] h = absurd (h refl)
number_some (x ∷ r) h = omega arith

module _ (text : List ℕ) (m : ℕ) where
  -- strings
  spelt_text : (p c : ℕ) → p + c ≤ length text → Spelt text m (node 5 1 p c) [] (take c (drop p text))
  unfolding string_of shown_by pick
  spelt_text p c h = record { least = lit≤ tt; most = lit≤ tt; alone = refl; stored = refl; means = λ store a. rw (le-leb (p + c) (length text) h) }

  spelt_store : (bs : List ℕ) → Spelt text m (node 6 1 m (length bs)) bs bs
  unfolding string_of shown_by pick
  spelt_store bs =
      record {
        least = lit≤ tt;
        most = lit≤ tt;
        alone = refl;
        stored = refl;
        means = λ store a. rw (le-leb (m + length bs) (length store) (stands_in a), a.same, take-append_seam bs a.rest);
      }

  -- the node of a token that denotes the bytes bs, and the bytes that it has in the store
  pub record Token (p : ℕ) (bs : List ℕ) (e : ℕ) : Type 0 where
    pub top : Node
    pub kept : List ℕ
    pub read : (n : ℕ) → string p n m (drop p text) ≡ got e 0 (top ∷ []) kept
    pub spelt : Spelt text m top kept bs
    pub bytes : IsBytes bs → IsBytes kept
    pub much : length kept ≡ pick (slashed (take e (drop p text))) (length bs) 0

  module _ (p : ℕ) where
    run_token : (st : Style) (k : ℕ) → opening (drop p text) ≡ opens st k → (e : ℕ) → e ≡ p + k + literal_run st 0 (drop (p + k) text)
        → get_or (drop e text) 0 0 ≡ quote st → Token p (take (literal_run st 0 (drop (p + k) text)) (drop (p + k) text)) (k + literal_run st 0 (drop (p + k) text) + 1)
    unfolding string string_node pick
    run_token st k o e ee q =
        let c : ℕ = literal_run st 0 (drop (p + k) text) in
        let z : k + c + 1 - (k + 1) ≡ c = omega arith in
        record {
          top = node 5 1 (p + k) c;
          kept = [];
          read = λ n. rw (whole_run text p k st o e ee q, run_unslashed text p k st o e ee q, o, z);
          spelt = spelt_text (p + k) c (omega (arith, quote_inside text p k st o e ee q));
          bytes = λ b i. lit< tt;
          much = rw (run_unslashed text p k st o e ee q);
        }

    slashed_token : (bs : List ℕ) (e : ℕ) → read_token (drop p text) ≡ accepted bs e → slashed (take e (drop p text)) ≡ true → Token p bs e
    unfolding string string_node pick
    slashed_token bs e t s = record { top = node 6 1 m (length bs); kept = bs; read = λ n. rw (t, s); spelt = spelt_store bs; bytes = λ b. b; much = rw s }

    pub string_token : (bs : List ℕ) (e : ℕ) → read_token (drop p text) ≡ accepted bs e → Token p bs e
    unfolding read_token
    string_token bs e t = go (opening (drop p text)) refl
      where
        go : (o : Opening) → opening (drop p text) ≡ o → Token p bs e
        go unopened o = let z = rw o at t in never (cc)
        go (opens st k) o =
            let end : ℕ = p + k + literal_run st 0 (drop (p + k) text) in
            split (eqb (get_or (drop end text) 0 0) (quote st))
            (λ q. let w = run_token st k o end refl (eqb-true _ _ q) in
            let z = sym (whole_run text p k st o end refl (eqb-true _ _ q)) ∙ t in
            let a : take (literal_run st 0 (drop (p + k) text)) (drop (p + k) text) ≡ bs = cc in
            let b : k + literal_run st 0 (drop (p + k) text) + 1 ≡ e = cc in
            rw (a, b) at w)
            (λ q. slashed_token bs e t (slash_behind text p k st o end refl (eqb-false _ _ q) bs e t))

    -- an unquoted key
    pub key_spelt : 0 < length (word_of (drop p text)) → Spelt text m (node 5 1 p (length (word_of (drop p text)))) [] (word_of (drop p text))
    key_spelt h =
        rw (← run_take is_word (drop p text)) at
        (spelt_text p (length (word_of (drop p text))) (omega (arith, run_le is_word (drop p text), length-drop p text)))

    -- numbers
    pub number_is : (number_kind (number_token (drop p text)) ≡ 0 → ⊥) → (n : ℕ)
        → number p n m (drop p text) ≡ limited (plain (number_kind (number_token (drop p text))) (length (number_token (drop p text)))) p n m (drop p text)
    unfolding number number_at number_from
    number_is h n = go (number_kind (number_token (drop p text))) h
      where
        go : (k : ℕ) → (k ≡ 0 → ⊥) → number_read (legal k (0 + length (number_token (drop p text)))) p n m (drop p text)
            ≡ limited (plain k (length (number_token (drop p text)))) p n m (drop p text)
        go zero h = absurd (h refl)
        go (suc k) h = rw (zero-add (length (number_token (drop p text))))

    number_scalar : (k : ℕ) (w store : List ℕ) → 3 ≤ k → k ≤ 4 → p + length w ≤ length text → w ≡ take (length w) (drop p text) → number_kind w ≡ k
        → scalar_of text store (node k 1 p (length w)) ≡ just (numberTree w)
    unfolding scalar_of number_of pick
    number_scalar k w store l u h e f =
        let i : (j : ℕ) → j < 3 → k ≡ j → ⊥ = λ j q z. omega arith in
        let g : number_of text (node k 1 p (length w)) ≡ just (numberTree w) = rw (le-leb (p + length w) (length text) h, ← e, eq-eqb (number_kind w) k f) in
        rw (ne_eqb k 0 (i 0 (lit< tt)), ne_eqb k 1 (i 1 (lit< tt)), ne_eqb k 2 (i 2 (lit< tt)))
        (split (eqb k 3) (λ q. rw q g) (λ q. let z : k ≡ 4 = let y = eqb-false k 3 q in omega arith in rw (q, eq-eqb k 4 z) g))

    pub number_meant : (number_kind (number_token (drop p text)) ≡ 0 → ⊥) → (d : ℕ)
        → Meant text d m (node (number_kind (number_token (drop p text))) 1 p (length (number_token (drop p text))) ∷ []) [] (numberTree (number_token (drop p text)))
    unfolding size_of
    number_meant h d =
        let w : List ℕ = number_token (drop p text) in
        let (a, (l, u)) = number_legal w h in
        leaf_meant text d m (node (number_kind w) 1 p (length w)) [] (numberTree w) (omega arith) refl refl
        (unstored (node (number_kind w) 1 p (length w)) (λ e. omega arith))
        (λ store s. number_scalar (number_kind w) w store l u (omega (arith, number_some w h, run_le is_number (drop p text), length-drop p text)) (run_take is_number (drop p text)) refl)

  -- words
  abbrev pub Word : ℕ → Tree → Type 0
  Word kind t = (d p c : ℕ) → Meant text d m (node kind 1 p c ∷ []) [] t

  pub null_meant : Word 0 null
  unfolding scalar_of size_of pick
  null_meant d p c = leaf_meant text d m (node 0 1 p c) [] null (lit≤ tt) refl refl refl (λ store a. refl)

  pub false_meant : Word 1 (bool false)
  unfolding scalar_of size_of pick
  false_meant d p c = leaf_meant text d m (node 1 1 p c) [] (bool false) (lit≤ tt) refl refl refl (λ store a. refl)

  pub true_meant : Word 2 (bool true)
  unfolding scalar_of size_of pick
  true_meant d p c = leaf_meant text d m (node 2 1 p c) [] (bool true) (lit≤ tt) refl refl refl (λ store a. refl)
