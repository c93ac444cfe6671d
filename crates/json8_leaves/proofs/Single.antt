-- One token, or what stands between two: what the code's leaves answer is what the definition's leaf reads, way by way.
-- Assumes nothing.
use mathlib.Core.Path.{◌≡◌, refl, sym, ap, ◌∙◌, subst}
use mathlib.Core.Bool.{false}
use mathlib.Core.List.{List, [], ◌∷◌, append-nil}
use Prim.Native.Nat.{ℕ, ◌+◌, ◌-◌, ◌≤◌, ◌<◌}
use native.Mathlib.Omega.{arith}
use borrow.Author.Tests.{ne_eqb, eq-eqb}
use lib.ListN.{length, get_or, set, take, drop, length-drop, drop_of_length-le}
use lib.Seq.{get_or-drop, drop-cons, drop-drop}
use Rattle.std.specs.Prelude.{Option, Some, None, Result, Ok, Err}
use Rattle.prelude.specs.declared.refusals.Refusal.{Refusal}
use Rattle.prelude.specs.declared.refusals.Refused.{Refused}
use Rattle.prelude.specs.Pick.{pick}
use Rattle.prelude.specs.Refusals.{cut_off, misplaced, bad_number, too_many, refused_at}
use Rattle.prelude.specs.Limits.{text_max, node_max}
use Rattle.prelude.proofs.Rest.{get_or_inside}
use Rattle.notation.specs.Styles.{quote}
use Rattle.notation.specs.Literals.{literal_run}
use Rattle.notation.specs.Marks.{opens, opening}
use Rattle.strings.specs.Read.{accepted, refused as unread, read_token, token_of}
use Rattle.string_tokens.specs.declared.answers.Quoted.{Quoted}
use Rattle.string_tokens.specs.inner.Quotes.{failed_at, PlainToken, SlashedToken, Judged, denoted}
use Rattle.string_tokens.proofs.Judging.{ended_is, failed_is}
use Rattle.strings.proofs.Places.{Inside, token_inside}
use Rattle.strings.proofs.Lengths.{Less, token_length}
use Rattle.tokens.specs.declared.numbers.Number.{Number}
use Rattle.tokens.specs.Starts.{separates, lacks}
use Rattle.tokens.specs.Words.{is_word, word_of, word_value}
use Rattle.tokens.specs.Numbers.{number_at}
use Rattle.tokens.proofs.Runs.{run_le, run_take}
use Rattle.tokens.specs.Blanks.{is_space, passing, blanks_from, blanks}
use Rattle.tokens.specs.Starts.{colon_at}
use Rattle.tokens.proofs.First.{rest}
use Rattle.tokens.proofs.Progress.{Passed, blanks_passed, Sized, number_sized}
use Rattle.json8_leaves.specs.declared.nodes.Noted.{Noted}
use Rattle.json8_leaves.specs.declared.nodes.Step.{Step}
use Rattle.json8.specs.Nodes.{Node, node, Read, got, refused, seq, limited}
use Rattle.json8.specs.Leaves.{passed, spaces, marked, colon, slashed, string_node, string, plain, word_read, word, number_read, number}
use Rattle.json8.specs.inner.Slashes.{Slashed}
use Rattle.json8.proofs.Backslashes.{quote_inside, whole_run, run_unslashed, slash_behind}
use Rattle.json8.proofs.Limited.{limited_full, limited_free}
use Rattle.json8_leaves.specs.inner.Told.{noted, notes, nodes_of, bytes_of, Sound, Told, Went, Stepped, absent}
use Rattle.json8_leaves.proofs.SmallKinds.{word_kind, number_kind_lem}
use Rattle.json8_leaves.proofs.Joined.{noted_at, at_byte, told_got, told_stop, stepped_at, stepped_stop, step_step, seq_stop}

-- blanks
pub not_space : (x : ℕ) → 0x23 < x → (is_space x ≡ false) × (x ≡ 0x23 → ⊥)
unfolding is_space pick
not_space x h =
    (rw (ne_eqb x 0x20 (λ e. omega arith), ne_eqb x 0x0a (λ e. omega arith), ne_eqb x 0x0d (λ e. omega arith), ne_eqb x 0x09 (λ e. omega arith)), λ e. omega arith)

pub no_space : (x : ℕ) → x ≡ 0x22 → (is_space x ≡ false) × (x ≡ 0x23 → ⊥)
unfolding is_space pick
no_space x e = (rw e, λ z. omega arith)

token_here : (s : List ℕ) (x : ℕ) → x ≡ get_or s 0 0 → (is_space x ≡ false) × (x ≡ 0x23 → ⊥) → blanks s ≡ Ok 0
unfolding blanks_from passing pick
token_here [] x e h = refl
token_here (y ∷ r) x e h = rw (sym e, h.0, ne_eqb x 0x23 h.1)

token_next : (r : List ℕ) (y : ℕ) → y ≡ get_or r 0 0 → (is_space y ≡ false) × (y ≡ 0x23 → ⊥) → blanks_from false 1 0 r ≡ Ok 1
unfolding blanks_from passing pick
token_next [] y e h = refl
token_next (z ∷ r) y e h = rw (sym e, h.0, ne_eqb y 0x23 h.1)

space_next : (s : List ℕ) (x y : ℕ) → x ≡ get_or s 0 0 → x ≡ 0x20 → y ≡ get_or s 1 0 → (is_space y ≡ false) × (y ≡ 0x23 → ⊥) → blanks s ≡ Ok 1
unfolding blanks_from passing is_space pick
space_next [] x y e f g h = absurd (omega arith)
space_next (z ∷ r) x y e f g h = rw (sym e, f) (token_next r y g h)

module _ (text : List ℕ) (at : ℕ) where
  pub here_step : (x : ℕ) → x ≡ get_or (drop at text) 0 0 → (is_space x ≡ false) × (x ≡ 0x23 → ⊥) → Stepped text (spaces at 0 0 (drop at text)) at (at_byte at x)
  unfolding spaces
  here_step x e h = stepped_at (record { len = 0; same = ap (passed at) (token_here (drop at text) x e h); place = omega arith }) e

  pub next_step : (x y : ℕ) → x ≡ get_or (drop at text) 0 0 → x ≡ 0x20 → y ≡ get_or (drop at text) 1 0 → (is_space y ≡ false) × (y ≡ 0x23 → ⊥)
      → Stepped text (spaces at 0 0 (drop at text)) at (at_byte (at + 1) y)
  unfolding spaces
  next_step x y e f g h =
      let q : at + 1 ≡ at + 1 + 0 = omega arith in
      stepped_at (record { len = 1; same = ap (passed at) (space_next (drop at text) x y e f g h); place = refl })
      (g ∙ get_or-drop at text 1 0 ∙ ap (λ (k : ℕ). get_or text k 0) q ∙ sym (get_or-drop (at + 1) text 0 0))

  module _ (r : Result ℕ Refused) (e : r ≡ blanks (drop at text)) where
    pub clear_step : (i : ℕ) → r ≡ Ok i → (x : ℕ) → x ≡ get_or (drop (at + i) text) 0 0 → Stepped text (spaces at 0 0 (drop at text)) at (at_byte (at + i) x)
    unfolding spaces
    clear_step i f x g = stepped_at (record { len = i; same = ap (passed at) (sym e ∙ f); place = refl }) g

    pub clear_in : (i : ℕ) → r ≡ Ok i → i ≤ length text
    clear_in i f = let p : Passed 0 (drop at text) (Ok i) = rw (sym e ∙ f) at (blanks_passed (drop at text)) in omega (arith, p.1, length-drop at text)

    pub ill_step : (f : Refused) → r ≡ Err f → Stepped text (spaces at 0 0 (drop at text)) at (Err (refused_at f.refusal (at + f.place)))
    unfolding spaces
    ill_step f h = stepped_stop (ap (passed at) (sym e ∙ h))

    pub ill_in : (f : Refused) → r ≡ Err f → f.place ≤ length text
    ill_in f h = let p : Passed 0 (drop at text) (Err f) = rw (sym e ∙ h) at (blanks_passed (drop at text)) in omega (arith, p.0, length-drop at text)

  -- what stands where a mark should
  pub absent_end : length text ≤ at → cut_off ≡ absent (drop at text)
  absent_end h = rw (drop_of_length-le text h)

  pub absent_other : at < length text → misplaced ≡ absent (drop at text)
  absent_other h = rw (drop-cons text at 0 h)

-- the colon
colon_absent : (s : List ℕ) (x : ℕ) → x ≡ get_or s 0 0 → (x ≡ 0x3a → ⊥) → colon_at s ≡ lacks (absent s)
unfolding colon_at pick
colon_absent [] x e h = refl
colon_absent (y ∷ r) x e h = rw (sym e, ne_eqb x 0x3a h)

colon_here : (s : List ℕ) (x : ℕ) → x ≡ get_or s 0 0 → x ≡ 0x3a → colon_at s ≡ separates
unfolding colon_at pick
colon_here [] x e h = absurd (omega arith)
colon_here (y ∷ r) x e h = rw (sym e, h)

module _ (text : List ℕ) (at p x : ℕ) (w : Went (spaces at 0 0 (drop at text)) at p 0) (e : x ≡ get_or (drop p text) 0 0) where
  pub colon_stop : (refusal : Refusal) → refusal ≡ absent (drop p text) → (x ≡ 0x3a → ⊥)
      → Stepped text (seq spaces (seq colon spaces) at 0 0 (drop at text)) at (Err (refused_at refusal p))
  unfolding colon
  colon_stop refusal f h =
      step_step spaces (seq colon spaces) text at p 0 w (Err (refused_at refusal p))
      (stepped_stop (seq_stop colon spaces p 0 0 (drop p text) refusal p (ap (marked p) (colon_absent (drop p text) x e h) ∙ ap (λ (k : Refusal). refused k p) (sym f))))

  pub colon_in : x ≡ 0x3a → p + 1 ≤ length text
  colon_in h = omega (arith, get_or_inside (drop p text) 0 (λ z. omega arith), length-drop p text)

  pub colon_step : (r : Result Step Refused) → x ≡ 0x3a → Stepped text (spaces (p + 1) 0 0 (drop (p + 1) text)) (p + 1) r
      → Stepped text (seq spaces (seq colon spaces) at 0 0 (drop at text)) at r
  unfolding colon
  colon_step r h v =
      step_step spaces (seq colon spaces) text at p 0 w r
      (step_step colon spaces text p (p + 1) 2 (record { len = 1; same = ap (marked p) (colon_here (drop p text) x e h); place = refl }) r v)

-- one node noted
module _ {text : List ℕ} {want : Read} {at n m : ℕ} {t t' : List ℕ} (v : Node) (len : ℕ) (s : Sound text v) (y : t' ≡ set t n (noted v)) where
  pub one_plain : (v.kind ≡ 6 → ⊥) → want ≡ got len 0 (v ∷ []) [] → Told text want at n m (noted_at (at + len) (n + 1)) t t'
  unfolding notes nodes_of bytes_of pick
  one_plain k e =
      told_got (record {
        len = len;
        vs = v ∷ [];
        same = e ∙ rw (ne_eqb v.kind 6 k) refl;
        place = refl;
        nodes = refl;
        table = y;
        sound = (s, tt);
      })

  pub one_escaped : (bs : List ℕ) → v.kind ≡ 6 → denoted (read_token (drop v.place text)) ≡ bs → want ≡ got len 0 (node 6 1 m v.size ∷ []) bs
      → Told text want at n m (noted_at (at + len) (n + 1)) t t'
  unfolding notes nodes_of bytes_of pick
  one_escaped bs k d e =
      told_got (record {
        len = len;
        vs = v ∷ [];
        same = e ∙ rw (eq-eqb v.kind 6 k, d, append-nil bs) refl;
        place = refl;
        nodes = refl;
        table = y;
        sound = (s, tt);
      })

-- plain tokens
module _ (kind len at n : ℕ) (t : List ℕ) where
  pub plain_full : node_max ≤ n → (text : List ℕ) (m : ℕ) → at + len ≤ length text → Told text (limited (plain kind len) at n m (drop at text)) at n m (Err (refused_at too_many at)) t t
  plain_full h text m l = told_stop (limited_full (plain kind len) at n m (drop at text) h)

  pub plain_got : (t' : List ℕ) → n < node_max → kind ≤ 5 → at ≤ text_max → len ≤ text_max → t' ≡ set t n (noted (node kind 1 at len))
      → (text : List ℕ) (m : ℕ) → at + len ≤ length text → Told text (limited (plain kind len) at n m (drop at text)) at n m (noted_at (at + len) (n + 1)) t t'
  unfolding plain
  plain_got t' h k p l y text m i =
      one_plain (node kind 1 at len) len
      (record { kind = omega arith; count = omega arith; place = p; size = l; inside = omega arith; escaped = λ z. absurd (let b : ⊥ = omega arith in b) })
      y (λ z. omega arith) (limited_free (plain kind len) at n m (drop at text) h)

-- a string without a backslash
module _ (text : List ℕ) (at k e : ℕ) (w : PlainToken (drop at text) k e) where
  abbrev o : opening (drop at text) ≡ opens w.style k
  o = w.mark

  far : at + e ≡ at + k + literal_run w.style 0 (drop (at + k) text)
  far =
      let q : e ≡ k + literal_run w.style 0 (drop (at + k) text) = w.run ∙ ap (λ (s : List ℕ). k + literal_run w.style 0 s) (drop-drop k at text) in
      omega arith

  closes : get_or (drop (at + e) text) 0 0 ≡ quote w.style
  closes = ap (λ (s : List ℕ). get_or s 0 0) (sym (drop-drop e at text)) ∙ w.ends

  pub plain_inside : (at + e < length text) × (k ≤ e)
  plain_inside = (quote_inside text at k w.style o (at + e) far closes, omega (arith, w.run))

  pub plain_string : (n m : ℕ) → string at n m (drop at text) ≡ got (e + 1) 0 (node 5 1 (at + k) (e - k) ∷ []) []
  unfolding string string_node
  plain_string n m =
      let l : k + literal_run w.style 0 (drop (at + k) text) + 1 ≡ e + 1 = omega (arith, far) in
      let z : e + 1 - (k + 1) ≡ e - k = omega (arith, plain_inside.1) in
      let a : read_token (drop at text) ≡ accepted (take (literal_run w.style 0 (drop (at + k) text)) (drop (at + k) text)) (e + 1) =
      subst (λ (x : ℕ). read_token (drop at text) ≡ accepted (take (literal_run w.style 0 (drop (at + k) text)) (drop (at + k) text)) x) l
      (whole_run text at k w.style o (at + e) far closes) in
      let b : slashed (take (e + 1) (drop at text)) ≡ false =
      subst (λ (x : ℕ). slashed (take x (drop at text)) ≡ false) l (run_unslashed text at k w.style o (at + e) far closes) in
      rw (a, b, o, z) refl

  pub plain_note : (n : ℕ) (t t' : List ℕ) → length text ≤ text_max → n < node_max → t' ≡ set t n (noted (node 5 1 (at + k) (e - k)))
      → (m : ℕ) → Told text (limited string at n m (drop at text)) at n m (noted_at (at + e + 1) (n + 1)) t t'
  plain_note n t t' s h y m =
      let q : at + (e + 1) ≡ at + e + 1 = omega arith in
      subst (λ (x : ℕ). Told text (limited string at n m (drop at text)) at n m (noted_at x (n + 1)) t t') q
      (one_plain (node 5 1 (at + k) (e - k)) (e + 1)
      (record { kind = omega arith; count = omega arith; place = omega (arith, plain_inside.0, plain_inside.1); size = omega (arith, plain_inside.0); inside = omega (arith, plain_inside.0, plain_inside.1); escaped = λ z. absurd (let b : ⊥ = omega arith in b) })
      y (λ z. omega arith) (limited_free string at n m (drop at text) h ∙ plain_string n m))

-- a string with one, and a refusal
module _ (text : List ℕ) (at end count : ℕ) (w : SlashedToken (drop at text) end count) where
  pub slashed_inside : (at ≤ length text) → (at + end ≤ length text) × (count < end)
  slashed_inside h =
      let (bs, (v, c)) = ended_is (read_token (drop at text)) end count w.told in
      let i : Inside 0 (length (drop at text)) (accepted bs end) = rw v at (token_inside (drop at text)) in
      let l : Less (accepted bs end) = rw v at (token_length (drop at text)) in
      (omega (arith, i.1, length-drop at text), omega arith)

  slashed_so : Slashed (drop at text)
  slashed_so =
      let f : at + (w.from + literal_run w.style 0 (drop w.from (drop at text))) ≡ at + w.from + literal_run w.style 0 (drop (at + w.from) text) =
      rw (drop-drop w.from at text) (omega arith) in
      slash_behind text at w.from w.style w.mark _ f
      (λ z. w.goes_on (ap (λ (s : List ℕ). get_or s 0 0) (drop-drop _ at text) ∙ z))

  slashed_string : (n m : ℕ) (bs : List ℕ) → read_token (drop at text) ≡ accepted bs end → string at n m (drop at text) ≡ got end 0 (node 6 1 m (length bs) ∷ []) bs
  unfolding string string_node
  slashed_string n m bs v = rw (v, slashed_so bs end v)

  pub slashed_note : (n : ℕ) (t t' : List ℕ) → length text ≤ text_max → at ≤ length text → n < node_max → t' ≡ set t n (noted (node 6 1 at count))
      → (m : ℕ) → Told text (limited string at n m (drop at text)) at n m (noted_at (at + end) (n + 1)) t t'
  slashed_note n t t' s h g y m =
      let (bs, (v, c)) = ended_is (read_token (drop at text)) end count w.told in
      let i = slashed_inside h in
      let d : denoted (read_token (drop at text)) ≡ bs = ap denoted v in
      one_escaped (node 6 1 at count) end
      (record { kind = omega arith; count = omega arith; place = omega arith; size = omega (arith, i.0, i.1); inside = h; escaped = λ z. sym c ∙ ap length (sym d) })
      y bs refl d (limited_free string at n m (drop at text) g ∙ slashed_string n m bs v ∙ ap (λ (x : ℕ). got end 0 (node 6 1 m x ∷ []) bs) c)

pub string_stop : (text : List ℕ) (at n : ℕ) (f : Refused) (t t' : List ℕ) → n < node_max → failed_at f ≡ token_of (read_token (drop at text))
    → (m : ℕ) → Told text (limited string at n m (drop at text)) at n m (Err (refused_at f.refusal (at + f.place))) t t'
unfolding string
string_stop text at n f t t' h e m =
    told_stop (limited_free string at n m (drop at text) h ∙ rw (failed_is (read_token (drop at text)) f e))

pub failed_in : (text : List ℕ) (at : ℕ) (f : Refused) → at ≤ length text → failed_at f ≡ token_of (read_token (drop at text)) → at + f.place ≤ length text
failed_in text at f h e =
    let v = failed_is (read_token (drop at text)) f e in
    let i : Inside 0 (length (drop at text)) (unread f.refusal f.place) = rw v at (token_inside (drop at text)) in
    omega (arith, i.0, length-drop at text)

pub string_full : (text : List ℕ) (at n : ℕ) (t : List ℕ) → node_max ≤ n → (m : ℕ) → Told text (limited string at n m (drop at text)) at n m (Err (refused_at too_many at)) t t
string_full text at n t h m = told_stop (limited_full string at n m (drop at text) h)

-- a short one
module _ (len at n : ℕ) (t : List ℕ) where
  pub short_full : node_max ≤ n → (text : List ℕ) (m : ℕ) → length text ≤ text_max → PlainToken (drop at text) 1 (len - 1)
      → Told text (limited string at n m (drop at text)) at n m (Err (refused_at too_many at)) t t
  short_full h text m s w = string_full text at n t h m

  pub short_got : (t' : List ℕ) → n < node_max → 2 ≤ len → t' ≡ set t n (noted (node 5 1 (at + 1) (len - 2)))
      → (text : List ℕ) (m : ℕ) → length text ≤ text_max → PlainToken (drop at text) 1 (len - 1)
      → Told text (limited string at n m (drop at text)) at n m (noted_at (at + len) (n + 1)) t t'
  short_got t' h l y text m s w =
      let q : at + (len - 1) + 1 ≡ at + len = omega arith in
      let z : len - 2 ≡ len - 1 - 1 = omega arith in
      subst (λ (x : ℕ). Told text (limited string at n m (drop at text)) at n m (noted_at x (n + 1)) t t') q
      (plain_note text at 1 (len - 1) w n t t' s h (y ∙ ap (λ (x : ℕ). set t n (noted (node 5 1 (at + 1) x))) z) m)

-- what the part that starts at the mark tells
pub judged_rest : (text : List ℕ) (at : ℕ) (r : Result Quoted Refused) → Judged (take (length text - at) (drop at text)) r → Judged (drop at text) r
judged_rest text at r h = subst (λ (s : List ℕ). Judged s r) (rest text at) h

-- words
module _ (text : List ℕ) (at len : ℕ) (w : Option ℕ) (el : len ≡ length (word_of (drop at text))) where
  pub word_in : at ≤ length text → at + len ≤ length text
  word_in h = omega (arith, run_le is_word (drop at text), length-drop at text)

  module _ (ew : w ≡ word_value (take (at + len - at) (drop at text))) where
    is_word_lem : w ≡ word_value (word_of (drop at text))
    is_word_lem =
        let z : at + len - at ≡ length (word_of (drop at text)) = omega arith in
        ew ∙ ap word_value (ap (λ (k : ℕ). take k (drop at text)) z ∙ sym (run_take is_word (drop at text)))

    pub word_small : (kind : ℕ) → w ≡ Some kind → kind ≤ 2
    word_small kind f = word_kind (word_of (drop at text)) kind (sym is_word_lem ∙ f)

    pub word_told : (n kind wide : ℕ) (r : Result Noted Refused) (t t' : List ℕ) → w ≡ Some kind → wide ≡ kind → at ≤ length text
        → ((text : List ℕ) (m : ℕ) → at + len ≤ length text → Told text (limited (plain wide len) at n m (drop at text)) at n m r t t')
        → (m : ℕ) → Told text (word at n m (drop at text)) at n m r t t'
    unfolding word
    word_told n kind wide r t t' f g i h m =
        let q : word_read (word_value (word_of (drop at text))) (length (word_of (drop at text))) at n m (drop at text) ≡ limited (plain wide len) at n m (drop at text) =
        rw (sym is_word_lem, f, sym el, g) in rw q (h text m (word_in i))

    pub word_other : (n : ℕ) (t : List ℕ) → w ≡ None → (m : ℕ) → Told text (word at n m (drop at text)) at n m (Err (refused_at misplaced at)) t t
    unfolding word
    word_other n t f m = told_stop (rw (sym is_word_lem, f))

-- numbers
module _ (text : List ℕ) (at : ℕ) (v : Option Number) (ev : v ≡ number_at (drop at text)) where
  pub number_in : (w : Number) → v ≡ Some w → at ≤ length text → (at + w.len ≤ length text) × (w.kind ≤ 4)
  number_in w f h =
      let z : Sized (drop at text) (Some w) = rw (sym ev ∙ f) at (number_sized (drop at text)) in
      (omega (arith, z.1, length-drop at text), number_kind_lem (drop at text) w.kind w.len (sym f ∙ ev))

  pub number_told : (n wide : ℕ) (w : Number) (r : Result Noted Refused) (t t' : List ℕ) → v ≡ Some w → wide ≡ w.kind → at ≤ length text
      → ((text : List ℕ) (m : ℕ) → at + w.len ≤ length text → Told text (limited (plain wide w.len) at n m (drop at text)) at n m r t t')
      → (m : ℕ) → Told text (number at n m (drop at text)) at n m r t t'
  unfolding number
  number_told n wide w r t t' f g i h m =
      let q : number_read (number_at (drop at text)) at n m (drop at text) ≡ limited (plain wide w.len) at n m (drop at text) = rw (sym ev, f, g) in
      rw q (h text m (number_in w f i).0)

  pub number_malformed : (n : ℕ) (t : List ℕ) → v ≡ None → (m : ℕ) → Told text (number at n m (drop at text)) at n m (Err (refused_at bad_number at)) t t
  unfolding number
  number_malformed n t f m = told_stop (rw (sym ev ∙ f))
