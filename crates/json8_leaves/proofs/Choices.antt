-- Which reader a place has, by what begins there: each way of the code's choice is that of the definition.
-- Assumes nothing.
use mathlib.Core.Path.{◌≡◌, refl, sym, ap, ◌∙◌, subst}
use mathlib.Core.Bool.{true, false}
use mathlib.Core.List.{List, [], ◌∷◌}
use Prim.Native.Nat.{ℕ, ◌+◌, ◌-◌, ◌≤◌, ◌<◌}
use native.Mathlib.Omega.{arith}
use borrow.Author.Tests.{ne_eqb, eqb-true, eqb-false, lt-leb, leb-true}
use lib.Dec.{eqb, leb}
use lib.ListN.{length, get_or, take, drop}
use Rattle.prelude.specs.Limits.{text_max}
use Rattle.std.specs.Prelude.{None, Result, Err}
use Rattle.prelude.specs.declared.refusals.Refused.{Refused}
use Rattle.prelude.specs.Pick.{pick}
use Rattle.prelude.specs.Refusals.{cut_off, misplaced, refused_at}
use Rattle.prelude.proofs.Cases.{split, never, and_left, and_right}
use Rattle.notation.specs.Marks.{opening}
use Rattle.string_tokens.specs.inner.Quotes.{PlainToken}
use Rattle.tokens.specs.declared.starts.Start.{Start}
use Rattle.tokens.specs.declared.starts.Start.TheVariants.{Ended, String as StringStart, Word as WordStart, Number as NumberStart, List as ListStart, Dict, Nothing}
use Rattle.tokens.specs.Words.{is_letter, is_digit, word_of, word_value}
use Rattle.tokens.specs.Numbers.{found, number_at}
use Rattle.tokens.specs.Starts.{is_opening, start_of}
use Rattle.tokens.specs.inner.Parts.{name_kind, Named}
use Rattle.tokens.proofs.First.{rest}
use Rattle.json8.specs.Nodes.{Read, Reader, limited}
use Rattle.json8.specs.Leaves.{string, plain, word_read, word, number_read, number, key_by, key}
use Rattle.json8.specs.Values.{value_by, value_of}
use Rattle.json8_leaves.specs.declared.nodes.Noted.{Noted}
use Rattle.json8_leaves.specs.inner.Told.{Told, none, scalar, ShortLeaf, short_kind}
use Rattle.json8_leaves.proofs.Joined.{told_stop}
use Rattle.json8_leaves.proofs.Single.{plain_inside, word_in, number_in}

-- what a byte begins
pub quote_start : (s : List ℕ) (x : ℕ) → x ≡ get_or s 0 0 → x ≡ 0x22 → start_of s ≡ StringStart
unfolding start_of opening pick
quote_start [] x e f = absurd (omega arith)
quote_start (y ∷ r) x e f = rw (sym e, f)

pub list_start : (s : List ℕ) (x : ℕ) → x ≡ get_or s 0 0 → x ≡ 0x5b → start_of s ≡ ListStart
unfolding start_of opening is_letter pick
list_start [] x e f = absurd (omega arith)
list_start (y ∷ r) x e f = rw (sym e, f)

pub dict_start : (s : List ℕ) (x : ℕ) → x ≡ get_or s 0 0 → x ≡ 0x7b → start_of s ≡ Dict
unfolding start_of opening is_letter pick
dict_start [] x e f = absurd (omega arith)
dict_start (y ∷ r) x e f = rw (sym e, f)

pub digit_start : (s : List ℕ) (x : ℕ) → x ≡ get_or s 0 0 → is_digit x ≡ true → start_of s ≡ NumberStart
unfolding start_of opening is_letter pick
digit_start [] x e d = never (let z : is_digit 0 ≡ true = ap is_digit (sym e) ∙ d in let y : false ≡ true = z in cc)
digit_start (y ∷ r) x e d =
    let a : 0x30 ≤ x = leb-true 0x30 x (and_left (leb 0x30 x) _ d) in
    let b : x ≤ 0x39 = leb-true x 0x39 (and_right (leb 0x30 x) _ d) in
    rw (
      sym e,
      ne_eqb x 34 (λ z. omega arith),
      ne_eqb x 39 (λ z. omega arith),
      ne_eqb x 117 (λ z. omega arith),
      ne_eqb x 98 (λ z. omega arith),
      lt-leb 0x61 x (omega arith),
      lt-leb 0x41 x (omega arith),
      ne_eqb x 0x5f (λ z. omega arith),
      d,
    )

list_byte : (s : List ℕ) → start_of s ≡ ListStart → get_or s 0 0 ≡ 0x5b
unfolding start_of pick
list_byte [] e = never (let z : Ended ≡ ListStart = e in cc)
list_byte (x ∷ r) e =
    split (is_opening (opening (x ∷ r))) (λ a. never (let z : StringStart ≡ ListStart = rw a at e in cc))
    (λ a. split (is_letter x) (λ b. never (let z : WordStart ≡ ListStart = rw (a, b) at e in cc))
    (λ b. split (is_digit x) (λ c. never (let z : NumberStart ≡ ListStart = rw (a, b, c) at e in cc))
    (λ c. split (eqb x 0x2d) (λ d. never (let z : NumberStart ≡ ListStart = rw (a, b, c, d) at e in cc))
    (λ d. split (eqb x 0x5b) (λ f. eqb-true x 0x5b f)
    (λ f. split (eqb x 0x7b) (λ g. never (let z : Dict ≡ ListStart = rw (a, b, c, d, f, g) at e in cc))
    (λ g. never (let z : Nothing ≡ ListStart = rw (a, b, c, d, f, g) at e in cc)))))))

dict_byte : (s : List ℕ) → start_of s ≡ Dict → get_or s 0 0 ≡ 0x7b
unfolding start_of pick
dict_byte [] e = never (let z : Ended ≡ Dict = e in cc)
dict_byte (x ∷ r) e =
    split (is_opening (opening (x ∷ r))) (λ a. never (let z : StringStart ≡ Dict = rw a at e in cc))
    (λ a. split (is_letter x) (λ b. never (let z : WordStart ≡ Dict = rw (a, b) at e in cc))
    (λ b. split (is_digit x) (λ c. never (let z : NumberStart ≡ Dict = rw (a, b, c) at e in cc))
    (λ c. split (eqb x 0x2d) (λ d. never (let z : NumberStart ≡ Dict = rw (a, b, c, d) at e in cc))
    (λ d. split (eqb x 0x5b) (λ f. never (let z : ListStart ≡ Dict = rw (a, b, c, d, f) at e in cc))
    (λ f. split (eqb x 0x7b) (λ g. eqb-true x 0x7b g)
    (λ g. never (let z : Nothing ≡ Dict = rw (a, b, c, d, f, g) at e in cc)))))))

-- where no bracket stands, a value is a scalar
pub no_bracket : (ls ds : Reader) (at n m : ℕ) (s : List ℕ) (x : ℕ) → x ≡ get_or s 0 0 → (x ≡ 0x5b → ⊥) → (x ≡ 0x7b → ⊥)
    → value_of ls ds at n m s ≡ scalar at n m s
unfolding value_of
no_bracket ls ds at n m s x e f g = go (start_of s) refl
  where
    go : (q : Start) → start_of s ≡ q → value_by ls ds q at n m s ≡ value_by none none q at n m s
    go Ended z = refl
    go StringStart z = refl
    go WordStart z = refl
    go NumberStart z = refl
    go ListStart z = absurd (f (e ∙ list_byte s z))
    go Dict z = absurd (g (e ∙ dict_byte s z))
    go Nothing z = refl

-- a key
module _ (text : List ℕ) (at n : ℕ) (q : Start) (e : q ≡ start_of (drop at text)) where
  key_is : (m : ℕ) (k : Start) → q ≡ k → key at n m (drop at text) ≡ key_by k at n m (drop at text)
  unfolding key
  key_is m k f = ap (λ (x : Start). key_by x at n m (drop at text)) (sym e ∙ f)

  pub key_ended : (t : List ℕ) → q ≡ Ended → (m : ℕ) → Told text (key at n m (drop at text)) at n m (Err (refused_at cut_off at)) t t
  key_ended t f m = told_stop (key_is m Ended f)

  pub key_string : (o : Result Noted Refused) (t t' : List ℕ) → q ≡ StringStart → ((m : ℕ) → Told text (limited string at n m (drop at text)) at n m o t t')
      → (m : ℕ) → Told text (key at n m (drop at text)) at n m o t t'
  key_string o t t' f x m = rw (key_is m StringStart f) (x m)

  pub key_word : (o : Result Noted Refused) (len : ℕ) (t t' : List ℕ) → q ≡ WordStart → len ≡ length (word_of (drop at text)) → at + len ≤ length text
      → ((text : List ℕ) (m : ℕ) → at + len ≤ length text → Told text (limited (plain 5 len) at n m (drop at text)) at n m o t t')
      → (m : ℕ) → Told text (key at n m (drop at text)) at n m o t t'
  key_word o len t t' f g i x m =
      subst (λ (k : Read). Told text k at n m o t t') (sym (key_is m WordStart f ∙ ap (λ (l : ℕ). limited (plain 5 l) at n m (drop at text)) (sym g))) (x text m i)

  pub key_number : (t : List ℕ) → q ≡ NumberStart → (m : ℕ) → Told text (key at n m (drop at text)) at n m (Err (refused_at misplaced at)) t t
  key_number t f m = told_stop (key_is m NumberStart f)

  pub key_list : (t : List ℕ) → q ≡ ListStart → (m : ℕ) → Told text (key at n m (drop at text)) at n m (Err (refused_at misplaced at)) t t
  key_list t f m = told_stop (key_is m ListStart f)

  pub key_dict : (t : List ℕ) → q ≡ Dict → (m : ℕ) → Told text (key at n m (drop at text)) at n m (Err (refused_at misplaced at)) t t
  key_dict t f m = told_stop (key_is m Dict f)

  pub key_nothing : (t : List ℕ) → q ≡ Nothing → (m : ℕ) → Told text (key at n m (drop at text)) at n m (Err (refused_at misplaced at)) t t
  key_nothing t f m = told_stop (key_is m Nothing f)

-- a value
module _ (ls ds : Reader) (text : List ℕ) (at n : ℕ) (q : Start) (e : q ≡ start_of (drop at text)) where
  value_is : (m : ℕ) (k : Start) → q ≡ k → value_of ls ds at n m (drop at text) ≡ value_by ls ds k at n m (drop at text)
  unfolding value_of
  value_is m k f = ap (λ (x : Start). value_by ls ds x at n m (drop at text)) (sym e ∙ f)

  pub value_ended : (t : List ℕ) → q ≡ Ended → (m : ℕ) → Told text (value_of ls ds at n m (drop at text)) at n m (Err (refused_at cut_off at)) t t
  value_ended t f m = told_stop (value_is m Ended f)

  pub value_nothing : (t : List ℕ) → q ≡ Nothing → (m : ℕ) → Told text (value_of ls ds at n m (drop at text)) at n m (Err (refused_at misplaced at)) t t
  value_nothing t f m = told_stop (value_is m Nothing f)

  module _ (o : Result Noted Refused) (t t' : List ℕ) where
    pub value_string : q ≡ StringStart → ((m : ℕ) → Told text (limited string at n m (drop at text)) at n m o t t')
        → (m : ℕ) → Told text (value_of ls ds at n m (drop at text)) at n m o t t'
    value_string f x m = rw (value_is m StringStart f) (x m)

    pub value_word : q ≡ WordStart → ((m : ℕ) → Told text (word at n m (drop at text)) at n m o t t')
        → (m : ℕ) → Told text (value_of ls ds at n m (drop at text)) at n m o t t'
    value_word f x m = rw (value_is m WordStart f) (x m)

    pub value_number : q ≡ NumberStart → ((m : ℕ) → Told text (number at n m (drop at text)) at n m o t t')
        → (m : ℕ) → Told text (value_of ls ds at n m (drop at text)) at n m o t t'
    value_number f x m = rw (value_is m NumberStart f) (x m)

    pub value_list : q ≡ ListStart → ((m : ℕ) → Told text (ls at n m (drop at text)) at n m o t t')
        → (m : ℕ) → Told text (value_of ls ds at n m (drop at text)) at n m o t t'
    value_list f x m = rw (value_is m ListStart f) (x m)

    pub value_dict : q ≡ Dict → ((m : ℕ) → Told text (ds at n m (drop at text)) at n m o t t')
        → (m : ℕ) → Told text (value_of ls ds at n m (drop at text)) at n m o t t'
    value_dict f x m = rw (value_is m Dict f) (x m)

pub scalar_list : (text : List ℕ) (at n : ℕ) (q : Start) → q ≡ start_of (drop at text) → (t : List ℕ) → q ≡ ListStart
    → (m : ℕ) → Told text (scalar at n m (drop at text)) at n m (Err (refused_at misplaced at)) t t
scalar_list text at n q e t f m = told_stop (value_is none none text at n q e m ListStart f)

pub scalar_dict : (text : List ℕ) (at n : ℕ) (q : Start) → q ≡ start_of (drop at text) → (t : List ℕ) → q ≡ Dict
    → (m : ℕ) → Told text (scalar at n m (drop at text)) at n m (Err (refused_at misplaced at)) t t
scalar_dict text at n q e t f m = told_stop (value_is none none text at n q e m Dict f)

-- leaves that few bytes tell
pub short_number : (text : List ℕ) (at n len : ℕ) (o : Result Noted Refused) (t t' : List ℕ) → found 3 len ≡ number_at (drop at text) → at + len ≤ length text
    → ((text : List ℕ) (m : ℕ) → at + len ≤ length text → Told text (limited (plain 3 len) at n m (drop at text)) at n m o t t')
    → (m : ℕ) → Told text (number at n m (drop at text)) at n m o t t'
unfolding number
short_number text at n len o t t' e i h m =
    let q : number_read (number_at (drop at text)) at n m (drop at text) ≡ limited (plain 3 len) at n m (drop at text) = rw (sym e) in rw q (h text m i)

module _ (text : List ℕ) (at x len : ℕ) (w : Named (drop at text) x len) where
  pub name_told : (n kind : ℕ) (o : Result Noted Refused) (t t' : List ℕ) → kind ≡ name_kind x → at + len ≤ length text
      → ((text : List ℕ) (m : ℕ) → at + len ≤ length text → Told text (limited (plain kind len) at n m (drop at text)) at n m o t t')
      → (m : ℕ) → Told text (scalar at n m (drop at text)) at n m o t t'
  unfolding word
  name_told n kind o t t' e i h =
      value_word none none text at n WordStart (sym w.start) o t t' refl
      (λ m. let q : word_read (word_value (word_of (drop at text))) (length (word_of (drop at text))) at n m (drop at text) ≡ limited (plain kind len) at n m (drop at text) =
      rw (w.value, w.long, e) in rw q (h text m i))

pub short_rest : (text : List ℕ) (at r : ℕ) → PlainToken (take (length text - at) (drop at text)) 1 (r - 1) → PlainToken (drop at text) 1 (r - 1)
short_rest text at r w = subst (λ (s : List ℕ). PlainToken s 1 (r - 1)) (rest text at) w

pub quote_rest : (text : List ℕ) (at : ℕ) → get_or (drop at text) 0 0 ≡ 0x22 → get_or (take (length text - at) (drop at text)) 0 0 ≡ 0x22
quote_rest text at e = ap (λ (s : List ℕ). get_or s 0 0) (rest text at) ∙ e

-- a leaf that few bytes tell, by its first byte
module _ (text : List ℕ) (at x r : ℕ) where
  abbrev Leaf : Type 0
  Leaf = (0 < r) × ShortLeaf (drop at text) x r

  pub leaf_quoted : x ≡ 0x22 → (0 < r) × PlainToken (take (length text - at) (drop at text)) 1 (r - 1) → Leaf
  leaf_quoted e (p, f) =
      (p, record { quoted = λ z. short_rest text at r f; digits = λ d. never (let z : false ≡ true = sym (ap is_digit e) ∙ d in cc); named = λ n d. absurd (n e) })

  pub leaf_digits : (x ≡ 0x22 → ⊥) → is_digit x ≡ true → (0 < r) × (found 3 r ≡ number_at (drop at text)) → Leaf
  leaf_digits n d (p, f) =
      (p, record { quoted = λ z. absurd (n z); digits = λ z. f; named = λ z b. never (let y : true ≡ false = sym d ∙ b in cc) })

  pub leaf_named : (x ≡ 0x22 → ⊥) → is_digit x ≡ false → (0 < r) × Named (drop at text) x r → Leaf
  leaf_named n d (p, f) =
      (p, record { quoted = λ z. absurd (n z); digits = λ z. never (let y : true ≡ false = sym z ∙ d in cc); named = λ z b. f })

  pub leaf_in : at ≤ length text → x ≡ get_or (drop at text) 0 0 → ShortLeaf (drop at text) x r → 0 < r → (at + r ≤ length text) × (x ≡ 0x22 → 2 ≤ r)
  leaf_in h ex w p =
      split (eqb x 0x22)
      (λ a. let i = plain_inside text at 1 (r - 1) (w.quoted (eqb-true x 0x22 a)) in (omega (arith, i.0), λ z. omega (arith, i.1)))
      (λ a. let n : x ≡ 0x22 → ⊥ = eqb-false x 0x22 a in
      split (is_digit x)
      (λ d. let i = number_in text at (found 3 r) (w.digits d) _ refl h in (i.0, λ z. absurd (n z)))
      (λ d. (word_in text at r None (sym (w.named n d).long) h, λ z. absurd (n z))))

pub kind_digit : (x : ℕ) → is_digit x ≡ true → 3 ≡ short_kind x
unfolding pick
kind_digit x d = rw d

pub kind_name : (x k : ℕ) → is_digit x ≡ false → k ≡ name_kind x → k ≡ short_kind x
unfolding pick
kind_name x k d e = rw d e

module _ (x len at n : ℕ) (o : Result Noted Refused) (t t' : List ℕ) (text : List ℕ) (m : ℕ) (i : at + len ≤ length text) (ex : x ≡ get_or (drop at text) 0 0)
    (w : ShortLeaf (drop at text) x len) where
  pub leaf_string : x ≡ 0x22 → length text ≤ text_max
      → ((text : List ℕ) (m : ℕ) → length text ≤ text_max → PlainToken (drop at text) 1 (len - 1) → Told text (limited string at n m (drop at text)) at n m o t t')
      → Told text (scalar at n m (drop at text)) at n m o t t'
  leaf_string e s h =
      value_string none none text at n StringStart (sym (quote_start (drop at text) x ex e)) o t t' refl (λ m. h text m s (w.quoted e)) m

  pub leaf_plain : (kind : ℕ) → (x ≡ 0x22 → ⊥) → kind ≡ short_kind x
      → ((text : List ℕ) (m : ℕ) → at + len ≤ length text → Told text (limited (plain kind len) at n m (drop at text)) at n m o t t')
      → Told text (scalar at n m (drop at text)) at n m o t t'
  unfolding pick
  leaf_plain kind e f h =
      split (is_digit x)
      (λ d. let k : kind ≡ 3 = rw d at f in
      value_number none none text at n NumberStart (sym (digit_start (drop at text) x ex d)) o t t' refl
      (short_number text at n len o t t' (w.digits d) i (subst (λ (j : ℕ). (text : List ℕ) (m : ℕ) → at + len ≤ length text → Told text (limited (plain j len) at n m (drop at text)) at n m o t t') k h)) m)
      (λ d. let k : kind ≡ name_kind x = rw d at f in name_told text at x len (w.named e d) n kind o t t' k i h m)
