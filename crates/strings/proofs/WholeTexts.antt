-- What a whole text is answered, way by way of the code, against the definition.
-- Assumes nothing.
use Prim.Native.Nat.{ℕ, ◌+◌, ◌-◌, ◌≤◌, ◌<◌}
use mathlib.Core.List.{List, [], ◌++◌, append-nil}
use mathlib.Core.Path.{◌≡◌, refl, sym, ap, ◌∙◌, subst}
use native.Mathlib.Omega.{arith}
use borrow.Author.Tests.{lt-ltb, le-ltb, eq-eqb, ne_eqb}
use lib.ListN.{length, get_or, take, drop}
use Rattle.std.specs.Prelude.{Option, Some, None, Result, Ok, Err}
use lib.Seq.{sets, drop-drop, drop-cons, length-take-le}
use Rattle.prelude.specs.Pick.{pick}
use Rattle.prelude.specs.declared.refusals.Refused.{Refused}
use Rattle.prelude.specs.Refusals.{too_long, no_opening, trailing, no_room, refused_at}
use Rattle.prelude.proofs.Cases.{never}
use Rattle.prelude.proofs.Stores.{sets_over, empty_front}
use Rattle.utf8.specs.Utf8.{valid_utf8}
use Rattle.notation.specs.declared.styles.Style.{Style}
use Rattle.notation.specs.Styles.{quote, close}
use Rattle.notation.specs.Literals.{literal_len, literal_run}
use Rattle.units.specs.Units.{unit_at}
use Rattle.runs.specs.inner.Blocks.{Running}
use Rattle.notation.proofs.LiteralLaws.{run_fits, run_utf8}
use Rattle.runs.proofs.LiteralRuns.{stopped}
use Rattle.strings.specs.declared.answers.Token.{Token}
use Rattle.notation.specs.declared.marks.Mark.{Mark}
use Rattle.notation.specs.Marks.{Opening, opens, opening, opening_of}
use Rattle.strings.specs.Read.{StringRead, accepted, refused, more, read_units, read_from, read_token, read_string, read_text, nothing_behind, fitted, decoded_of, token_at, token_of, read_into}
use Rattle.prelude.specs.Limits.{text_max}
use Rattle.strings.specs.inner.Turns.{units_bytes, bytes_from, token_bytes, Closed}
use Rattle.strings.proofs.Places.{Marked, opening_fits}
use Rattle.strings.proofs.Steps.{read_skip, read_closes}
use Rattle.strings.proofs.Runs.{run_law}
use Rattle.strings.proofs.Tokens.{same_token}
use Rattle.strings.proofs.UnitBytes.{bytes_skip, Stored}
use Rattle.strings.proofs.Utf8Denoted.{Valid, valid_whole}

-- the answer for a whole text s whose units read as v, and what the buffer holds
abbrev pub Told : StringRead → List ℕ → List ℕ → Result ℕ Refused → List ℕ → Type 0
Told v s out r new = (r ≡ decoded_of (fitted (length out) (nothing_behind (length s) v))) × (new ≡ read_into (fitted (length out) (nothing_behind (length s) v)) out)

module _ (s out : List ℕ) where
  pub wrong : (v : StringRead) (f : Refused) → token_of v ≡ Err f → Told v s out (Err f) out
  wrong (accepted bs e) f h = never (cc)
  wrong (refused refusal at) f h = let q : refused_at refusal at ≡ f = cc in (ap Err (sym q), refl)

  pub over : (v : StringRead) (t : Token) → token_of v ≡ Ok t → (t.end ≡ length s → ⊥) → Told v s out (Err (refused_at trailing t.end)) out
  unfolding pick
  over (accepted bs e) t h g = let a : e ≡ t.end = ap (λ (x : Token). x.end) (same_token e (length bs) t h) in rw (a, ne_eqb t.end (length s) g) (refl, refl)
  over (refused refusal at) t h g = never (cc)

  pub tight : (v : StringRead) (t : Token) → token_of v ≡ Ok t → t.end ≡ length s → length out < t.len → Told v s out (Err (refused_at no_room 0)) out
  unfolding pick
  tight (accepted bs e) t h g l =
      let a : e ≡ t.end = ap (λ (x : Token). x.end) (same_token e (length bs) t h) in let b : length bs ≡ t.len = ap (λ (x : Token). x.len) (same_token e (length bs) t h) in
      simp (eq-eqb e (length s) (a ∙ g), lt-ltb (length out) (length bs) (omega arith)) (refl, refl)
  tight (refused refusal at) t h g l = never (cc)

  pub good : (v : StringRead) (t : Token) (new : List ℕ) → token_of v ≡ Ok t → t.end ≡ length s → t.len ≤ length out → Stored v out new
      → Told v s out (Ok t.len) new
  unfolding pick
  good (accepted bs e) t new h g l p =
      let a : e ≡ t.end = ap (λ (x : Token). x.end) (same_token e (length bs) t h) in let b : length bs ≡ t.len = ap (λ (x : Token). x.len) (same_token e (length bs) t h) in
      let f : length bs ≤ length out = omega arith in
      simp (eq-eqb e (length s) (a ∙ g), le-ltb (length out) (length bs) f) (ap Ok (sym b), p ∙ sets_over bs out f)
  good (refused refusal at) t new h g l p = never (cc)

-- after a first pass over an empty part l, which leaves the buffer as it was
module _ (s out : List ℕ) (v : StringRead) (l : List ℕ) (z : length l ≡ 0) where
  abbrev same : l ++ out ≡ out
  same = empty_front l out z

  pub first_wrong : (f : Refused) → Err f ≡ token_of v → Told v s out (Err f) (l ++ out)
  first_wrong f i = subst (Told v s out (Err f)) (sym same) (wrong s out v f (sym i))

  module _ (t : Token) (i : Ok t ≡ token_of v) where
    pub first_over : (t.end ≡ length s → ⊥) → Told v s out (Err (refused_at trailing t.end)) (l ++ out)
    first_over g = subst (Told v s out (Err (refused_at trailing t.end))) (sym same) (over s out v t (sym i) g)

    pub first_tight : t.end ≡ length s → length (l ++ out) < t.len → Told v s out (Err (refused_at no_room 0)) (l ++ out)
    first_tight g h = subst (Told v s out (Err (refused_at no_room 0))) (sym same) (tight s out v t (sym i) g (rw same at h))

    pub second_good : (new : List ℕ) → t.end ≡ length s → t.len ≤ length (l ++ out) → Stored v (l ++ out) new → Told v s out (Ok t.len) new
    second_good new g h p = good s out v t new (sym i) g (rw same at h) (subst (λ (o : List ℕ). Stored v o new) same p)

-- the closing quote stands at a place
quote_close : (st : Style) (s : List ℕ) (e : ℕ) → e < length s → get_or s e 0 ≡ quote st → unit_at st (drop e s) ≡ close
unfolding unit_at pick
quote_close st s e h q = rw (drop-cons s e 0 h, eq-eqb (get_or s e 0) (quote st) q)

quote_stops : (st : Style) (s : List ℕ) (e : ℕ) → e < length s → get_or s e 0 ≡ quote st → 0 ≡ literal_len st (drop e s)
unfolding literal_len pick
quote_stops st s e h q = rw (drop-cons s e 0 h, eq-eqb (get_or s e 0) (quote st) q)

-- literal characters reach the closing quote, and that is the text's last byte
module _ (st : Style) (s out : List ℕ) (from e : ℕ) (h : from ≤ length s) (k : Running st s from e) (d : Closed st s e) where
  l : e < length s
  l = omega (arith, d.last)

  ee : e ≡ from + literal_run st 0 (drop from s)
  ee = stopped st s from e k (quote_stops st s e l d.ends)

  abbrev run : ℕ
  run = literal_run st 0 (drop from s)

  count_is : e - from ≡ run
  count_is = omega (arith, ee)

  abbrev bytes : List ℕ
  bytes = take (e - from) (drop from s)

  one_run : read_units st from 0 (drop from s) ≡ accepted bytes (e + 1)
  one_run =
      run_law st (drop from s) from
      ∙ ap (more (take run (drop from s)))
      ((λ i. read_units st (sym ee i) 0 ((drop-drop run from s ∙ ap (λ (k : ℕ). drop k s) (sym ee)) i)) ∙ read_closes st e (drop e s) (quote_close st s e l d.ends))
      ∙ (λ i. accepted ((append-nil (take run (drop from s)) ∙ ap (λ (k : ℕ). take k (drop from s)) (sym count_is)) i) (e + 1))

  ends : token_of (read_units st from 0 (drop from s)) ≡ Ok (token_at (e + 1) (e - from))
  ends =
      ap token_of one_run
      ∙ ap (λ (n : ℕ). Ok (token_at (e + 1) n)) (length-take-le (e - from) (drop from s) (omega (arith, count_is, run_fits st (drop from s))))

  -- what it denotes is valid, in any style
  run_denotes : Valid (read_units st from 0 (drop from s))
  run_denotes =
      subst Valid (sym one_run) (ap (λ (n : ℕ). valid_utf8 (take n (drop from s))) count_is ∙ run_utf8 st (drop from s))

  pub run_tight : length out < e - from → Told (read_units st from 0 (drop from s)) s out (Err (refused_at no_room 0)) out
  run_tight g = tight s out (read_units st from 0 (drop from s)) (token_at (e + 1) (e - from)) ends d.last g

  pub run_good : (new : List ℕ) → e - from ≤ length out → new ≡ sets out 0 bytes → Told (read_units st from 0 (drop from s)) s out (Ok (e - from)) new
  run_good new g p =
      good s out (read_units st from 0 (drop from s)) (token_at (e + 1) (e - from)) new ends d.last g
      (subst (λ (v : StringRead). Stored v out new) (sym one_run) p)

-- the opening mark
module _ (s : List ℕ) (m : Option Mark) (i : opening_of m ≡ opening s) where
  pub unmarked_token : (out : List ℕ) → m ≡ None → (Err (refused_at no_opening 0) ≡ token_of (read_token s)) × (out ≡ sets out 0 (token_bytes s))
  unfolding read_token token_bytes
  unmarked_token out e =
      subst (λ (o : Opening). (Err (refused_at no_opening 0) ≡ token_of (read_from o s)) × (out ≡ sets out 0 (bytes_from o s))) (sym (ap opening_of e) ∙ i) (refl, refl)

  pub unmarked : (out : List ℕ) → m ≡ None → (Err (refused_at no_opening 0) ≡ decoded_of (fitted (length out) (read_string s))) × (out ≡ read_into (fitted (length out) (read_string s)) out)
  unfolding read_string read_token
  unmarked out e =
      subst (λ (o : Opening). Told (read_from o s) s out (Err (refused_at no_opening 0)) out) (sym (ap opening_of e) ∙ i) (refl, refl)

  module _ (mark : Mark) (e : m ≡ Some mark) where
    abbrev st : Style
    st = mark.style

    abbrev n : ℕ
    n = mark.len

    mark_is : opens st n ≡ opening s
    mark_is = sym (ap opening_of e) ∙ i

    pub mark_inside : n ≤ length s
    mark_inside = (subst (Marked s) (sym mark_is) (opening_fits s)).1

    token_is : read_units st n 0 (drop n s) ≡ read_token s
    unfolding read_token
    token_is = sym (read_skip st n n s) ∙ ap (λ (o : Opening). read_from o s) mark_is

    pub literal_valid : (e : ℕ) → Running st s n e → Closed st s e → Valid (read_string s)
    unfolding read_string
    literal_valid e k d = valid_whole (length s) (read_token s) (subst Valid token_is (run_denotes st s [] n e mark_inside k d))

    bytes_are : units_bytes st 0 (drop n s) ≡ token_bytes s
    unfolding token_bytes
    bytes_are = sym (bytes_skip st n s) ∙ ap (λ (o : Opening). bytes_from o s) mark_is

    pub marked_token : {r : Result Token Refused} (out new : List ℕ) → (r ≡ token_of (read_units st n 0 (drop n s))) × (new ≡ sets out 0 (units_bytes st 0 (drop n s)))
        → (r ≡ token_of (read_token s)) × (new ≡ sets out 0 (token_bytes s))
    marked_token {r} out new (t, w) = (t ∙ ap token_of token_is, w ∙ ap (sets out 0) bytes_are)

    pub marked : {r : Result ℕ Refused} {new : List ℕ} (out : List ℕ) → Told (read_units st n 0 (drop n s)) s out r new
        → (r ≡ decoded_of (fitted (length out) (read_string s))) × (new ≡ read_into (fitted (length out) (read_string s)) out)
    unfolding read_string
    marked {r} {new} out t = subst (λ (v : StringRead). Told v s out r new) token_is t

-- the cap
pub long : (s out : List ℕ) → text_max < length s → (Err (refused_at too_long 0) ≡ decoded_of (read_text (length out) s)) × (out ≡ read_into (read_text (length out) s) out)
unfolding read_text pick
long s out h = rw (lt-ltb text_max (length s) h) (refl, refl)

pub within : (s out new : List ℕ) (r : Result ℕ Refused) → length s ≤ text_max
    → (r ≡ decoded_of (fitted (length out) (read_string s))) × (new ≡ read_into (fitted (length out) (read_string s)) out)
    → (r ≡ decoded_of (read_text (length out) s)) × (new ≡ read_into (read_text (length out) s) out)
unfolding read_text pick
within s out new r h t = rw (le-ltb text_max (length s) h) t
