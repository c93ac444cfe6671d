-- A stripped text read: plain bytes stand bare, a string is judged where it stands, and its column's type takes it or not.
-- Assumes nothing.
use Prim.Native.Nat.{ℕ, ◌+◌, ◌-◌, ◌≤◌, ◌<◌}
use mathlib.Core.Bool.{true, false}
use mathlib.Core.List.{List, [], ◌∷◌}
use mathlib.Core.Path.{◌≡◌, refl, sym, ap, subst, ◌∙◌}
use native.Mathlib.Nat.{zero-add}
use native.Mathlib.Omega.{arith}
use borrow.Author.Tests.{eq-eqb, ne_eqb}
use lib.Dec.{eqb}
use lib.ListN.{length, get_or, take, drop}
use lib.Seq.{take-length}
use Rattle.std.specs.Prelude.{Some, None, Ok, Err}
use Rattle.prelude.specs.declared.refusals.Refusal.{Refusal}
use Rattle.prelude.specs.declared.refusals.Refused.{Refused}
use Rattle.prelude.specs.Pick.{pick}
use Rattle.prelude.specs.Refusals.{trailing, wrong_type, refused_at}
use Rattle.prelude.proofs.Cases.{split, never}
use Rattle.prelude.proofs.Picks.{and_no_second}
use Rattle.prelude.proofs.Rest.{get_or_inside}
use Rattle.utf8.specs.Class.{class_of}
use Rattle.eights.specs.inner.Words.{is_odd}
use Rattle.notation.specs.declared.styles.Style.{Style}
use Rattle.notation.specs.declared.styles.Style.TheVariants.{Json}
use Rattle.notation.specs.declared.marks.Mark.{Mark}
use Rattle.notation.specs.Literals.{literal_run}
use Rattle.notation.specs.Marks.{Opening, opens, unopened, opening, opening_of}
use Rattle.runs.specs.inner.Blocks.{Running}
use Rattle.runs.proofs.LiteralRuns.{here}
use Rattle.strings.specs.Read.{accepted, refused as unread, read_token, read_string}
use Rattle.strings.proofs.Places.{Inside, token_inside}
use Rattle.strings.proofs.Lengths.{Less, token_length}
use Rattle.string_tokens.specs.declared.answers.Quoted.{Quoted}
use Rattle.string_tokens.specs.declared.answers.Quoted.TheVariants.{Plain as PlainAt, Slashed as SlashedAt}
use Rattle.string_tokens.specs.inner.Quotes.{PlainToken, SlashedToken, Judged, denoted}
use Rattle.string_tokens.proofs.Quoting.{plains_run}
use Rattle.string_tokens.proofs.Judging.{ended_is, failed_is}
use Rattle.tokens.specs.Words.{same_bytes, false_word, true_word}
use Rattle.json8.specs.Leaves.{slashed}
use Rattle.json8.proofs.Backslashes.{quote_inside, whole_run, run_unslashed, slash_behind}
use Rattle.lines.specs.Line.{kind_of, bare, holds, from_string, from_bare, by_opening, read_stripped}
use Rattle.lines.proofs.BareTexts.{run_fine}
use Rattle.lines.proofs.Refusing.{LineFault, stripped_fault}
use Rattle.tsv8_cells.specs.declared.cells.Text.{Text}
use Rattle.tsv8_cells.specs.declared.cells.Text.TheVariants.{Bare, Plain, Slashed}
use Rattle.tsv8_cells.specs.declared.cells.Cell.{Cell as CellOut}
use Rattle.tsv8_cells.specs.Types.{ColumnType, bools, ints, floats, strs, is_int, is_float}
use Rattle.tsv8_cells.specs.Cells.{cell, got, refused, cell_for, cell_by}
use Rattle.tsv8_cells.specs.inner.Typed.{bool_kind, typed_kind}
use Rattle.tsv8_cells.specs.inner.Texts.{AllPlain, BareText, PlainText, SlashedText, IsText}
use Rattle.tsv8_cells.specs.inner.Told.{stored_by, CellTold}
use Rattle.tsv8_cells.proofs.Numerals.{fit_plain}

-- a cell as the code answers it
abbrev pub out : ℕ → ℕ → ℕ → CellOut
out k p n = record { kind = k; place = p; size = n }

-- a text that opens is read as a string, another as a bare one
opened : (w : List ℕ) (st : Style) (k : ℕ) → 0 < length w → opening w ≡ opens st k → read_stripped w ≡ from_string (read_string w)
unfolding read_stripped
opened [] st k h o = absurd (omega arith)
opened (x ∷ r) st k h o = ap (by_opening (x ∷ r)) o

opened_some : (w : List ℕ) → 0 < length w → (opening w ≡ unopened → ⊥) → read_stripped w ≡ from_string (read_string w)
opened_some w h ne = go (opening w) refl
  where
    go : (o : Opening) → opening w ≡ o → read_stripped w ≡ from_string (read_string w)
    go (opens st k) e = opened w st k h e
    go unopened e = absurd (ne e)

unopened_is : (w : List ℕ) → 0 < length w → opening w ≡ unopened → read_stripped w ≡ from_bare w (bare w)
unfolding read_stripped
unopened_is [] h o = absurd (omega arith)
unopened_is (x ∷ r) h o = ap (by_opening (x ∷ r)) o

string_whole : (w bs : List ℕ) (e : ℕ) → read_token w ≡ accepted bs e → e ≡ length w → read_string w ≡ accepted bs e
unfolding read_string pick
string_whole w bs e t l = rw (t, eq-eqb e (length w) l)

string_more : (w bs : List ℕ) (e : ℕ) → read_token w ≡ accepted bs e → (e ≡ length w → ⊥) → read_string w ≡ unread trailing e
unfolding read_string pick
string_more w bs e t l = rw (t, ne_eqb e (length w) l)

string_bad : (w : List ℕ) (refusal : Refusal) (at : ℕ) → read_token w ≡ unread refusal at → read_string w ≡ unread refusal at
unfolding read_string
string_bad w refusal at t = rw t

-- plain bytes
no_quote : (x : ℕ) → is_odd x ≡ false → (eqb x 0x22 ≡ false) × (eqb x 0x27 ≡ false)
unfolding is_odd class_of pick
no_quote x o =
    (ne_eqb x 0x22 (λ e. never (let z : true ≡ false = rw e at o in cc)), ne_eqb x 0x27 (λ e. never (let z : true ≡ false = rw e at o in cc)))

module _ (w : List ℕ) (h : 0 < length w) (a : AllPlain w) where
  second : eqb (get_or w 1 0) 0x27 ≡ false
  second =
      ne_eqb (get_or w 1 0) 0x27 (λ e.
      let l = get_or_inside w 1 (λ z. omega (arith, z, e)) in
      let n = (no_quote (get_or w 1 0) (a 1 l)).1 in
      never (let z : true ≡ false = sym (eq-eqb (get_or w 1 0) 0x27 e) ∙ n in cc))

  plain_unopened : opening w ≡ unopened
  unfolding opening pick
  plain_unopened =
      let (b, d) = no_quote (get_or w 0 0) (a 0 h) in
      rw (b, d, second, and_no_second (eqb (get_or w 0 0) 0x75) false refl, and_no_second (eqb (get_or w 0 0) 0x62) false refl)

  plain_run_lem : Running Json w 0 (length w)
  plain_run_lem =
      subst (Running Json w 0) (zero-add (length w))
      (plains_run w 0 0 (length w) (here Json w 0 (omega arith)) (omega arith) (λ j l. subst (λ (k : ℕ). is_odd (get_or w k 0) ≡ false) (sym (zero-add j)) (a j l)))

  pub plain_bare : BareText w
  plain_bare = record { mark = plain_unopened; same = unopened_is w h plain_unopened ∙ ap (from_bare w) (sym (run_fine Json w (length w) plain_run_lem refl)) }

  pub plain_text : IsText w (Ok Bare)
  plain_text = record { so = plain_bare }

-- a string without a backslash
module _ (w : List ℕ) (h : 0 < length w) (k e : ℕ) (x : PlainToken w k e) where
  abbrev o : opening w ≡ opens x.style k
  o = x.mark

  far : e ≡ 0 + k + literal_run x.style 0 (drop (0 + k) w)
  far = rw (zero-add k) x.run

  abbrev bs : List ℕ
  bs = take (literal_run x.style 0 (drop (0 + k) w)) (drop (0 + k) w)

  long : k + literal_run x.style 0 (drop (0 + k) w) + 1 ≡ e + 1
  long = omega (arith, far, zero-add k)

  token : read_token w ≡ accepted bs (e + 1)
  token = whole_run w 0 k x.style o e far x.ends ∙ ap (accepted bs) long

  pub plain_inside : (e < length w) × (k ≤ e)
  plain_inside = (quote_inside w 0 k x.style o e far x.ends, omega (arith, x.run))

  plain_more : (f : Refused) → f ≡ refused_at trailing (e + 1) → e + 1 < length w → IsText w (Err f)
  plain_more f ef l = rw ef record { so = opened w x.style k h o ∙ ap from_string (string_more w bs (e + 1) token (λ z. omega arith)) }

  pub plain_whole : length w ≤ e + 1 → IsText w (Ok (Plain k))
  plain_whole l =
      let z : e + 1 ≡ length w = omega (arith, plain_inside.0) in
      record {
        so = record {
          style = x.style;
          mark = o;
          clean = subst (λ (n : List ℕ). slashed n ≡ false) (take-length w) (subst (λ (n : ℕ). slashed (take n w) ≡ false) (long ∙ z) (run_unslashed w 0 k x.style o e far x.ends));
          kind = kind_of bs;
          bytes = bs;
          same = opened w x.style k h o ∙ ap from_string (string_whole w bs (e + 1) token z);
          inside = omega (arith, plain_inside.0, plain_inside.1);
        };
      }

-- a string with one
module _ (w : List ℕ) (h : 0 < length w) (end count : ℕ) (x : SlashedToken w end count) where
  slashed_at : (bs : List ℕ) → read_token w ≡ accepted bs end → end ≡ length w → slashed w ≡ true
  slashed_at bs t z =
      let f : x.from + literal_run x.style 0 (drop x.from w) ≡ 0 + x.from + literal_run x.style 0 (drop (0 + x.from) w) = rw (zero-add x.from) refl in
      subst (λ (n : List ℕ). slashed n ≡ true) (take-length w)
      (subst (λ (n : ℕ). slashed (take n w) ≡ true) z (slash_behind w 0 x.from x.style x.mark _ f x.goes_on bs end t))

  slashed_more : (f : Refused) → f ≡ refused_at trailing end → end < length w → IsText w (Err f)
  slashed_more f ef l =
      let (bs, (t, c)) = ended_is (read_token w) end count x.told in
      rw ef record { so = opened w x.style x.from h x.mark ∙ ap from_string (string_more w bs end t (λ z. omega arith)) }

  slashed_whole : length w ≤ end → IsText w (Ok (Slashed count))
  slashed_whole l =
      let (bs, (t, c)) = ended_is (read_token w) end count x.told in
      let i : Inside 0 (length w) (accepted bs end) = rw t at (token_inside w) in
      let s : Less (accepted bs end) = rw t at (token_length w) in
      let z : end ≡ length w = omega (arith, i.1) in
      record {
        so = record {
          style = x.style;
          from = x.from;
          mark = x.mark;
          escaped = slashed_at bs t z;
          kind = kind_of bs;
          bytes = bs;
          same = opened w x.style x.from h x.mark ∙ ap from_string (string_whole w bs end t z);
          end = end;
          token = t;
          count = c;
          inside = omega (arith, s, c, z);
        };
      }

-- the judge's answer, way by way
module _ (w : List ℕ) (h : 0 < length w) where
  module _ (k e : ℕ) (v : Quoted) (j : Judged w (Ok v)) (q : v ≡ PlainAt k e) where
    abbrev so_plain : PlainToken w k e
    so_plain = (subst (λ (u : Quoted). Judged w (Ok u)) q j).so

    pub judged_inside : e < length w
    judged_inside = (plain_inside w h k e so_plain).0

    pub judged_plain_more : (f : Refused) → f ≡ refused_at trailing (e + 1) → e + 1 < length w → IsText w (Err f)
    judged_plain_more f ef l = plain_more w h k e so_plain f ef l

    pub judged_plain_whole : length w ≤ e + 1 → IsText w (Ok (Plain k))
    judged_plain_whole l = plain_whole w h k e so_plain l

  module _ (end count : ℕ) (v : Quoted) (j : Judged w (Ok v)) (q : v ≡ SlashedAt end count) where
    abbrev so_slashed : SlashedToken w end count
    so_slashed = (subst (λ (u : Quoted). Judged w (Ok u)) q j).so

    pub judged_slashed_more : (f : Refused) → f ≡ refused_at trailing end → end < length w → IsText w (Err f)
    judged_slashed_more f ef l = slashed_more w h end count so_slashed f ef l

    pub judged_slashed_whole : length w ≤ end → IsText w (Ok (Slashed count))
    judged_slashed_whole l = slashed_whole w h end count so_slashed l

  pub judged_bad : (f : Refused) → (opening w ≡ unopened → ⊥) → Judged w (Err f) → IsText w (Err f)
  judged_bad f ne j =
      record { so = opened_some w h ne ∙ ap from_string (string_bad w f.refusal f.place (failed_is (read_token w) f j.so)) }

-- a mark, or none
pub mark_opens : (w : List ℕ) (v : Mark) → opening_of (Some v) ≡ opening w → opening w ≡ unopened → ⊥
mark_opens w v m z = never (let y : opens v.style v.len ≡ unopened = m ∙ z in cc)

module _ (w : List ℕ) (h : 0 < length w) (m : opening_of None ≡ opening w) where
  bare_is : read_stripped w ≡ from_bare w (bare w)
  bare_is = unopened_is w h (sym m)

  pub bare_fine : (x : Unit {0}) → Ok x ≡ bare w → IsText w (Ok Bare)
  bare_fine x b = record { so = record { mark = sym m; same = bare_is ∙ ap (from_bare w) (sym b) } }

  pub bare_faulty : (f : Refused) → Err f ≡ bare w → IsText w (Err f)
  bare_faulty f b = record { so = bare_is ∙ ap (from_bare w) (sym b) }

-- a fault's place
module _ (w : List ℕ) (f : Refused) (i : IsText w (Err f)) where
  pub fault_inside : f.place ≤ length w
  fault_inside = (subst (LineFault (length w)) i.so (stripped_fault w)).1

  pub any_faulty : (t : ColumnType) (q p m : ℕ) (g : Refused) → g ≡ refused_at f.refusal (p + f.place)
      → CellTold (cell_by (read_stripped w) t q p m w) w (p + length w) m (Err g)
  any_faulty t q p m g eg = rw eg record { so = rw i.so }

module _ (w : List ℕ) (v : Text) (i : IsText w (Ok v)) where
  pub text_bare : v ≡ Bare → BareText w
  text_bare q = (subst (λ (u : Text). IsText w (Ok u)) q i).so

  pub text_plain : (k : ℕ) → v ≡ Plain k → PlainText w k
  text_plain k q = (subst (λ (u : Text). IsText w (Ok u)) q i).so

  pub text_slashed : (n : ℕ) → v ≡ Slashed n → SlashedText w n
  text_slashed n q = (subst (λ (u : Text). IsText w (Ok u)) q i).so

  -- a column of Str
  module _ (q p m : ℕ) where
    pub str_bare : v ≡ Bare → CellTold (cell_by (read_stripped w) strs q p m w) w (p + length w) m (Ok (out 5 p (length w)))
    unfolding stored_by pick
    str_bare e =
        let x = text_bare e in
        record {
          so = record {
            bytes = [];
            same = rw (x.same, x.mark);
            denotes = refl;
            count = refl;
            stored = λ z. absurd (omega arith);
            inside = λ z. omega arith;
            small = omega arith;
          };
        }

    pub str_plain : (k : ℕ) → v ≡ Plain k → CellTold (cell_by (read_stripped w) strs q p m w) w (p + length w) m (Ok (out 5 (p + k) (length w - (k + 1))))
    unfolding stored_by pick
    str_plain k e =
        let x = text_plain k e in
        record {
          so = record {
            bytes = [];
            same = rw (x.same, x.mark, x.clean);
            denotes = refl;
            count = refl;
            stored = λ z. absurd (omega arith);
            inside = λ z. omega (arith, x.inside);
            small = omega arith;
          };
        }

    pub str_slashed : (n : ℕ) → v ≡ Slashed n → CellTold (cell_by (read_stripped w) strs q p m w) w (p + length w) m (Ok (out 6 m n))
    unfolding stored_by pick
    str_slashed n e =
        let x = text_slashed n e in
        record {
          so = record {
            bytes = x.bytes;
            same = rw (x.same, x.mark, x.escaped) (ap (λ (k : ℕ). got (cell 6 m k ∷ []) x.bytes) x.count);
            denotes = sym (ap denoted x.token);
            count = x.count;
            stored = λ z. refl;
            inside = λ z. absurd (z refl);
            small = x.inside;
          };
        }

-- a column of another type
unfit : (t : ColumnType) (q p m : ℕ) (w bs : List ℕ) → (t ≡ strs → ⊥) → None ≡ typed_kind t w → cell_for t q p m w bs ≡ refused wrong_type q
unfolding bool_kind pick
unfit bools q p m w bs n e =
    split (same_bytes w false_word) (λ a. never (let z : None ≡ Some 1 = rw a at e in cc))
    (λ a. split (same_bytes w true_word) (λ b. never (let z : None ≡ Some 2 = rw (a, b) at e in cc)) (λ b. rw (a, b)))
unfit ints q p m w bs n e = split (is_int w) (λ a. never (let z : None ≡ Some 3 = rw a at e in cc)) (λ a. rw a)
unfit floats q p m w bs n e = split (is_float w) (λ a. never (let z : None ≡ Some 4 = rw a at e in cc)) (λ a. rw a)
unfit strs q p m w bs n e = absurd (n refl)

fits : (t : ColumnType) (q p m k : ℕ) (w bs : List ℕ) → Some k ≡ typed_kind t w → cell_for t q p m w bs ≡ got (cell k p (length w) ∷ []) []
unfolding bool_kind pick
fits bools q p m k w bs e =
    split (same_bytes w false_word) (λ a. let y : Some k ≡ Some 1 = rw a at e in let z : k ≡ 1 = cc in rw (a, z))
    (λ a. split (same_bytes w true_word) (λ b. let y : Some k ≡ Some 2 = rw (a, b) at e in let z : k ≡ 2 = cc in rw (a, b, z)) (λ b. never (let y : Some k ≡ None = rw (a, b) at e in cc)))
fits ints q p m k w bs e =
    split (is_int w) (λ a. let y : Some k ≡ Some 3 = rw a at e in let z : k ≡ 3 = cc in rw (a, z)) (λ a. never (let y : Some k ≡ None = rw a at e in cc))
fits floats q p m k w bs e =
    split (is_float w) (λ a. let y : Some k ≡ Some 4 = rw a at e in let z : k ≡ 4 = cc in rw (a, z)) (λ a. never (let y : Some k ≡ None = rw a at e in cc))
fits strs q p m k w bs e = never cc

typed_small : (t : ColumnType) (w : List ℕ) (k : ℕ) → Some k ≡ typed_kind t w → k ≡ 6 → ⊥
unfolding bool_kind pick
typed_small bools w k e s =
    split (same_bytes w false_word) (λ a. let y : Some k ≡ Some 1 = rw a at e in let z : k ≡ 1 = cc in omega (arith, z, s))
    (λ a. split (same_bytes w true_word) (λ b. let y : Some k ≡ Some 2 = rw (a, b) at e in let z : k ≡ 2 = cc in omega (arith, z, s))
    (λ b. never (let y : Some k ≡ None = rw (a, b) at e in cc)))
typed_small ints w k e s =
    split (is_int w) (λ a. let y : Some k ≡ Some 3 = rw a at e in let z : k ≡ 3 = cc in omega (arith, z, s)) (λ a. never (let y : Some k ≡ None = rw a at e in cc))
typed_small floats w k e s =
    split (is_float w) (λ a. let y : Some k ≡ Some 4 = rw a at e in let z : k ≡ 4 = cc in omega (arith, z, s)) (λ a. never (let y : Some k ≡ None = rw a at e in cc))
typed_small strs w k e s = never cc

module _ (w : List ℕ) (h : 0 < length w) (t : ColumnType) (q p m : ℕ) where
  pub typed_got : (k : ℕ) → Some k ≡ typed_kind t w → CellTold (cell_by (read_stripped w) t q p m w) w (p + length w) m (Ok (out k p (length w)))
  unfolding stored_by pick
  typed_got k e =
      let x = plain_bare w h (fit_plain t w k e) in
      let six : k ≡ 6 → ⊥ = typed_small t w k e in
      record {
        so = record {
          bytes = [];
          same = rw x.same (fits t q p m k w w e);
          denotes = rw (ne_eqb k 6 six);
          count = rw (ne_eqb k 6 six);
          stored = λ z. absurd (six z);
          inside = λ z. omega arith;
          small = omega arith;
        };
      }

  unfit_held : (kind : ℕ) (bs : List ℕ) → read_stripped w ≡ holds kind bs → (t ≡ strs → ⊥) → None ≡ typed_kind t w → (f : Refused) → f ≡ refused_at wrong_type q
      → CellTold (cell_by (read_stripped w) t q p m w) w (p + length w) m (Err f)
  unfit_held kind bs s n e f ef = rw ef record { so = rw s (unfit t q p m w bs n e) }

  pub unfit_text : (v : Text) → IsText w (Ok v) → (t ≡ strs → ⊥) → None ≡ typed_kind t w → (f : Refused) → f ≡ refused_at wrong_type q
      → CellTold (cell_by (read_stripped w) t q p m w) w (p + length w) m (Err f)
  unfit_text Bare i n e f ef = unfit_held 1 w i.so.same n e f ef
  unfit_text (Plain k) i n e f ef = unfit_held i.so.kind i.so.bytes i.so.same n e f ef
  unfit_text (Slashed k) i n e f ef = unfit_held i.so.kind i.so.bytes i.so.same n e f ef
