-- Cells that few bytes tell: plain bytes, alone or between double quotes, with a tab or LF behind them and no space at their ends, are a
-- whole cell with nothing to strip.
-- Assumes nothing.
use Prim.Native.Nat.{ℕ, zero, suc, ◌+◌, ◌-◌, ◌≤◌, ◌<◌}
use mathlib.Core.Bool.{Bool, true, false}
use mathlib.Core.List.{List, [], ◌∷◌, ◌++◌}
use mathlib.Core.Path.{◌≡◌, refl, sym, ap, subst, ◌∙◌}
use native.Mathlib.Nat.{add-zero}
use native.Mathlib.Omega.{arith}
use borrow.Author.Tests.{eq-eqb, ne_eqb}
use lib.Dec.{eqb}
use lib.ListN.{length, get_or, take, drop, length-drop}
use lib.Seq.{drop-cons, get_or-take, get_or-drop, take-suc, take-length}
use Rattle.std.specs.Prelude.{Some, None, Result, Ok}
use Rattle.prelude.specs.declared.refusals.Refused.{Refused}
use Rattle.prelude.specs.Bytes.{space, TAB, LF, CR}
use Rattle.prelude.specs.Pick.{pick}
use Rattle.prelude.proofs.Cases.{split, never}
use Rattle.prelude.proofs.Rest.{get_or_inside}
use Rattle.utf8.specs.Class.{class_of}
use Rattle.utf8.specs.Utf8.{positive}
use Rattle.eights.specs.inner.Words.{is_odd, is_other, First}
use Rattle.notation.specs.declared.styles.Style.TheVariants.{Json}
use Rattle.runs.proofs.LiteralRuns.{here}
use Rattle.string_tokens.specs.inner.Quotes.{PlainToken, Plains}
use Rattle.string_tokens.proofs.Quoting.{plains_run, closed_told}
use Rattle.tokens.specs.declared.numbers.Number.{Number}
use Rattle.tokens.specs.Words.{is_digit, is_word, word_of, same_bytes, null_word, false_word, true_word, word_value}
use Rattle.tokens.specs.Numbers.{is_number, is_sign, is_e, number_token, number_kind, number_from, number_at, legal}
use Rattle.tokens.specs.inner.Parts.{name_kind, Named}
use Rattle.tokens.proofs.NumberTexts.{All, number_legal}
use Rattle.tokens.proofs.Runs.{run_le, run_take}
use Rattle.tokens.proofs.Shorts.{digit}
use Rattle.lines.specs.Line.{blank, leads, trimmed, strip, read_stripped}
use Rattle.lines.proofs.LineEnds.{trim_stop}
use Rattle.tsv8_cells.specs.declared.cells.Cell.{Cell as CellOut}
use Rattle.tsv8_cells.specs.declared.cells.Text.TheVariants.{Bare, Plain}
use Rattle.tsv8_cells.specs.Types.{ColumnType, bools, ints, floats, strs, all_digits, is_int, is_float}
use Rattle.tsv8_cells.specs.Cells.{cell_by, cell_at}
use Rattle.tsv8_cells.specs.inner.Runs.{cell_run}
use Rattle.tsv8_cells.specs.inner.Texts.{AllPlain}
use Rattle.tsv8_cells.specs.inner.Typed.{bool_kind, typed_kind}
use Rattle.tsv8_cells.specs.inner.Told.{CellTold}
use Rattle.tsv8_cells.specs.inner.Simple.{bytes_to, Over, Solid, QuotedCell, BareCell, TypedCell, NamedCell, Found}
use Rattle.tsv8_cells.proofs.Places.{cell_tab, cell_lf, scan_on, plains_same, cell_ended}
use Rattle.tsv8_cells.proofs.Numerals.{same_is, int_zero, int_other, float_kind, float_plain, int_float}
use Rattle.tsv8_cells.proofs.CellTexts.{out, plain_text, plain_whole, str_bare, str_plain, typed_got}
use Rattle.tsv8_cells.proofs.Stripped.{cell_long, wider}

-- a byte at a place, read past the end too
module _ (s : List ℕ) (at x : ℕ) (e : x ≡ get_or (drop at s) 0 0) (n : x ≡ 0 → ⊥) where
  pub byte_inside : at < length s
  byte_inside = let h = get_or_inside (drop at s) 0 (λ z. n (e ∙ z)) in omega (arith, h, length-drop at s)

  pub byte_is : get_or s at 0 ≡ x
  byte_is = sym (e ∙ rw (drop-cons s at 0 byte_inside))

pub over_tab : (s : List ℕ) (at x : ℕ) → x ≡ get_or (drop at s) 0 0 → x ≡ TAB → Over s at
over_tab s at x e t =
    let h = byte_inside s at x e (λ z. omega (arith, z, t)) in
    record {
      inside = h;
      over = rw (drop-cons s at 0 h) (cell_tab (get_or s at 0) (drop (suc at) s) (eq-eqb _ _ (byte_is s at x e (λ z. omega (arith, z, t)) ∙ t)));
    }

pub over_lf : (s : List ℕ) (at x : ℕ) → x ≡ get_or (drop at s) 0 0 → x ≡ LF → Over s at
over_lf s at x e t =
    let h = byte_inside s at x e (λ z. omega (arith, z, t)) in
    record {
      inside = h;
      over = rw (drop-cons s at 0 h) (cell_lf (get_or s at 0) (drop (suc at) s) (eq-eqb _ _ (byte_is s at x e (λ z. omega (arith, z, t)) ∙ t)));
    }

-- a text without a blank at its ends is stripped already
leads_zero : (w : List ℕ) → 0 < length w → blank (get_or w 0 0) ≡ false → leads w ≡ 0
unfolding leads pick
leads_zero [] h b = absurd (omega arith)
leads_zero (x ∷ r) h b = rw b

trim_same : (w : List ℕ) → 0 < length w → blank (get_or w (length w - 1) 0) ≡ false → trimmed w ≡ w
trim_same w h b =
    let l : length w ≡ suc (length w - 1) = omega arith in
    let q : w ≡ take (length w - 1) w ++ (get_or w (length w - 1) 0 ∷ []) =
    sym (take-length w) ∙ ap (λ (k : ℕ). take k w) l ∙ take-suc w (length w - 1) 0 (omega arith) in
    ap trimmed q ∙ trim_stop (get_or w (length w - 1) 0) b (take (length w - 1) w) ∙ sym q

strip_same : (w : List ℕ) → 0 < length w → blank (get_or w 0 0) ≡ false → blank (get_or w (length w - 1) 0) ≡ false → strip w ≡ w
unfolding strip
strip_same w h a b = rw (leads_zero w h a) (trim_same w h b)

-- a plain byte is a blank only if it is a space
plain_blank : (x : ℕ) → is_odd x ≡ false → (x ≡ space → ⊥) → blank x ≡ false
unfolding blank is_odd class_of pick
plain_blank x o n =
    rw (ne_eqb x space n, ne_eqb x TAB (λ e. never (let z : true ≡ false = rw e at o in cc)), ne_eqb x CR (λ e. never (let z : true ≡ false = rw e at o in cc)))

quote_blank : (x : ℕ) → x ≡ 0x22 → blank x ≡ false
unfolding blank pick
quote_blank x e = rw e

-- the bytes from one place to another
module _ (s : List ℕ) (q e : ℕ) (h : q ≤ e) (g : e ≤ length s) where
  pub bytes_at_lem : (j : ℕ) → j < e - q → get_or (bytes_to s q e) j 0 ≡ get_or s (q + j) 0
  bytes_at_lem j l = get_or-take (e - q) (drop q s) j 0 l ∙ get_or-drop q s j 0

  pub all_plains : AllPlain (bytes_to s q e) → Plains s q e
  all_plains a =
      record {
        onward = h;
        inside = g;
        plain = λ j x y.
            let z : q + (j - q) ≡ j = omega arith in
            let k : j - q < e - q = omega arith in
            subst (λ (b : ℕ). is_odd b ≡ false) (bytes_at_lem (j - q) k ∙ ap (λ (i : ℕ). get_or s i 0) z)
            (a (j - q) (omega (arith, cell_long s q e h g, k)));
      }

  pub plains_all : Plains s q e → AllPlain (bytes_to s q e)
  plains_all p j l =
      let k : j < e - q = omega (arith, l, cell_long s q e h g) in
      subst (λ (b : ℕ). is_odd b ≡ false) (sym (bytes_at_lem j k)) (p.plain (q + j) (omega arith) (omega (arith, k)))

-- a solid cell, by its end and its first and last byte
module _ (s : List ℕ) (q e : ℕ) (h : q < e) (o : Over s e) where
  solid : e + cell_run (drop e s) ≡ q + cell_run (drop q s) → blank (get_or s q 0) ≡ false → blank (get_or s (e - 1) 0) ≡ false → Solid s q e
  solid r a b =
      let i : q ≤ e = omega arith in
      let g : e ≤ length s = omega (arith, o.inside) in
      let l = cell_long s q e i g in
      let f : get_or (bytes_to s q e) 0 0 ≡ get_or s q 0 = bytes_at_lem s q e i g 0 (omega arith) ∙ ap (λ (k : ℕ). get_or s k 0) (add-zero q) in
      let z : q + (length (bytes_to s q e) - 1) ≡ e - 1 = omega (arith, l) in
      let d : get_or (bytes_to s q e) (length (bytes_to s q e) - 1) 0 ≡ get_or s (e - 1) 0 =
      bytes_at_lem s q e i g (length (bytes_to s q e) - 1) (omega (arith, l)) ∙ ap (λ (k : ℕ). get_or s k 0) z in
      let fa : blank (get_or (bytes_to s q e) 0 0) ≡ false = ap blank f ∙ a in
      record {
        some = h;
        inside = g;
        run = omega (arith, r, o.over);
        first = leads_zero (bytes_to s q e) (omega (arith, l)) fa;
        same = strip_same (bytes_to s q e) (omega (arith, l)) fa (ap blank d ∙ b);
      }

  pub plain_solid : Plains s q e → (get_or s q 0 ≡ space → ⊥) → (get_or s (e - 1) 0 ≡ space → ⊥) → Solid s q e
  plain_solid p a b =
      solid (plains_same s q e p) (plain_blank _ (p.plain q (omega arith) h) a) (plain_blank _ (p.plain (e - 1) (omega arith) (omega arith)) b)

-- what a solid cell is read to
module _ (s : List ℕ) (q e : ℕ) (x : Solid s q e) where
  abbrev onward : q ≤ e
  onward = omega (arith, x.some)

  solid_long : length (bytes_to s q e) ≡ e - q
  solid_long = cell_long s q e onward x.inside

  solid_some : 0 < length (bytes_to s q e)
  solid_some = omega (arith, solid_long, x.some)

  found : (t : ColumnType) (m : ℕ) (r : Result CellOut Refused)
      → CellTold (cell_by (read_stripped (bytes_to s q e)) t q q m (bytes_to s q e)) (bytes_to s q e) (q + length (bytes_to s q e)) m r → Found s q t m e r
  unfolding cell_at
  found t m r y =
      let z : q ≡ q + leads (bytes_to s q e) = omega (arith, x.first) in
      let v = wider _ _ _ e m r (omega (arith, solid_long, x.some)) y in
      record {
        end = x.run;
        told =
            subst (λ (k : ℕ). CellTold (cell_by (read_stripped (strip (bytes_to s q e))) t q k m (strip (bytes_to s q e))) (strip (bytes_to s q e)) e m r) z
            (subst (λ (w : List ℕ). CellTold (cell_by (read_stripped w) t q q m w) w e m r) (sym x.same) v);
      }

  typed_found : (t : ColumnType) (m k : ℕ) → Some k ≡ typed_kind t (bytes_to s q e) → Found s q t m e (Ok (out k q (e - q)))
  typed_found t m k f =
      subst (λ (i : ℕ). Found s q t m e (Ok (out k q i))) solid_long
      (found t m _ (typed_got (bytes_to s q e) solid_some t q q m k f))

pub quoted_found : (s : List ℕ) (q e m : ℕ) → QuotedCell s q e → Found s q strs m e (Ok (out 5 (q + 1) (e - (q + 2))))
quoted_found s q e m x =
    let l = solid_long s q e x.solid in
    let z : length (bytes_to s q e) - 2 ≡ e - (q + 2) = omega (arith, l, x.marks) in
    let i = plain_whole (bytes_to s q e) (solid_some s q e x.solid) 1 (e - q - 1) x.token (omega (arith, l, x.marks)) in
    subst (λ (k : ℕ). Found s q strs m e (Ok (out 5 (q + 1) k))) z
    (found s q e x.solid strs m _ (str_plain (bytes_to s q e) (Plain 1) i q q m 1 refl))

pub bare_found : (s : List ℕ) (q e m : ℕ) → BareCell s q e → Found s q strs m e (Ok (out 5 q (e - q)))
bare_found s q e m x =
    let i = plain_text (bytes_to s q e) (solid_some s q e x.solid) x.plain in
    subst (λ (k : ℕ). Found s q strs m e (Ok (out 5 q k))) (solid_long s q e x.solid)
    (found s q e x.solid strs m _ (str_bare (bytes_to s q e) Bare i q q m refl))

pub int_found : (s : List ℕ) (q e m : ℕ) → TypedCell s q e ints 3 → Found s q ints m e (Ok (out 3 q (e - q)))
int_found s q e m x = typed_found s q e x.solid ints m 3 x.fit

pub float_found : (s : List ℕ) (q e m : ℕ) → TypedCell s q e floats 4 → Found s q floats m e (Ok (out 4 q (e - q)))
float_found s q e m x = typed_found s q e x.solid floats m 4 x.fit

pub true_found : (s : List ℕ) (q e m x : ℕ) → NamedCell s q e x → x ≡ 0x74 → Found s q bools m e (Ok (out 2 q (e - q)))
unfolding name_kind word_value bool_kind pick
true_found s q e m x n t =
    let w = bytes_to s q e in
    let v : word_value w ≡ Some 2 = rw t at n.value in
    let b : Some 2 ≡ bool_kind w =
    split (same_bytes w null_word) (λ a. never (let z : Some 0 ≡ Some 2 = rw a at v in cc))
    (λ a. split (same_bytes w false_word) (λ c. never (let z : Some 1 ≡ Some 2 = rw (a, c) at v in cc))
    (λ c. split (same_bytes w true_word) (λ d. rw (c, d)) (λ d. never (let z : None ≡ Some 2 = rw (a, c, d) at v in cc)))) in
    typed_found s q e n.solid bools m 2 b

pub false_found : (s : List ℕ) (q e m x : ℕ) → NamedCell s q e x → x ≡ 0x66 → Found s q bools m e (Ok (out 1 q (e - q)))
unfolding name_kind word_value bool_kind pick
false_found s q e m x n t =
    let w = bytes_to s q e in
    let v : word_value w ≡ Some 1 = rw t at n.value in
    let b : Some 1 ≡ bool_kind w =
    split (same_bytes w null_word) (λ a. never (let z : Some 0 ≡ Some 1 = rw a at v in cc))
    (λ a. split (same_bytes w false_word) (λ c. rw c)
    (λ c. split (same_bytes w true_word) (λ d. never (let z : Some 2 ≡ Some 1 = rw (a, c, d) at v in cc)) (λ d. never (let z : None ≡ Some 1 = rw (a, c, d) at v in cc)))) in
    typed_found s q e n.solid bools m 1 b

-- in double quotes
module _ (s : List ℕ) (q e : ℕ) (h : q < length s) (f : get_or s q 0 ≡ 0x22) (p : Plains s (q + 1) e) (g : e < length s) (c : get_or s e 0 ≡ 0x22) (o : Over s (e + 1)) where
  quoted_run : e + 1 + cell_run (drop (e + 1) s) ≡ q + cell_run (drop q s)
  quoted_run =
      let a = scan_on s q q refl h (λ z. omega (arith, z, f)) (λ z. omega (arith, z, f)) in
      let b = plains_same s (q + 1) e p in
      scan_on s q e (b ∙ a) g (λ z. omega (arith, z, c)) (λ z. omega (arith, z, c))

  quoted_solid : Solid s q (e + 1)
  quoted_solid =
      let z : e + 1 - 1 ≡ e = omega arith in
      solid s q (e + 1) (omega (arith, p.onward)) o quoted_run (quote_blank _ f) (quote_blank _ (ap (λ (k : ℕ). get_or s k 0) z ∙ c))

  abbrev i : q ≤ e + 1
  i = omega (arith, p.onward)

  abbrev n : e + 1 ≤ length s
  n = omega (arith, g)

  at : (j : ℕ) → j < e + 1 - q → get_or (bytes_to s q (e + 1)) j 0 ≡ get_or s (q + j) 0
  at j l = bytes_at_lem s q (e + 1) i n j l

  long : length (bytes_to s q (e + 1)) ≡ e + 1 - q
  long = cell_long s q (e + 1) i n

  quoted_token : PlainToken (bytes_to s q (e + 1)) 1 (e + 1 - q - 1)
  quoted_token =
      let w = bytes_to s q (e + 1) in
      let k : e - q ≡ 1 + (e - (q + 1)) = omega (arith, p.onward) in
      let first : get_or w 0 0 ≡ 0x22 = at 0 (omega (arith, p.onward)) ∙ ap (λ (j : ℕ). get_or s j 0) (add-zero q) ∙ f in
      let y : q + (e - q) ≡ e = omega (arith, p.onward) in
      let last : get_or w (e - q) 0 ≡ 0x22 = at (e - q) (omega (arith, p.onward)) ∙ ap (λ (j : ℕ). get_or s j 0) y ∙ c in
      let run = plains_run w 1 1 (e - (q + 1)) (here Json w 1 (omega (arith, long, p.onward))) (omega (arith, long, p.onward))
      (λ j l. subst (λ (b : ℕ). is_odd b ≡ false) (sym (at (1 + j) (omega arith))) (p.plain (q + (1 + j)) (omega arith) (omega arith))) in
      let z : e - q + 1 - 1 ≡ e + 1 - q - 1 = omega (arith, p.onward) in
      subst (PlainToken w 1) z (closed_told w (e - q) first (omega (arith, long, p.onward)) (rw (sym k) at run) last)

  pub quoted_cell : QuotedCell s q (e + 1)
  quoted_cell = record { solid = quoted_solid; marks = omega (arith, p.onward); token = quoted_token }

pub bare_cell : (s : List ℕ) (q e : ℕ) → Plains s q e → (e ≡ q → ⊥) → (get_or s q 0 ≡ space → ⊥) → (get_or s (e - 1) 0 ≡ space → ⊥) → Over s e → BareCell s q e
bare_cell s q e p n a b o =
    let h : q < e = omega (arith, p.onward) in
    record { solid = plain_solid s q e h o p a b; plain = plains_all s q e p.onward p.inside p }

-- a text fit for a type has no space in it
number_space : (w : List ℕ) → All is_number w → (j : ℕ) → j < length w → get_or w j 0 ≡ space → ⊥
unfolding is_number is_sign is_e pick
number_space [] a j h e = omega arith
number_space (x ∷ r) a zero h e = never (let z : false ≡ true = rw e at a.0 in cc)
number_space (x ∷ r) a (suc j) h e = number_space r a.1 j (omega arith) e

module _ (s : List ℕ) (q e : ℕ) (h : q < e) (o : Over s e) where
  abbrev up : q ≤ e
  up = omega arith

  abbrev in-it : e ≤ length s
  in-it = omega (arith, o.inside)

  fit_solid : AllPlain (bytes_to s q e) → ((j : ℕ) → j < e - q → get_or (bytes_to s q e) j 0 ≡ space → ⊥) → Solid s q e
  fit_solid a n =
      let z : q + 0 ≡ q = add-zero q in
      let y : q + (e - q - 1) ≡ e - 1 = omega arith in
      plain_solid s q e h o (all_plains s q e up in-it a)
      (λ b. n 0 (omega arith) (bytes_at_lem s q e up in-it 0 (omega arith) ∙ ap (λ (k : ℕ). get_or s k 0) z ∙ b))
      (λ b. n (e - q - 1) (omega arith) (bytes_at_lem s q e up in-it (e - q - 1) (omega arith) ∙ ap (λ (k : ℕ). get_or s k 0) y ∙ b))

  number_solid : is_float (bytes_to s q e) ≡ true → Solid s q e
  number_solid f =
      let l = cell_long s q e up in-it in
      let w = bytes_to s q e in
      fit_solid (float_plain w f) (λ j k. number_space w (number_legal w (float_kind w f)).0 j (omega (arith, k, l)))

-- a number token with a tab or LF behind it
legal_is : (j l : ℕ) (v : Number) → Some v ≡ legal j l → (j ≡ 0 → ⊥) × (l ≡ v.len)
legal_is zero l v e = never (let z : Some v ≡ None = e in cc)
legal_is (suc j) l v e = (λ z. omega (arith, z), let z : Some v ≡ Some (record { kind = suc j; len = l }) = e in let y : v ≡ record { kind = suc j; len = l } = cc in ap (λ (u : Number). u.len) (sym y))

float_so : (w : List ℕ) → (number_kind w ≡ 0 → ⊥) → is_float w ≡ true
unfolding is_float
float_so w n = go (number_kind w) n
  where
    go : (k : ℕ) → (k ≡ 0 → ⊥) → positive k ≡ true
    go zero f = absurd (f refl)
    go (suc k) f = refl

module _ (s : List ℕ) (q : ℕ) (h : q ≤ length s) (v : Number) (r : Some v ≡ number_at (drop q s)) where
  abbrev token : List ℕ
  token = number_token (drop q s)

  number_is : (number_kind token ≡ 0 → ⊥) × (length token ≡ v.len)
  unfolding number_at number_from
  number_is = let (a, b) = legal_is (number_kind token) (0 + length token) v r in (a, omega (arith, b))

  pub number_inside : q + v.len ≤ length s
  number_inside = omega (arith, number_is.1, run_le is_number (drop q s), length-drop q s)

  number_bytes : bytes_to s q (q + v.len) ≡ token
  number_bytes =
      let z : q + v.len - q ≡ length token = omega (arith, number_is.1) in
      ap (λ (i : ℕ). take i (drop q s)) z ∙ sym (run_take is_number (drop q s))

  number_some : 0 < v.len
  unfolding number_kind
  number_some = go token number_is.0 number_is.1
    where
      go : (w : List ℕ) → (number_kind w ≡ 0 → ⊥) → length w ≡ v.len → 0 < v.len
      go [] f l = absurd (f refl)
      go (x ∷ w) f l = omega (arith, l)

  pub number_cell : Over s (q + v.len) → TypedCell s q (q + v.len) floats 4
  unfolding pick
  number_cell o =
      let f : is_float (bytes_to s q (q + v.len)) ≡ true = ap is_float number_bytes ∙ float_so token number_is.0 in
      record { solid = number_solid s q (q + v.len) (omega (arith, number_some)) o f; fit = rw f }

-- digits
digits_all : (w : List ℕ) → ((j : ℕ) → j < length w → is_digit (get_or w j 0) ≡ true) → all_digits w ≡ true
unfolding all_digits
digits_all [] f = refl
digits_all (x ∷ r) f = rw (f 0 (omega arith)) (digits_all r (λ j h. f (suc j) (omega arith)))

module _ (s : List ℕ) (q k : ℕ) (g : First (λ j. is_other (get_or s (q + j) 0)) 8 k) (n : k ≡ 0 → ⊥) (o : Over s (q + k)) where
  abbrev far : q + k ≤ length s
  far = omega (arith, o.inside)

  digits_long : length (bytes_to s q (q + k)) ≡ k
  digits_long = let l = cell_long s q (q + k) (omega arith) far in omega (arith, l)

  digits_here : all_digits (bytes_to s q (q + k)) ≡ true
  digits_here =
      digits_all (bytes_to s q (q + k)) (λ j h.
      let i : j < k = omega (arith, h, digits_long) in
      ap is_digit (bytes_at_lem s q (q + k) (omega arith) far j (omega (arith, i))) ∙ digit (get_or s (q + j) 0) (g.before j i))

  digits_first : get_or (bytes_to s q (q + k)) 0 0 ≡ get_or s q 0
  digits_first = bytes_at_lem s q (q + k) (omega arith) far 0 (omega arith) ∙ ap (λ (i : ℕ). get_or s i 0) (add-zero q)

  int_cell : is_int (bytes_to s q (q + k)) ≡ true → TypedCell s q (q + k) ints 3
  unfolding pick
  int_cell i = record { solid = number_solid s q (q + k) (omega arith) o (int_float (bytes_to s q (q + k)) i); fit = rw i }

  pub zero_cell : get_or s q 0 ≡ 0x30 → k ≡ 1 → TypedCell s q (q + 1) ints 3
  zero_cell z l =
      subst (λ (i : ℕ). TypedCell s q (q + i) ints 3) l
      (int_cell (sym (int_zero (bytes_to s q (q + k)) (omega (arith, digits_long)) (digits_first ∙ z)) ∙ eq-eqb _ 1 (digits_long ∙ l)))

  pub digits_cell : (get_or s q 0 ≡ 0x30 → ⊥) → TypedCell s q (q + k) ints 3
  digits_cell z =
      int_cell (sym (int_other (bytes_to s q (q + k)) true (omega (arith, digits_long)) (λ e. z (sym digits_first ∙ e)) (sym digits_here)))

-- words that name a value
calm : List ℕ → Bool
calm [] = true
calm (x ∷ r) = pick (is_odd x) false (pick (eqb x space) false (calm r))

calm_first : (x : ℕ) (r : List ℕ) → calm (x ∷ r) ≡ true → (is_odd x ≡ false) × ((eqb x space ≡ false) × (calm r ≡ true))
unfolding calm pick
calm_first x r e =
    split (is_odd x) (λ o. never (let z : false ≡ true = rw o at e in cc))
    (λ o. split (eqb x space) (λ b. never (let z : false ≡ true = rw (o, b) at e in cc)) (λ b. (o, (b, rw (o, b) at e))))

calm_plain : (w : List ℕ) → calm w ≡ true → AllPlain w
calm_plain [] e j h = absurd (omega arith)
calm_plain (x ∷ r) e zero h = (calm_first x r e).0
calm_plain (x ∷ r) e (suc j) h = calm_plain r (calm_first x r e).1.1 j (omega arith)

calm_space : (w : List ℕ) → calm w ≡ true → (j : ℕ) → j < length w → get_or w j 0 ≡ space → ⊥
calm_space [] e j h z = omega arith
calm_space (x ∷ r) e zero h z = never (let y : true ≡ false = sym (eq-eqb x space z) ∙ (calm_first x r e).1.0 in cc)
calm_space (x ∷ r) e (suc j) h z = calm_space r (calm_first x r e).1.1 j (omega arith) z

named_calm : (w : List ℕ) (k : ℕ) → word_value w ≡ Some k → (calm w ≡ true) × (0 < length w)
unfolding word_value calm is_odd class_of pick
named_calm w k v =
    split (same_bytes w null_word) (λ a. let z = same_is w null_word a in (ap calm z, omega (arith, ap length z)))
    (λ a. split (same_bytes w false_word) (λ b. let z = same_is w false_word b in (ap calm z, omega (arith, ap length z)))
    (λ b. split (same_bytes w true_word) (λ d. let z = same_is w true_word d in (ap calm z, omega (arith, ap length z)))
    (λ d. never (let z : None ≡ Some k = rw (a, b, d) at v in cc))))

module _ (s : List ℕ) (q x n : ℕ) (h : q ≤ length s) (r : Named (drop q s) x n) where
  named_bytes : bytes_to s q (q + n) ≡ word_of (drop q s)
  named_bytes =
      let z : q + n - q ≡ length (word_of (drop q s)) = omega (arith, r.long) in
      ap (λ (i : ℕ). take i (drop q s)) z ∙ sym (run_take is_word (drop q s))

  pub named_inside : q + n ≤ length s
  named_inside = omega (arith, r.long, run_le is_word (drop q s), length-drop q s)

  pub named_cell : Over s (q + n) → NamedCell s q (q + n) x
  named_cell o =
      let v : word_value (bytes_to s q (q + n)) ≡ Some (name_kind x) = ap word_value named_bytes ∙ r.value in
      let (c, l) = named_calm (bytes_to s q (q + n)) (name_kind x) v in
      let i = ap length named_bytes ∙ r.long in
      record {
        solid = fit_solid s q (q + n) (omega (arith, l, i)) o (calm_plain _ c) (λ j k. calm_space _ c j (omega (arith, k, i)));
        value = v;
      }

pub run_in : (s : List ℕ) (q e : ℕ) → q ≤ length s → e ≡ q + cell_run (drop q s) → (q ≤ e) × (e ≤ length s)
run_in s q e h r = (omega (arith, r), (cell_ended s q e h r).0)
