-- A text by places: where cells and lines end, byte by byte; what is divided there; and lines that are ignored.
-- Assumes nothing.
use Prim.Native.Nat.{ℕ, zero, suc, ◌+◌, ◌-◌, ◌≤◌, ◌<◌}
use mathlib.Core.Bool.{Bool, true, false}
use mathlib.Core.List.{List, [], ◌∷◌}
use mathlib.Core.Path.{◌≡◌, refl, sym, ap, subst, ◌∙◌}
use native.Mathlib.Nat.{add-zero, zero-add}
use native.Mathlib.Numerals.{add-one}
use native.Mathlib.Omega.{arith}
use borrow.Author.Tests.{eq-eqb, ne_eqb, eqb-true, eqb-false}
use lib.Dec.{eqb}
use lib.ListN.{length, get_or, take, drop, length-drop, drop_of_length-le}
use lib.Seq.{drop-cons, drop-drop}
use Rattle.prelude.specs.Bytes.{TAB, LF}
use Rattle.prelude.specs.Pick.{pick}
use Rattle.prelude.proofs.Cases.{split, never}
use Rattle.prelude.proofs.Rest.{get_or_inside}
use Rattle.utf8.specs.Class.{class_of}
use Rattle.eights.specs.inner.Words.{is_odd}
use Rattle.line_ends.specs.inner.Ends.{line_run}
use Rattle.line_ends.proofs.Ends.{run_nil, run_on, run_lf, run_within}
use Rattle.string_tokens.specs.inner.Quotes.{Plains}
use Rattle.tsv8_cells.specs.Parts.{part, divided, parts_of, Line, line_of, is_gap, is_ignored, unless_ignored, lines_left}
use Rattle.tsv8_cells.specs.inner.Runs.{cell_run, gap_run, Starts, line_at, line_end, cells_at, lines_from, Left}

-- cells, byte by byte
pub cell_nil : cell_run [] ≡ 0
unfolding cell_run
cell_nil = refl

pub cell_on : (x : ℕ) (r : List ℕ) → eqb x TAB ≡ false → eqb x LF ≡ false → cell_run (x ∷ r) ≡ suc (cell_run r)
unfolding cell_run pick
cell_on x r a b = rw (a, b)

pub cell_tab : (x : ℕ) (r : List ℕ) → eqb x TAB ≡ true → cell_run (x ∷ r) ≡ 0
unfolding cell_run pick
cell_tab x r a = rw a

pub cell_lf : (x : ℕ) (r : List ℕ) → eqb x LF ≡ true → cell_run (x ∷ r) ≡ 0
unfolding cell_run pick
cell_lf x r b = let a : eqb x TAB ≡ false = ne_eqb x TAB (λ z. let y = eqb-true x LF b in omega (arith, z, y)) in rw (a, b)

-- a byte of a cell, a tab, an LF: P of each text by what it begins with
pub by_byte_lem : (P : List ℕ → Type 0) → P []
    → ((x : ℕ) (r : List ℕ) → eqb x TAB ≡ true → eqb x LF ≡ false → P r → P (x ∷ r))
    → ((x : ℕ) (r : List ℕ) → eqb x TAB ≡ false → eqb x LF ≡ true → P r → P (x ∷ r))
    → ((x : ℕ) (r : List ℕ) → eqb x TAB ≡ false → eqb x LF ≡ false → P r → P (x ∷ r)) → (s : List ℕ) → P s
by_byte_lem P none tab lf on [] = none
by_byte_lem P none tab lf on (x ∷ r) =
    let i = by_byte_lem P none tab lf on r in
    split (eqb x TAB)
    (λ a. tab x r a (ne_eqb x LF (λ z. let y = eqb-true x TAB a in omega (arith, z, y))) i)
    (λ a. split (eqb x LF) (λ b. lf x r a b i) (λ b. on x r a b i))

-- a cell ends no later than its line
pub cell_line : (s : List ℕ) → cell_run s ≤ line_run s
cell_line =
    by_byte_lem (λ s. cell_run s ≤ line_run s) (omega (arith, cell_nil)) (λ x r a b i. omega (arith, cell_tab x r a)) (λ x r a b i. omega (arith, cell_lf x r b))
    (λ x r a b i. omega (arith, cell_on x r a b, run_on x r b))

pub cell_within : (s : List ℕ) → cell_run s ≤ length s
cell_within s = omega (arith, cell_line s, run_within s)

-- where a cell ends, another begins or the line ends
pub cell_over : (s : List ℕ) → cell_run (drop (cell_run s) s) ≡ 0
cell_over =
    by_byte_lem (λ s. cell_run (drop (cell_run s) s) ≡ 0) (rw cell_nil cell_nil) (λ x r a b i. rw (cell_tab x r a) (cell_tab x r a)) (λ x r a b i. rw (cell_lf x r b) (cell_lf x r b))
    (λ x r a b i. rw (cell_on x r a b) i)

-- the line's end is the same from every place of the line
pub line_on : (s : List ℕ) (n : ℕ) → n ≤ line_run s → line_run s ≡ n + line_run (drop n s)
line_on s zero h = sym (zero-add (line_run s))
line_on [] (suc n) h = absurd (omega (arith, run_nil))
line_on (x ∷ r) (suc n) h =
    split (eqb x LF) (λ e. absurd (omega (arith, run_lf x r e)))
    (λ e. let i = line_on r n (omega (arith, run_on x r e)) in omega (arith, run_on x r e, i))

-- place by place: what is found from the place reached is what is found from the first
module _ (s : List ℕ) (from at : ℕ) (same : at + cell_run (drop at s) ≡ from + cell_run (drop from s)) where
  module _ (h : at < length s) where
    pub scan_on : (get_or s at 0 ≡ TAB → ⊥) → (get_or s at 0 ≡ LF → ⊥) → at + 1 + cell_run (drop (at + 1) s) ≡ from + cell_run (drop from s)
    scan_on a b =
        let d : cell_run (drop at s) ≡ suc (cell_run (drop (at + 1) s)) =
        rw (drop-cons s at 0 h, add-one at) (cell_on (get_or s at 0) (drop (suc at) s) (ne_eqb _ _ a) (ne_eqb _ _ b)) in omega arith

    pub scan_tab : get_or s at 0 ≡ TAB → at ≡ from + cell_run (drop from s)
    scan_tab e = let d : cell_run (drop at s) ≡ 0 = rw (drop-cons s at 0 h) (cell_tab (get_or s at 0) (drop (suc at) s) (eq-eqb _ _ e)) in omega arith

    pub scan_lf : get_or s at 0 ≡ LF → at ≡ from + cell_run (drop from s)
    scan_lf e = let d : cell_run (drop at s) ≡ 0 = rw (drop-cons s at 0 h) (cell_lf (get_or s at 0) (drop (suc at) s) (eq-eqb _ _ e)) in omega arith

  pub scan_end : length s ≤ at → at ≡ from + cell_run (drop from s)
  scan_end h = omega (arith, cell_within (drop at s), length-drop at s)

-- spaces and CRs
gap_nil : gap_run [] ≡ 0
unfolding gap_run
gap_nil = refl

gap_on : (x : ℕ) (r : List ℕ) → is_gap x ≡ true → gap_run (x ∷ r) ≡ suc (gap_run r)
unfolding gap_run pick
gap_on x r e = rw e

gap_off : (x : ℕ) (r : List ℕ) → is_gap x ≡ false → gap_run (x ∷ r) ≡ 0
unfolding gap_run pick
gap_off x r e = rw e

pub gap_within : (s : List ℕ) → gap_run s ≤ length s
gap_within [] = omega (arith, gap_nil)
gap_within (x ∷ r) = split (is_gap x) (λ e. omega (arith, gap_on x r e, gap_within r)) (λ e. omega (arith, gap_off x r e))

module _ (s : List ℕ) (from at : ℕ) (same : at + gap_run (drop at s) ≡ from + gap_run (drop from s)) where
  module _ (h : at < length s) where
    pub gap_more : is_gap (get_or s at 0) ≡ true → at + 1 + gap_run (drop (at + 1) s) ≡ from + gap_run (drop from s)
    gap_more e = let d : gap_run (drop at s) ≡ suc (gap_run (drop (at + 1) s)) = rw (drop-cons s at 0 h, add-one at) (gap_on (get_or s at 0) (drop (suc at) s) e) in omega arith

    pub gap_stop : is_gap (get_or s at 0) ≡ false → at ≡ from + gap_run (drop from s)
    gap_stop e = let d : gap_run (drop at s) ≡ 0 = rw (drop-cons s at 0 h) (gap_off (get_or s at 0) (drop (suc at) s) e) in omega arith

  pub gap_end : length s ≤ at → at ≡ from + gap_run (drop from s)
  gap_end h = omega (arith, gap_within (drop at s), length-drop at s)

-- where a line ends, no byte of it stands
pub over_end : (s : List ℕ) (e : ℕ) → length s ≤ e → true ≡ eqb (line_run (drop e s)) 0
over_end s e h = sym (eq-eqb (line_run (drop e s)) 0 (omega (arith, run_within (drop e s), length-drop e s)))

pub over_lf : (s : List ℕ) (e : ℕ) → e < length s → eqb (get_or s e 0) LF ≡ eqb (line_run (drop e s)) 0
over_lf s e h =
    rw (drop-cons s e 0 h)
    (split (eqb (get_or s e 0) LF) (λ q. rw (q, run_lf (get_or s e 0) (drop (suc e) s) q))
    (λ q. rw (q, run_on (get_or s e 0) (drop (suc e) s) q) (sym (ne_eqb (suc (line_run (drop (suc e) s))) 0 (λ z. omega (arith, z))))))

gap_no_lf : (x : ℕ) → is_gap x ≡ true → eqb x LF ≡ false
unfolding is_gap pick
gap_no_lf x e =
    ne_eqb x LF (λ z. never (let y : false ≡ true = rw (ne_eqb x 32 (λ w. omega (arith, z, w)), ne_eqb x 13 (λ w. omega (arith, z, w))) at e in cc))

-- a line of spaces and CRs alone, and one that isn't
pub gap_over : (s : List ℕ) → line_run (drop (gap_run s) s) ≡ 0 → (is_ignored (take (line_run s) s) ≡ true) × (line_run s ≡ gap_run s)
unfolding is_ignored pick
gap_over [] e = (rw run_nil, omega (arith, run_nil, gap_nil))
gap_over (x ∷ r) e =
    split (is_gap x)
    (λ g. let o = run_on x r (gap_no_lf x g) in
    let i = gap_over r (rw (gap_on x r g) at e) in
    (rw (o, g) i.0, omega (arith, o, gap_on x r g, i.1)))
    (λ g. let z : line_run (x ∷ r) ≡ 0 = rw (gap_off x r g) at e in (rw z, omega (arith, z, gap_off x r g)))

pub gap_not : (s : List ℕ) → (line_run (drop (gap_run s) s) ≡ 0 → ⊥) → is_ignored (take (line_run s) s) ≡ false
unfolding is_ignored pick
gap_not [] e = absurd (e (rw gap_nil run_nil))
gap_not (x ∷ r) e =
    split (is_gap x)
    (λ g. let o = run_on x r (gap_no_lf x g) in rw (o, g) (gap_not r (λ z. e (rw (gap_on x r g) z))))
    (λ g. split (eqb x LF) (λ q. absurd (e (rw (gap_off x r g) (run_lf x r q)))) (λ q. rw (run_on x r q, g)))

-- a line's cells
first_cell : (s : List ℕ) (p : ℕ) → (divided TAB p (take (line_run s) s)).first ≡ take (cell_run s) s
unfolding divided
first_cell =
    by_byte_lem (λ s. (p : ℕ) → (divided TAB p (take (line_run s) s)).first ≡ take (cell_run s) s)
    (λ p. rw (run_nil, cell_nil))
    (λ x r a b i p. rw (run_on x r b, cell_tab x r a, a))
    (λ x r a b i p. rw (run_lf x r b, cell_lf x r b))
    (λ x r a b i p. rw (run_on x r b, cell_on x r a b, a) (ap (λ (l : List ℕ). x ∷ l) (i (suc p))))

rest_cells : (s : List ℕ) (p : ℕ)
    → (divided TAB p (take (line_run s) s)).others ≡ (divided TAB (p + cell_run s) (take (line_run (drop (cell_run s) s)) (drop (cell_run s) s))).others
unfolding divided
rest_cells =
    by_byte_lem (λ s. (p : ℕ) → (divided TAB p (take (line_run s) s)).others ≡ (divided TAB (p + cell_run s) (take (line_run (drop (cell_run s) s)) (drop (cell_run s) s))).others)
    (λ p. rw (cell_nil, add-zero p))
    (λ x r a b i p. rw (cell_tab x r a, add-zero p))
    (λ x r a b i p. rw (cell_lf x r b, add-zero p))
    (λ x r a b i p. let z : suc p + cell_run r ≡ p + suc (cell_run r) = omega arith in
    rw (run_on x r b, cell_on x r a b, a) (i (suc p) ∙ ap (λ (k : ℕ). (divided TAB k (take (line_run (drop (cell_run r) r)) (drop (cell_run r) r))).others) z))

behind_tab : (x : ℕ) (r : List ℕ) (p : ℕ) → x ≡ TAB
    → (divided TAB p (take (line_run (x ∷ r)) (x ∷ r))).others
    ≡ part (suc p) (take (cell_run r) r) ∷ (divided TAB (suc p + cell_run r) (take (line_run (drop (cell_run r) r)) (drop (cell_run r) r))).others
unfolding divided
behind_tab x r p e =
    rw (run_on x r (ne_eqb x LF (λ z. omega (arith, z, e))), eq-eqb x TAB e)
    (λ i. part (suc p) (first_cell r (suc p) i) ∷ rest_cells r (suc p) i)

module _ (s : List ℕ) (q : ℕ) where
  -- the first
  pub first_at : (divided TAB q (line_at s q)).first ≡ take (cell_run (drop q s)) (drop q s)
  first_at = first_cell (drop q s) q

  pub cells_on : cells_at s q ≡ cells_at s (q + cell_run (drop q s))
  unfolding cells_at
  cells_on = rest_cells (drop q s) q ∙ rw (drop-drop (cell_run (drop q s)) q s)

  -- one behind a tab
  pub cells_tab : q < length s → get_or s q 0 ≡ TAB
      → cells_at s q ≡ part (suc q) (take (cell_run (drop (suc q) s)) (drop (suc q) s)) ∷ cells_at s (suc q + cell_run (drop (suc q) s))
  unfolding cells_at
  cells_tab h e =
      ap (λ (r : List ℕ). (divided TAB q (take (line_run r) r)).others) (drop-cons s q 0 h) ∙ behind_tab (get_or s q 0) (drop (suc q) s) q e
      ∙ ap (λ (r : List ℕ). part (suc q) (take (cell_run (drop (suc q) s)) (drop (suc q) s)) ∷ (divided TAB (suc q + cell_run (drop (suc q) s)) (take (line_run r) r)).others)
      (drop-drop (cell_run (drop (suc q) s)) (suc q) s)

  -- none at the line's end
  pub cells_none : cell_run (drop q s) ≡ 0 → (get_or (drop q s) 0 0 ≡ TAB → ⊥) → (cells_at s q ≡ []) × (line_run (drop q s) ≡ 0)
  unfolding cells_at divided
  cells_none z n = go (drop q s) refl
    where
      go : (r : List ℕ) → drop q s ≡ r → ((divided TAB q (take (line_run (drop q s)) (drop q s))).others ≡ []) × (line_run (drop q s) ≡ 0)
      go [] e = rw (e, run_nil) (refl, refl)
      go (x ∷ r) e =
          let a : eqb x TAB ≡ false = ne_eqb x TAB (λ y. n (rw e y)) in
          split (eqb x LF)
          (λ b. rw (e, run_lf x r b) (refl, refl))
          (λ b. absurd (let y : cell_run (x ∷ r) ≡ 0 = rw e at z in omega (arith, y, cell_on x r a b)))

-- the lines of a text
first_line_lem : (s : List ℕ) (p : ℕ) → (divided LF p s).first ≡ take (line_run s) s
unfolding divided
first_line_lem [] p = rw run_nil
first_line_lem (x ∷ r) p =
    split (eqb x LF) (λ b. rw (b, run_lf x r b)) (λ b. rw (b, run_on x r b) (ap (λ (l : List ℕ). x ∷ l) (first_line_lem r (suc p))))

abbrev left_from : ℕ → List ℕ → List Line
left_from p s = lines_left (parts_of p (divided LF p s))

rest_lines : (s : List ℕ) (p : ℕ) → lines_left (divided LF p s).others ≡ left_from (suc (p + line_run s)) (drop (suc (line_run s)) s)
unfolding divided lines_left is_ignored
rest_lines [] p = refl
rest_lines (x ∷ r) p =
    split (eqb x LF)
    (λ b. rw (b, run_lf x r b, add-zero p))
    (λ b. let z : suc (suc p + line_run r) ≡ suc (p + suc (line_run r)) = omega arith in
    rw (b, run_on x r b) (rest_lines r (suc p) ∙ ap (λ (k : ℕ). left_from k (drop (suc (line_run r)) r)) z))

module _ (s : List ℕ) (p : ℕ) where
  next_lines : lines_from s p ≡ unless_ignored (is_ignored (line_at s p)) (part p (line_at s p)) (lines_from s (suc (line_end s p)))
  unfolding lines_from lines_left
  next_lines =
      let z : p + suc (line_run (drop p s)) ≡ suc (line_end s p) = omega arith in
      (λ i. unless_ignored (is_ignored (first_line_lem (drop p s) p i)) (part p (first_line_lem (drop p s) p i)) (rest_lines (drop p s) p i))
      ∙ ap (λ (r : List ℕ). unless_ignored (is_ignored (line_at s p)) (part p (line_at s p)) (left_from (suc (line_end s p)) r))
      (drop-drop (suc (line_run (drop p s))) p s ∙ ap (λ (k : ℕ). drop k s) z)

  pub lines_skip : is_ignored (line_at s p) ≡ true → lines_from s p ≡ lines_from s (suc (line_end s p))
  lines_skip e = next_lines ∙ rw e

  pub lines_line : is_ignored (line_at s p) ≡ false → lines_from s p ≡ line_of (part p (line_at s p)) ∷ lines_from s (suc (line_end s p))
  lines_line e = next_lines ∙ rw e

  pub lines_none : length s ≤ p → lines_from s p ≡ []
  unfolding lines_from lines_left divided is_ignored
  lines_none h = rw (drop_of_length-le s h)

-- looking for the next line that isn't ignored
pub left_here : (s : List ℕ) (from : ℕ) → from ≤ length s + 1 → (from ≤ from) × ((from ≤ length s + 1) × (lines_from s from ≡ lines_from s from))
left_here s from h = (omega arith, (h, refl))

module _ (s : List ℕ) (from at : ℕ) (w : (from ≤ at) × ((at ≤ length s + 1) × (lines_from s from ≡ lines_from s at))) where
  pub left_end : length s ≤ at → Left s from at
  left_end h = record { onward = w.0; inside = w.1.0; same = w.1.1; stays = λ l. absurd (omega arith) }

  module _ (h : at < length s) (e : ℕ) (ge : e ≡ at + gap_run (drop at s)) (b : Bool) (eb : b ≡ eqb (line_run (drop e s)) 0) where
    there : drop e s ≡ drop (gap_run (drop at s)) (drop at s)
    there = ap (λ (k : ℕ). drop k s) ge ∙ sym (drop-drop (gap_run (drop at s)) at s)

    pub left_stop : b ≡ false → Left s from at
    left_stop f =
        record {
          onward = w.0;
          inside = w.1.0;
          same = w.1.1;
          stays = λ l. gap_not (drop at s) (λ z. eqb-false _ _ (sym eb ∙ f) (ap line_run there ∙ z));
        }

    pub left_more : b ≡ true → (from ≤ e + 1) × ((e + 1 ≤ length s + 1) × (lines_from s from ≡ lines_from s (e + 1)))
    left_more t =
        let g = gap_over (drop at s) (ap line_run (sym there) ∙ eqb-true _ _ (sym eb ∙ t)) in
        let z : suc (line_end s at) ≡ e + 1 = omega (arith, g.1) in
        (omega (arith, w.0), (omega (arith, gap_within (drop at s), length-drop at s), w.1.1 ∙ lines_skip s at g.0 ∙ ap (lines_from s) z))

-- a cell's end by plain bytes
tab_odd : (x : ℕ) → x ≡ TAB → is_odd x ≡ false → ◌≡◌ {A = ℕ} 0 1
unfolding is_odd class_of pick
tab_odd x e o = let z : true ≡ false = rw e at o in cc

lf_odd : (x : ℕ) → x ≡ LF → is_odd x ≡ false → ◌≡◌ {A = ℕ} 0 1
unfolding is_odd class_of pick
lf_odd x e o = let z : true ≡ false = rw e at o in cc

plain_on : (s : List ℕ) (from n : ℕ) → ((j : ℕ) → from ≤ j → j < from + n → is_odd (get_or s j 0) ≡ false) → from + n ≤ length s
    → from + n + cell_run (drop (from + n) s) ≡ from + cell_run (drop from s)
plain_on s from zero f h = ap (λ (k : ℕ). k + cell_run (drop k s)) (add-zero from)
plain_on s from (suc n) f h =
    let i = plain_on s from n (λ j a b. f j a (omega arith)) (omega arith) in
    let o : is_odd (get_or s (from + n) 0) ≡ false = f (from + n) (omega arith) (omega arith) in
    let z : from + n + 1 ≡ from + suc n = omega arith in
    subst (λ (k : ℕ). k + cell_run (drop k s) ≡ from + cell_run (drop from s)) z
    (scan_on s from (from + n) i (omega arith) (λ e. never (tab_odd (get_or s (from + n) 0) e o)) (λ e. never (lf_odd (get_or s (from + n) 0) e o)))

module _ (s : List ℕ) (from at : ℕ) (w : Plains s from at) where
  pub plains_same : at + cell_run (drop at s) ≡ from + cell_run (drop from s)
  plains_same =
      let z : from + (at - from) ≡ at = omega (arith, w.onward) in
      subst (λ (k : ℕ). k + cell_run (drop k s) ≡ from + cell_run (drop from s)) z
      (plain_on s from (at - from) (λ j a b. w.plain j a (omega (arith, b, z))) (omega (arith, z, w.inside)))

  inside : (x : ℕ) → x ≡ get_or (drop at s) 0 0 → (x ≡ 0 → ⊥) → at < length s
  inside x e n = let h = get_or_inside (drop at s) 0 (λ z. n (e ∙ z)) in omega (arith, h, length-drop at s)

  first_byte : (x : ℕ) → x ≡ get_or (drop at s) 0 0 → at < length s → get_or s at 0 ≡ x
  first_byte x e h = sym (e ∙ rw (drop-cons s at 0 h))

  pub plain_tab : (x : ℕ) → x ≡ get_or (drop at s) 0 0 → x ≡ TAB → (at ≡ from + cell_run (drop from s)) × (true ≡ true → Plains s from at)
  plain_tab x e t = let h = inside x e (λ z. omega (arith, z, t)) in (scan_tab s from at plains_same h (first_byte x e h ∙ t), λ q. w)

  pub plain_lf : (x : ℕ) → x ≡ get_or (drop at s) 0 0 → x ≡ LF → (at ≡ from + cell_run (drop from s)) × (true ≡ true → Plains s from at)
  plain_lf x e t = let h = inside x e (λ z. omega (arith, z, t)) in (scan_lf s from at plains_same h (first_byte x e h ∙ t), λ q. w)

  pub odd_end : (e : ℕ) → e ≡ at + cell_run (drop at s) → (e ≡ from + cell_run (drop from s)) × (false ≡ true → Plains s from e)
  odd_end e q = (q ∙ plains_same, λ z. never cc)

-- counting the cells of a line
pub record Counting (s : List ℕ) (from at n : ℕ) : Type 0 where
  pub inside : at ≤ length s
  pub starts : Starts s at
  pub small : n ≤ at
  pub same : n + length (cells_at s at) ≡ length (cells_at s from)

pub count_none : (s : List ℕ) (from : ℕ) → from ≤ length s → Starts s from → Counting s from from 0
count_none s from h w = record { inside = h; starts = w; small = omega arith; same = zero-add (length (cells_at s from)) }

-- the end of the cell behind a tab
pub cell_ended : (s : List ℕ) (q e : ℕ) → q ≤ length s → e ≡ q + cell_run (drop q s) → (e ≤ length s) × Starts s e
cell_ended s q e h z = (omega (arith, cell_within (drop q s), length-drop q s, z), starts)
  where
    starts : Starts s e
    starts = rw (z, sym (drop-drop (cell_run (drop q s)) q s)) (cell_over (drop q s))

module _ (s : List ℕ) (from at n : ℕ) (w : Counting s from at n) where
  pub count_more : at < length s → get_or s at 0 ≡ TAB → (e : ℕ) → e ≡ at + 1 + cell_run (drop (at + 1) s) → Counting s from e (n + 1)
  count_more h t e z =
      let y : e ≡ suc at + cell_run (drop (suc at) s) = rw (sym (add-one at)) z in
      let i = cell_ended s (suc at) e (omega arith) y in
      record {
        inside = i.0;
        starts = i.1;
        small = omega (arith, w.small, y);
        same = (let l : length (cells_at s at) ≡ suc (length (cells_at s e)) = ap length (cells_tab s at h t) ∙ ap (λ (k : ℕ). suc (length (cells_at s k))) (sym y) in omega (arith, l, w.same));
      }

  pub count_stop : at < length s → (get_or s at 0 ≡ TAB → ⊥) → n ≡ length (cells_at s from)
  count_stop h t =
      let d : get_or (drop at s) 0 0 ≡ get_or s at 0 = rw (drop-cons s at 0 h) in
      let l : length (cells_at s at) ≡ 0 = ap length (cells_none s at w.starts (λ z. t (sym d ∙ z))).0 in omega (arith, l, w.same)

  pub count_end : length s ≤ at → n ≡ length (cells_at s from)
  count_end h =
      let l : length (cells_at s at) ≡ 0 = ap length (cells_none s at w.starts (λ z. past_end z)).0 in
      omega (arith, l, w.same)
    where
      past_end : get_or (drop at s) 0 0 ≡ TAB → ⊥
      past_end z = let y : ◌≡◌ {A = ℕ} 0 9 = rw (drop_of_length-le s h) at z in omega (arith, y)

pub tab_starts : (s : List ℕ) (q : ℕ) → q < length s → get_or s q 0 ≡ TAB → Starts s q
tab_starts s q h t = rw (drop-cons s q 0 h) (cell_tab (get_or s q 0) (drop (suc q) s) (eq-eqb _ _ t))
