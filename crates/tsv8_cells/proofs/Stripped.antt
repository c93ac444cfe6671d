-- A cell stripped: its text is a part of it, and what is read of the part is read of the cell.
-- Assumes nothing.
use Prim.Native.Nat.{ℕ, ◌+◌, ◌-◌, ◌≤◌, ◌<◌}
use mathlib.Core.Bool.{Bool, true, false}
use mathlib.Core.List.{List, [], ◌∷◌}
use mathlib.Core.Path.{◌≡◌, refl, sym, ap, subst, ◌∙◌}
use native.Mathlib.Omega.{arith}
use lib.ListN.{length, take, drop, length-drop}
use lib.Seq.{length-take-le, get_or-take, get_or-drop}
use Rattle.std.specs.Prelude.{Result, Ok, Err}
use Rattle.prelude.specs.declared.refusals.Refused.{Refused}
use Rattle.prelude.specs.Limits.{text_max}
use Rattle.prelude.specs.Refusals.{empty_cell, refused_at}
use Rattle.eights.specs.inner.Words.{is_odd}
use Rattle.string_tokens.specs.inner.Quotes.{Plains}
use Rattle.lines.specs.Line.{leads, trimmed, strip, read_stripped}
use Rattle.lines.proofs.LineEnds.{leads_le, trim_le, strip_inside, strip_part}
use Rattle.tsv8_cells.specs.declared.cells.Cell.{Cell as CellOut}
use Rattle.tsv8_cells.specs.Parts.{part}
use Rattle.tsv8_cells.specs.Types.{ColumnType}
use Rattle.tsv8_cells.specs.Cells.{Cells, cell_by, cell_at}
use Rattle.tsv8_cells.specs.inner.Texts.{AllPlain}
use Rattle.tsv8_cells.specs.inner.Told.{CellGot, CellTold}

pub lead_in : (c : List ℕ) (a : ℕ) → a ≡ leads c → a ≤ length c
lead_in c a e = omega (arith, leads_le c)

pub strip_le : (c : List ℕ) → length (strip c) ≤ length c
unfolding strip
strip_le c = omega (arith, trim_le (drop (leads c) c), length-drop (leads c) c)

pub wider : (want : Cells) (w : List ℕ) (d e m : ℕ) (r : Result CellOut Refused) → d ≤ e → CellTold want w d m r → CellTold want w e m r
wider want w d e m (Ok c) h x =
    let y : CellGot want w d m c.kind c.place c.size = x.so in
    record {
      so = record {
        bytes = y.bytes;
        same = y.same;
        denotes = y.denotes;
        count = y.count;
        stored = y.stored;
        inside = λ z. omega (arith, y.inside z);
        small = y.small;
      };
    }
wider want w d e m (Err f) h x = record { so = x.so }

-- a text with its ends taken off
module _ (c : List ℕ) (a n : ℕ) (ea : a ≡ leads c) (en : n ≡ length (trimmed (take (length c - a) (drop a c)))) where
  pub part_long : length (take (a + n - a) (drop a c)) ≡ n
  part_long = length-take-le (a + n - a) (drop a c) (omega (arith, (strip_inside c a n ea en).1, length-drop a c)) ∙ (let z : a + n - a ≡ n = omega arith in z)

  strip_long : length (strip c) ≡ n
  strip_long = ap length (sym (strip_part c a n ea en)) ∙ part_long

  strip_none : n ≡ 0 → strip c ≡ []
  strip_none z = go (strip c) (strip_long ∙ z)
    where
      go : (w : List ℕ) → length w ≡ 0 → w ≡ []
      go [] e = refl
      go (x ∷ w) e = absurd (omega (arith, e))

  pub cell_empty : (t : ColumnType) (q e m : ℕ) → n ≡ 0 → (f : Refused) → f ≡ refused_at empty_cell q → CellTold (cell_at t m (part q c)) (strip c) e m (Err f)
  unfolding cell_at read_stripped
  cell_empty t q e m z f ef = rw ef record { so = rw (strip_none z) }

  -- what is told of the part
  pub cell_told : (t : ColumnType) (q e m : ℕ) (r : Result CellOut Refused) → q + length c ≤ e
      → CellTold (cell_by (read_stripped (take (a + n - a) (drop a c))) t q (q + a) m (take (a + n - a) (drop a c))) (take (a + n - a) (drop a c)) (q + a + length (take (a + n - a) (drop a c))) m r
      → CellTold (cell_at t m (part q c)) (strip c) e m r
  unfolding cell_at
  cell_told t q e m r l x =
      let i = strip_inside c a n ea en in
      let y = wider _ _ _ e m r (omega (arith, part_long, i.1)) x in
      subst (λ (k : ℕ). CellTold (cell_by (read_stripped (strip c)) t q (q + k) m (strip c)) (strip c) e m r) ea
      (subst (λ (w : List ℕ). CellTold (cell_by (read_stripped w) t q (q + a) m w) w e m r) (strip_part c a n ea en) y)

-- a cell of a text
module _ (text : List ℕ) (q e : ℕ) (h : q ≤ e) (g : e ≤ length text) where
  pub cell_long : length (take (e - q) (drop q text)) ≡ e - q
  cell_long = length-take-le (e - q) (drop q text) (omega (arith, length-drop q text))

  module _ (a n : ℕ) (ea : a ≡ leads (take (e - q) (drop q text)))
      (en : n ≡ length (trimmed (take (length (take (e - q) (drop q text)) - a) (drop a (take (e - q) (drop q text)))))) where
    pub ends_in : (a ≤ e - q) × (a + n ≤ e - q)
    ends_in = let i = strip_inside (take (e - q) (drop q text)) a n ea en in (omega (arith, i.0, cell_long), omega (arith, i.1, cell_long))

    pub asks : (n ≡ 0 → ⊥) → length text ≤ text_max
        → (0 < length (take (a + n - a) (drop a (take (e - q) (drop q text))))) × (q + a + length (take (a + n - a) (drop a (take (e - q) (drop q text)))) ≤ text_max)
    asks z l =
        let k = part_long (take (e - q) (drop q text)) a n ea en in
        let i = ends_in in
        (omega (arith, k), omega (arith, k, i.1))

    pub stays_plain : (b : Bool) → (b ≡ true → Plains text q e) → b ≡ true → AllPlain (take (a + n - a) (drop a (take (e - q) (drop q text))))
    stays_plain b f t j l =
        let k : j < n = omega (arith, l, part_long (take (e - q) (drop q text)) a n ea en) in
        let i = ends_in in
        subst (λ (x : ℕ). is_odd x ≡ false)
        (sym (get_or-take (a + n - a) (drop a (take (e - q) (drop q text))) j 0 (omega (arith, k)) ∙ get_or-drop a (take (e - q) (drop q text)) j 0
        ∙ get_or-take (e - q) (drop q text) (a + j) 0 (omega (arith, k, i.1)) ∙ get_or-drop q text (a + j) 0))
        ((f t).plain (q + (a + j)) (omega arith) (omega (arith, k, i.1)))

  -- whatever the column's type
  pub told_whole : (t : ColumnType) (m a n : ℕ) (r : Result CellOut Refused) → a ≡ leads (take (e - q) (drop q text))
      → n ≡ length (trimmed (take (length (take (e - q) (drop q text)) - a) (drop a (take (e - q) (drop q text)))))
      → CellTold (cell_by (read_stripped (take (a + n - a) (drop a (take (e - q) (drop q text))))) t q (q + a) m (take (a + n - a) (drop a (take (e - q) (drop q text))))) (take (a + n - a) (drop a (take (e - q) (drop q text)))) (q + a + length (take (a + n - a) (drop a (take (e - q) (drop q text))))) m r
      → CellTold (cell_at t m (part q (take (e - q) (drop q text)))) (strip (take (e - q) (drop q text))) e m r
  told_whole t m a n r ea en x = cell_told (take (e - q) (drop q text)) a n ea en t q e m r (omega (arith, cell_long)) x
