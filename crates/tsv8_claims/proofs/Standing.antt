-- The parts that a text divides into stand in it at their places, each behind its dividing byte, and so does what is left of one when it is stripped; together they have
-- no more bytes than the text.
-- Assumes nothing.
use Prim.Native.Nat.{ℕ, suc, ◌+◌, ◌≤◌}
use native.Mathlib.Nat.{add-zero}
use native.Mathlib.Numerals.{add-one}
use mathlib.Core.Bool.{Bool, true, false}
use mathlib.Core.List.{List, [], ◌∷◌, ◌++◌, append-nil}
use mathlib.Core.Logic.{◌⊎◌, inl, inr}
use mathlib.Core.Path.{◌≡◌, refl, sym, ap, ◌∙◌}
use native.Mathlib.Omega.{arith}
use lib.Dec.{eqb, lit≤}
use lib.ListN.{length, get_or, take, drop, length-drop, take-append-drop}
use lib.Seq.{get_or-drop, drop-drop, length-take-le}
use borrow.Author.Tests.{eqb-true}
use Rattle.prelude.specs.Bytes.{TAB, LF}
use Rattle.prelude.proofs.Standing.{Stands, stands_left, stands_right, stands_next}
use Rattle.lines.specs.Line.{leads, trimmed, strip}
use Rattle.lines.proofs.LineEnds.{leads_le, trim_le, trim_front}
use Rattle.tsv8_cells.specs.Parts.{Part, part, Divided, onward, divided, parts_of, Line, is_ignored, unless_ignored, lines_left, lines_of}
use Rattle.tsv8_claims.specs.Claims.{Behind}

-- the bytes of parts, each with the byte before it
abbrev pub spans : List Part → ℕ
spans [] = 0
spans (c ∷ cs) = suc (length c.bytes) + spans cs

-- the bytes of lines, each with an LF
abbrev pub extent : List Line → ℕ
extent [] = 0
extent (l ∷ ls) = suc (length l.first + spans l.cells) + extent ls

onward_spans : (b : Bool) (x q : ℕ) (d : Divided)
    → length (onward b x q d).first + spans (onward b x q d).others ≡ suc (length d.first + spans d.others)
onward_spans true x q d = omega arith
onward_spans false x q d = omega arith

divided_spans : (sep p : ℕ) (s : List ℕ) → length (divided sep p s).first + spans (divided sep p s).others ≡ length s
unfolding divided
divided_spans sep p [] = refl
divided_spans sep p (x ∷ s) =
    onward_spans (eqb x sep) x (suc p) (divided sep (suc p) s) ∙ ap suc (divided_spans sep (suc p) s)

left_extent : (b : Bool) (l : Part) (ls : List Line) (k : ℕ) → extent ls ≤ k → extent (unless_ignored b l ls) ≤ suc (length l.bytes) + k
left_extent true l ls k h = omega arith
left_extent false l ls k h = omega (arith, divided_spans TAB l.place l.bytes)

lines_extent : (ps : List Part) → extent (lines_left ps) ≤ spans ps
unfolding lines_left
lines_extent [] = lit≤ tt
lines_extent (l ∷ ps) = omega (arith, left_extent (is_ignored l.bytes) l (lines_left ps) (spans ps) (lines_extent ps))

-- the last line needs no LF
pub text_extent : (s : List ℕ) → extent (lines_of s) ≤ suc (length s)
unfolding lines_of
text_extent s = omega (arith, divided_spans LF 0 s, lines_extent (parts_of 0 (divided LF 0 s)))

module _ (text : List ℕ) where
  -- parts, each behind a dividing byte
  abbrev pub PartsStand : ℕ → List Part → Type 0
  PartsStand sep [] = Unit
  PartsStand sep (c ∷ cs) = (Stands text c.place c.bytes × Behind text sep c.place) × PartsStand sep cs

  abbrev pub LinesStand : List Line → Type 0
  LinesStand [] = Unit
  LinesStand (l ∷ ls) = ((l.place ≤ length text) × Behind text LF l.place) × PartsStand TAB l.cells × LinesStand ls

  -- the first may stand at the text's beginning
  abbrev pub TextStands : List Line → Type 0
  TextStands [] = Unit
  TextStands (l ∷ ls) =
      ((l.place ≤ length text) × ((l.place ≡ 0) ⊎ Behind text LF l.place)) × PartsStand TAB l.cells × LinesStand ls

  stands_none : (p : ℕ) (r : List ℕ) → Stands text p r → Stands text p []
  stands_none p r a = stands_left [] r a

  stands_cons : (x p : ℕ) (r w : List ℕ) → Stands text p (x ∷ r) → Stands text (suc p) w → Stands text p (x ∷ w)
  stands_cons x p r w a b =
      let e : drop (suc p) text ≡ r ++ a.rest = (rw (add-one p) at (sym (drop-drop 1 p text))) ∙ ap (drop 1) a.same in
      record { rest = b.rest; inside = a.inside; same = a.same ∙ ap (λ (z : List ℕ). x ∷ z) (sym e ∙ b.same) }

  stands_behind : (x sep p : ℕ) (r : List ℕ) → Stands text p (x ∷ r) → eqb x sep ≡ true → Behind text sep (suc p)
  stands_behind x sep p r a e =
      let d : get_or text (p + 0) 0 ≡ x = sym (get_or-drop p text 0 0) ∙ ap (λ (z : List ℕ). get_or z 0 0) a.same in
      (omega arith, (rw (add-zero p) at d) ∙ eqb-true x sep e)

  onward_stands : (sep x p : ℕ) (b : Bool) → eqb x sep ≡ b → (r : List ℕ) (d : Divided) → Stands text p (x ∷ r) → Stands text (suc p) d.first
      → PartsStand sep d.others → Stands text p (onward b x (suc p) d).first × PartsStand sep (onward b x (suc p) d).others
  onward_stands sep x p true e r d a f o = (stands_none p (x ∷ r) a, ((f, stands_behind x sep p r a e), o))
  onward_stands sep x p false e r d a f o = (stands_cons x p r d.first a f, o)

  divided_stands : (sep p : ℕ) (s : List ℕ) → Stands text p s
      → Stands text p (divided sep p s).first × PartsStand sep (divided sep p s).others
  unfolding divided
  divided_stands sep p [] a = (a, tt)
  divided_stands sep p (x ∷ r) a =
      let i = divided_stands sep (suc p) r (stands_next x r a) in
      onward_stands sep x p (eqb x sep) refl r (divided sep (suc p) r) a i.0 i.1

  left_stands : (b : Bool) (l : Part) (ls : List Line) → Stands text l.place l.bytes → Behind text LF l.place → LinesStand ls
      → LinesStand (unless_ignored b l ls)
  left_stands true l ls a h f = f
  left_stands false l ls a h f = ((a.inside, h), (divided_stands TAB l.place l.bytes a).1, f)

  lines_stand : (ps : List Part) → PartsStand LF ps → LinesStand (lines_left ps)
  unfolding lines_left
  lines_stand [] a = tt
  lines_stand (l ∷ ps) a = left_stands (is_ignored l.bytes) l (lines_left ps) a.0.0 a.0.1 (lines_stand ps a.1)

  no_first : (ls : List Line) → LinesStand ls → TextStands ls
  no_first [] a = tt
  no_first (l ∷ ls) a = ((a.0.0, inr a.0.1), a.1, a.2)

  first_stands : (b : Bool) (w : List ℕ) (ls : List Line) → Stands text 0 w → LinesStand ls → TextStands (unless_ignored b (part 0 w) ls)
  first_stands true w ls a f = no_first ls f
  first_stands false w ls a f = ((a.inside, inl refl), (divided_stands TAB 0 w a).1, f)

  pub text_stands : TextStands (lines_of text)
  unfolding lines_of lines_left
  text_stands =
      let a : Stands text 0 text = record { rest = []; inside = omega arith; same = sym (append-nil text) } in
      let i = divided_stands LF 0 text a in
      let w : List ℕ = (divided LF 0 text).first in
      first_stands (is_ignored w) w (lines_left (divided LF 0 text).others) i.0 (lines_stand (divided LF 0 text).others i.1)

  pub strip_stands : (p : ℕ) (w : List ℕ) → Stands text p w → Stands text (p + leads w) (strip w)
  unfolding strip
  strip_stands p w a =
      let n : ℕ = leads w in
      let u : List ℕ = drop n w in
      let k : ℕ = length (trimmed u) in
      let b : Stands text p (take n w ++ u) = rw (take-append-drop n w) a in
      let c : Stands text (p + n) u = rw (length-take-le n w (leads_le w)) at (stands_right (take n w) u b) in
      let d : Stands text (p + n) (take k u ++ drop k u) = rw (take-append-drop k u) c in
      rw (trim_front u) (stands_left (take k u) (drop k u) d)

pub strip_le : (s : List ℕ) → length (strip s) ≤ length s
unfolding strip
strip_le s = omega (arith, trim_le (drop (leads s) s), length-drop (leads s) s)
