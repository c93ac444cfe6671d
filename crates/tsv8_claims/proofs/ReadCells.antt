-- One cell: what is read of it has the kind and the text that its column's type asks, and a range inside; a refusal is one of the request's,
-- at a place in the text.
-- Assumes nothing.
use Prim.Native.Nat.{ℕ, zero, suc, ◌+◌, ◌-◌, ◌≤◌, ◌<◌}
use mathlib.Core.Bool.{Bool, true, false}
use mathlib.Core.List.{List, [], ◌∷◌}
use mathlib.Core.Logic.{◌⊎◌, inl, inr}
use mathlib.Core.Path.{◌≡◌, refl, sym, ap, subst, ◌∙◌}
use native.Mathlib.Omega.{arith}
use lib.Dec.{lit≤}
use lib.ListN.{length}
use borrow.Author.Tests.{ne_eqb}
use Rattle.prelude.specs.declared.refusals.Refusal.{Refusal}
use Rattle.prelude.specs.Bytes.{TAB, LF}
use Rattle.prelude.specs.Pick.{pick}
use Rattle.prelude.specs.Refusals.{bad_header, bad_line, wrong_type, empty_cell, TextFault}
use Rattle.prelude.proofs.Cases.{and_left, and_right, never}
use Rattle.prelude.proofs.Picks.{pick_case}
use Rattle.utf8.specs.Utf8.{positive}
use Rattle.notation.specs.Marks.{Opening, opens, unopened, opening}
use Rattle.strings.proofs.Places.{Marked, opening_fits}
use Rattle.lines.specs.Line.{leads, strip, LineRead, ignored, holds, faulty, read_stripped}
use Rattle.lines.proofs.Refusing.{LineFault, stripped_fault}
use Rattle.tokens.specs.Words.{same_bytes, false_word, true_word}
use Rattle.tokens.specs.Numbers.{number_kind}
use Rattle.json8.specs.Leaves.{slashed}
use Rattle.tsv8_cells.specs.Parts.{Part}
use Rattle.tsv8_cells.specs.declared.columns.ColumnType.{ColumnType}
use Rattle.tsv8_cells.specs.declared.columns.ColumnType.TheVariants.{Bool as bools, Int as ints, Float as floats, Str as strs}
use Rattle.tsv8_cells.specs.Types.{all_digits, is_int, is_float}
use Rattle.tsv8_cells.specs.Cells.{Cell, cell, Cells, got, refused, plain, string_cell, cell_for, cell_by, cell_at}
use Rattle.tsv8_cells.proofs.Numerals.{same_is}
use Rattle.tsv8_claims.specs.Claims.{InRange, KindFits, TextFits, shown, Behind}
use Rattle.tsv8_claims.proofs.Faults.{Judged, judged}
use Rattle.tsv8_claims.proofs.Holding.{false_bare, true_bare, number_bare, bare_holds, string_holds}
use Rattle.prelude.proofs.Standing.{Stands, stands_in, stands_take, stands_part}
use Rattle.tsv8_claims.proofs.Standing.{strip_stands, strip_le}

-- the request's refusals, with their places in the text
abbrev pub Told : List ℕ → Refusal → ℕ → Type 0
Told s refusal at =
    (TextFault refusal
    ⊎ (((refusal ≡ bad_header) × ((at ≡ 0) ⊎ (Behind s LF at ⊎ Behind s TAB at)))
    ⊎ (((refusal ≡ bad_line) × Behind s LF at) ⊎ (((refusal ≡ wrong_type) ⊎ (refusal ≡ empty_cell)) × Behind s TAB at))))
    × (at ≤ length s)

is_number_lem : (w : List ℕ) → is_float w ≡ true → 0 < number_kind w
unfolding is_float
is_number_lem w e = go (number_kind w) e
  where
    go : (k : ℕ) → positive k ≡ true → 0 < k
    go zero e = never cc
    go (suc k) e = omega arith

int_float : (w : List ℕ) → is_int w ≡ true → is_float w ≡ true
unfolding is_int
int_float w e = and_left (is_float w) (all_digits w) e

is_digits : (w : List ℕ) → is_int w ≡ true → (0 < number_kind w) × (all_digits w ≡ true)
unfolding is_int
is_digits w e = (is_number_lem w (int_float w e), and_right (is_float w) (all_digits w) e)

module _ (text : List ℕ) where
  -- one cell with the stripped text w, behind m bytes of the store, of a part that has less than k bytes
  pub record OneRead (t : ColumnType) (w : List ℕ) (m k : ℕ) (cs : List Cell) (bs : List ℕ) : Type 0 where
    pub top : Cell
    pub one : cs ≡ top ∷ []
    pub kind : KindFits t top.kind
    pub bare : TextFits text t top
    pub shows : (store : List ℕ) → Stands store m bs → (n : ℕ) × (read_stripped w ≡ holds n (shown text store top))
    pub range : (e : ℕ) → m + length bs ≤ e → InRange (length text) e top
    pub bytes : length bs ≤ k
    pub some : 2 ≤ k

  abbrev pub CellRead : ColumnType → List ℕ → ℕ → ℕ → Cells → Type 0
  CellRead t w m k (got cs bs) = OneRead t w m k cs bs
  CellRead t w m k (refused refusal at) = Told text refusal at

  -- a text w at the place p, with its place after the tab
  module _ (t : ColumnType) (q p m k : ℕ) (w : List ℕ) (a : Stands text p w) (i : q ≤ length text) (b : Behind text TAB q) (h : 2 ≤ k) where
    plain_read : (kind : ℕ) → 1 ≤ kind → kind ≤ 5 → KindFits t kind → TextFits text t (cell kind p (length w)) → (n : ℕ) → read_stripped w ≡ holds n w
        → CellRead t w m k (plain kind p w)
    unfolding pick
    plain_read kind l g f u n s =
        record {
          top = cell kind p (length w);
          one = refl;
          kind = f;
          bare = u;
          shows = λ store z. (n, rw (ne_eqb kind 6 (λ d. omega (arith, d)), stands_take a) s);
          range = λ e z. inl (l, g, omega (arith, stands_in a));
          bytes = omega arith;
          some = h;
        }

    unfit_read : CellRead t w m k (refused wrong_type q)
    unfit_read = (inr (inr (inr (inl refl, b))), i)

  module _ (q p m k : ℕ) (w : List ℕ) (a : Stands text p w) (i : q ≤ length text) (b : Behind text TAB q) (h : 2 ≤ k) where
    string_read_lem : (o : Opening) → opening w ≡ o → (v : Bool) → slashed w ≡ v → (n : ℕ) (bs : List ℕ) → read_stripped w ≡ holds n bs → Marked w o
        → length bs ≤ k → CellRead strs w m k (string_cell o v p m w bs)
    unfolding pick
    string_read_lem unopened o v e n bs s f l =
        plain_read strs q p m k w a i b h 5 (lit≤ tt) (lit≤ tt) (inl refl) tt n (s ∙ ap (holds n) (bare_holds w bs n o s))
    string_read_lem (opens st d) o false e n bs s f l =
        let x = string_holds w st d bs n o e s in
        record {
          top = cell 5 (p + d) (length w - (d + 1));
          one = refl;
          kind = inl refl;
          bare = tt;
          shows = λ store z. (n, s ∙ ap (holds n) (x.1 ∙ sym (stands_part d (length w - (d + 1)) a (omega (arith, x.0)))));
          range = λ e z. inl (lit≤ tt, lit≤ tt, omega (arith, stands_in a, f.1));
          bytes = omega arith;
          some = h;
        }
    string_read_lem (opens st d) o true e n bs s f l =
        record {
          top = cell 6 m (length bs);
          one = refl;
          kind = inr refl;
          bare = tt;
          shows = λ store z. (n, s ∙ ap (holds n) (sym (stands_take z)));
          range = λ e z. inr (refl, z);
          bytes = l;
          some = h;
        }

    word_bare : (u : List ℕ) → read_stripped u ≡ holds 1 u → w ≡ u → read_stripped w ≡ holds 1 w
    word_bare u s e = subst (λ (x : List ℕ). read_stripped x ≡ holds 1 x) (sym e) s

    for_read : (t : ColumnType) (n : ℕ) (bs : List ℕ) → read_stripped w ≡ holds n bs → 0 < length w → length bs ≤ k
        → CellRead t w m k (cell_for t q p m w bs)
    for_read bools n bs s g l =
        pick_case (CellRead bools w m k) (same_bytes w false_word) (plain 1 p w) _
        (λ e. let u : w ≡ false_word = same_is w false_word e in
        plain_read bools q p m k w a i b h 1 (lit≤ tt) (lit≤ tt) (inl refl) (λ z. stands_take a ∙ u, λ z. absurd (omega (arith, z))) 1 (word_bare false_word false_bare u))
        (λ e. pick_case (CellRead bools w m k) (same_bytes w true_word) (plain 2 p w) (refused wrong_type q)
        (λ d. let u : w ≡ true_word = same_is w true_word d in
        plain_read bools q p m k w a i b h 2 (lit≤ tt) (lit≤ tt) (inr refl) (λ z. absurd (omega (arith, z)), λ z. stands_take a ∙ u) 1 (word_bare true_word true_bare u))
        (λ d. unfit_read bools q p m k w a i b h))
    for_read ints n bs s g l =
        pick_case (CellRead ints w m k) (is_int w) (plain 3 p w) (refused wrong_type q)
        (λ e. plain_read ints q p m k w a i b h 3 (lit≤ tt) (lit≤ tt) refl (rw (stands_take a) (is_digits w e)) 1 (number_bare w g (int_float w e)))
        (λ e. unfit_read ints q p m k w a i b h)
    for_read floats n bs s g l =
        pick_case (CellRead floats w m k) (is_float w) (plain 4 p w) (refused wrong_type q)
        (λ e. plain_read floats q p m k w a i b h 4 (lit≤ tt) (lit≤ tt) refl (rw (stands_take a) (is_number_lem w e)) 1 (number_bare w g e))
        (λ e. unfit_read floats q p m k w a i b h)
    for_read strs n bs s g l = string_read_lem (opening w) refl (slashed w) refl n bs s (opening_fits w) l

  by_read : (r : LineRead) (t : ColumnType) (q p m k : ℕ) (w : List ℕ) → read_stripped w ≡ r → Stands text p w → q ≤ length text → Behind text TAB q → length w < k
      → Judged (length w) r → LineFault (length w) r → CellRead t w m k (cell_by r t q p m w)
  by_read ignored t q p m k w s a i b l j f = (inr (inr (inr (inr refl, b))), i)
  by_read (holds kind bs) t q p m k w s a i b l j f = for_read q p m k w a i b (omega (arith, j.0)) t kind bs s j.0 (omega (arith, j.1))
  by_read (faulty refusal at) t q p m k w s a i b l j f = (inl f.0, omega (arith, f.1, stands_in a))

  pub cell_read : (t : ColumnType) (m : ℕ) (c : Part) → Stands text c.place c.bytes → Behind text TAB c.place
      → CellRead t (strip c.bytes) m (suc (length c.bytes)) (cell_at t m c)
  unfolding cell_at
  cell_read t m c a b =
      let w : List ℕ = strip c.bytes in
      by_read (read_stripped w) t c.place (c.place + leads c.bytes) m (suc (length c.bytes)) w refl (strip_stands text c.place c.bytes a)
      a.inside b (omega (arith, strip_le c.bytes)) (judged w) (stripped_fault w)
