-- What the Lines writer writes reads back, line by line: nothing is stripped from a text in quotes, so the line reads as the string that was
-- written, and its record is the one that the writer took.
-- Assumes nothing.
use Prim.Native.Nat.{ℕ, pred, ◌+◌, ◌*◌, ◌/◌, ◌%◌, ◌≤◌, ◌<◌}
use mathlib.Core.Bool.{true, false}
use mathlib.Core.List.{List, [], ◌∷◌, ◌++◌, append_assoc}
use mathlib.Core.Path.{◌≡◌, refl, sym, ap, ◌∙◌, subst}
use native.Mathlib.Omega.{arith}
use borrow.Author.Tests.{le-leb}
use lib.ListN.{length, take, drop, length-drop}
use lib.Seq.{take-add, length-take-le}
use Rattle.prelude.specs.Pick.{pick}
use Rattle.prelude.proofs.Picks.{pick_case}
use Rattle.prelude.proofs.Suffix.{by_suffix}
use Rattle.utf8.specs.Utf8.{valid_utf8}
use Rattle.notation.specs.declared.styles.Form.{Form}
use Rattle.notation.specs.declared.styles.Form.TheVariants.{AsJson, AsBytes}
use Rattle.notation.specs.Styles.{quote, style_of}
use Rattle.notation.specs.Marks.{opening}
use Rattle.strings.specs.Read.{read_string}
use Rattle.strings_write.specs.Write.{write_units, mark, quoted, write_string}
use Rattle.prelude.specs.Bytes.{IsBytes}
use Rattle.string_claims.proofs.RoundTrip.{bytes_drop, bytes_take, round_trip}
use Rattle.lines.specs.Line.{blank, leads, strip, kind_of, holds, from_string, read_stripped, read_line}
use Rattle.records.specs.Records.{head_size, head, record_of, line_record, none, line_fault}
use Rattle.lines_write.specs.Write.{size_at, kind_at, payload_at, right_record, right_records}
use Rattle.lines.proofs.LineEnds.{trim_stop}
use Rattle.lines_write.proofs.LineTexts.{next, right_step, right_first, right_size, right_kind}

-- a text in quotes begins and ends with marks, which are no blanks
no_leads : (form : Form) (r : List ℕ) → leads (mark form ++ r) ≡ 0
unfolding leads blank pick
no_leads AsJson r = refl
no_leads AsBytes r = refl

quote_kept : (form : Form) → blank (quote (style_of form)) ≡ false
unfolding blank pick
quote_kept AsJson = refl
quote_kept AsBytes = refl

quoted_strip : (form : Form) (s : List ℕ) → strip (quoted form s) ≡ quoted form s
unfolding strip quoted
quoted_strip form s =
    let u : List ℕ = write_units form 0 s in
    rw (no_leads form (u ++ (quote (style_of form) ∷ [])), ← append_assoc (mark form) u (quote (style_of form) ∷ [])) (trim_stop (quote (style_of form)) (quote_kept form) (mark form ++ u))

quoted_opens : (form : Form) (s : List ℕ) → read_stripped (quoted form s) ≡ from_string (read_string (quoted form s))
unfolding read_stripped quoted opening pick
quoted_opens AsJson s = refl
quoted_opens AsBytes s = refl

written_strip : (s : List ℕ) → strip (write_string s) ≡ write_string s
unfolding write_string
written_strip s = pick_case (λ w. strip w ≡ w) (valid_utf8 s) _ _ (λ e. quoted_strip AsJson s) (λ e. quoted_strip AsBytes s)

written_opens : (s : List ℕ) → read_stripped (write_string s) ≡ from_string (read_string (write_string s))
unfolding write_string
written_opens s =
    pick_case (λ w. read_stripped w ≡ from_string (read_string w)) (valid_utf8 s) _ _ (λ e. quoted_opens AsJson s) (λ e. quoted_opens AsBytes s)

written_line : (s : List ℕ) → IsBytes s → read_line (write_string s) ≡ holds (kind_of s) s
unfolding read_line
written_line s b = rw (written_strip s, written_opens s, round_trip s b)

-- the two bytes of a number
low : (x y : ℕ) → x < 256 → (x + 256 * y) % 256 ≡ x
low x y h = omega arith

high : (x y : ℕ) → x < 256 → y < 256 → (x + 256 * y) / 256 % 256 ≡ y
high x y h g = let e : (x + 256 * y) / 256 ≡ y = omega arith in rw e (let f : y % 256 ≡ y = omega arith in f)

-- the head of a record that is there is that of its own length and kind
head_back : (s : List ℕ) → IsBytes s → head_size ≤ length s → head (size_at s) (kind_at s) ≡ take head_size s
head_back [] b h = absurd (omega arith)
head_back (w ∷ []) b h = absurd (omega arith)
head_back (w ∷ x ∷ []) b h = absurd (omega arith)
head_back (w ∷ x ∷ y ∷ []) b h = absurd (omega arith)
head_back (w ∷ x ∷ y ∷ z ∷ r) b h = λ i. low w x (b 0) i ∷ high w x (b 0) (b 1) i ∷ low y z (b 2) i ∷ high y z (b 2) (b 3) i ∷ []

module _ (s : List ℕ) (b : IsBytes s) (e : right_record s ≡ true) where
  payload_bytes : IsBytes (payload_at s)
  payload_bytes = bytes_take (size_at s) (drop head_size s) (bytes_drop head_size s b)

  record_back : record_of (kind_of (payload_at s)) (payload_at s) ≡ take (head_size + size_at s) s
  record_back =
      let n : length (payload_at s) ≡ size_at s =
      length-take-le (size_at s) (drop head_size s) (omega (arith, right_size s e, length-drop head_size s)) in
      (λ i. head (n i) (sym (right_kind s e) i) ++ payload_at s)
      ∙ ap (λ (h : List ℕ). h ++ payload_at s) (head_back s b (omega (arith, right_size s e)))
      ∙ sym (take-add head_size (size_at s) s)

  -- the line of the record at the head of s
  pub line_record_lem : line_record (write_string (payload_at s)) ≡ take (head_size + size_at s) s
  unfolding line_record
  line_record_lem = rw (written_line (payload_at s) payload_bytes) record_back

  pub line_fault_lem : (room used : ℕ) → used + length (take (head_size + size_at s) s) ≤ room → line_fault room used (write_string (payload_at s)) ≡ none
  unfolding line_fault pick
  line_fault_lem room used h =
      let g : used + length (record_of (kind_of (payload_at s)) (payload_at s)) ≤ room = omega (arith, ap length record_back) in
      rw (written_line (payload_at s) payload_bytes, le-leb _ _ g)

-- induction on records: what holds of none, and of records whenever it holds of those behind the first, holds of all that are right
module _ (P : List ℕ → Type 0) (empty : P []) (one : (s : List ℕ) → 0 < length s → right_record s ≡ true → P (drop (head_size + size_at s) s) → P s) where
  pub by_records : (s : List ℕ) → right_records 0 s ≡ true → P s
  by_records =
      by_suffix (λ s. right_records 0 s ≡ true → P s) (λ e. empty)
      (λ x r ih e. let n : ℕ = size_at (x ∷ r) in
      let h : 0 < length (x ∷ r) = omega arith in
      let f : right_record (x ∷ r) ≡ true = right_first (x ∷ r) h e in
      let g : right_records 0 (drop (pred (head_size + n)) r) ≡ true = ap (right_records 0) (next x n r) ∙ sym (right_step (x ∷ r) h f) ∙ e in
      one (x ∷ r) h f (subst P (next x n r) (ih (pred (head_size + n)) g)))
