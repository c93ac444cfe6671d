-- A written text, read line by line behind the lines before: no byte is refused, and each line adds the record that the writer took.
-- Assumes nothing.
use Prim.Native.Nat.{ℕ, ◌+◌, ◌≤◌, ◌<◌}
use mathlib.Core.Bool.{true, false}
use mathlib.Core.List.{List, [], ◌∷◌, ◌++◌, append_assoc, append-nil}
use mathlib.Core.Path.{◌≡◌, refl, sym, ap, ◌∙◌}
use native.Mathlib.Omega.{arith}
use borrow.Author.Tests.{ne_eqb}
use lib.Dec.{eqb}
use lib.ListN.{length, take, drop, length-append, take-append-drop}
use lib.Seq.{append_snoc, length-take-le}
use Rattle.prelude.specs.Bytes.{IsBytes, LF}
use Rattle.prelude.specs.Limits.{upload_max, line_max}
use Rattle.prelude.specs.Pick.{pick}
use Rattle.units.proofs.WrittenUnits.{Printed as Plain}
use Rattle.strings_write.specs.Write.{write_string}
use Rattle.string_claims.proofs.RoundTrip.{bytes_drop}
use Rattle.string_claims.proofs.Printed.{write_printed as write-plain}
use Rattle.records.specs.Records.{head_size, line_record, none, line_fault}
use Rattle.lines_write.specs.Write.{size_at, payload_at, right_record, right_records, line_at, lines_from, write_quoted}
use Rattle.lines_write.proofs.LineTexts.{lines_step, right_size}
use Rattle.upload_claims.proofs.WrittenLines.{line_record_lem, line_fault_lem, by_records}
use Rattle.upload.specs.Calls.{Lent}
use Rattle.j8_lines.specs.Lines.{Cut, headed, cut, records, fault_behind, first_from, first_fault}
use Rattle.upload_claims.specs.Claims.{first_refusal, EndedWith, Finished, Within}
use Rattle.j8_lines.proofs.Snoc.{longer, cut_lf, cut_byte, records_snoc}
use Rattle.j8_lines.proofs.Step.{fault_snoc}
use Rattle.j8_lines.proofs.WholeList.{empty_record}

-- a byte of a written text is no LF
no_lf : (b : ℕ) → 32 ≤ b → eqb b LF ≡ false
no_lf b h = ne_eqb b LF (λ e. omega arith)

-- a line in front of a text
cut_line : (l t : List ℕ) → Plain l → cut (l ++ (LF ∷ t)) ≡ record { closed = l ∷ (cut t).closed; open_line = (cut t).open_line }
unfolding cut headed pick
cut_line [] t p = refl
cut_line (b ∷ l) t p = rw (no_lf b p.0, cut_line l t p.1)

-- no byte of a text is refused
abbrev Unrefused : ℕ → List ℕ → Type 0
Unrefused room t = (first_fault room t).why ≡ none

byte_more : (room : ℕ) (t : List ℕ) (b : ℕ) → Unrefused room t → fault_behind room t b ≡ none → Unrefused room (t ++ (b ∷ []))
byte_more room t b e f = rw (fault_snoc room t b e, f)

module _ (room : ℕ) (t : List ℕ) (u : length t < upload_max) where
  under : eqb (length t) upload_max ≡ false
  under = ne_eqb (length t) upload_max (λ e. omega arith)

  byte_fault_lem : (b : ℕ) → 32 ≤ b → length (cut t).open_line < line_max → fault_behind room t b ≡ none
  unfolding fault_behind pick
  byte_fault_lem b h l = rw (under, no_lf b h, ne_eqb (length (cut t).open_line) line_max (λ e. omega arith))

  lf_fault : line_fault room (length (records (cut t).closed)) (cut t).open_line ≡ none → fault_behind room t LF ≡ none
  unfolding fault_behind pick
  lf_fault e = rw under e

-- bytes behind a text, all in its open line
bytes_more : (room : ℕ) (l t : List ℕ) → Plain l → Unrefused room t → length t + length l ≤ upload_max → length (cut t).open_line + length l ≤ line_max
    → Unrefused room (t ++ l) × (cut (t ++ l) ≡ record { closed = (cut t).closed; open_line = (cut t).open_line ++ l })
bytes_more room [] t p e u h = (rw append-nil e, rw (append-nil t, append-nil (cut t).open_line))
bytes_more room (b ∷ l) t p e u h =
    let c : cut (t ++ (b ∷ [])) ≡ longer b (cut t) = cut_byte t b (no_lf b p.0) in
    let o : length (cut (t ++ (b ∷ []))).open_line ≡ length (cut t).open_line + 1 =
    ap (λ (x : Cut). length x.open_line) c ∙ length-append (cut t).open_line (b ∷ []) in
    let m = bytes_more room l (t ++ (b ∷ [])) p.1
    (byte_more room t b e (byte_fault_lem room t (omega arith) b p.0 (omega arith)))
    (omega (arith, length-append t (b ∷ []))) (omega (arith, o)) in
    rw (← append_snoc t b l) (m.0, m.1 ∙ rw (c, append_snoc (cut t).open_line b l))

-- whole lines, with nothing refused, and their records
pub record Clean (room : ℕ) (t rs : List ℕ) : Type 0 where
  pub unrefused : Unrefused room t
  pub shut : (cut t).open_line ≡ []
  pub same : records (cut t).closed ≡ rs

clean_none : (room : ℕ) → Clean room [] []
unfolding first_from cut records
clean_none room = record { unrefused = refl; shut = refl; same = refl }

line_more : (room : ℕ) (t rs l : List ℕ) → Clean room t rs → Plain l → length l ≤ line_max → length t + length l < upload_max → line_fault room (length rs) l ≡ none
    → Clean room (t ++ (l ++ (LF ∷ []))) (rs ++ line_record l)
line_more room t rs l k p h u e =
    let m = bytes_more room l t p k.unrefused (omega arith) (omega (arith, ap length k.shut)) in
    let c : cut (t ++ l) ≡ record { closed = (cut t).closed; open_line = l } = m.1 ∙ rw k.shut in
    let f : line_fault room (length (records (cut (t ++ l)).closed)) (cut (t ++ l)).open_line ≡ none = rw (c, k.same) e in
    let d : cut ((t ++ l) ++ (LF ∷ [])) ≡ record { closed = (cut t).closed ++ (l ∷ []); open_line = [] } = cut_lf (t ++ l) LF refl ∙ rw c in
    rw (← append_assoc t l (LF ∷ []))
    (record {
      unrefused = byte_more room (t ++ l) LF m.0 (lf_fault room (t ++ l) (omega (arith, length-append t l)) f);
      shut = rw d;
      same = rw (d, records_snoc (cut t).closed l, k.same);
    })

-- the lines of records, behind those of the records before
abbrev Behind : ℕ → List ℕ → Type 0
Behind room s =
    (t rs : List ℕ) → Clean room t rs → IsBytes s → Within line_max (cut (lines_from 0 s)).closed → length (t ++ lines_from 0 s) ≤ upload_max
    → length (rs ++ s) ≤ room → Clean room (t ++ lines_from 0 s) (rs ++ s)

behind_none : (room : ℕ) → Behind room []
unfolding lines_from
behind_none room t rs k b w u r = rw (append-nil t, append-nil rs) k

behind_one : (room : ℕ) (s : List ℕ) → 0 < length s → right_record s ≡ true → Behind room (drop (head_size + size_at s) s) → Behind room s
unfolding line_at
behind_one room s h e ih t rs k b w u r =
    let n : ℕ = head_size + size_at s in
    let l : List ℕ = write_string (payload_at s) in
    let rest : List ℕ = lines_from 0 (drop n s) in
    let p : lines_from 0 s ≡ (l ++ (LF ∷ [])) ++ rest = lines_step s h in
    let c : cut (lines_from 0 s) ≡ record { closed = l ∷ (cut rest).closed; open_line = (cut rest).open_line } =
    ap cut (p ∙ append_snoc l LF rest) ∙ cut_line l rest (write-plain (payload_at s)) in
    let w₁ : Within line_max (l ∷ (cut rest).closed) = rw c at w in
    let q : t ++ lines_from 0 s ≡ (t ++ (l ++ (LF ∷ []))) ++ rest =
    ap (λ (x : List ℕ). t ++ x) p ∙ sym (append_assoc t (l ++ (LF ∷ [])) rest) in
    let v : rs ++ s ≡ (rs ++ take n s) ++ drop n s =
    ap (λ (x : List ℕ). rs ++ x) (sym (take-append-drop n s)) ∙ sym (append_assoc rs (take n s) (drop n s)) in
    let a : length (t ++ lines_from 0 s) ≡ length t + (length l + 1) + length rest =
    ap length q
    ∙ omega (arith, length-append (t ++ (l ++ (LF ∷ []))) rest, length-append t (l ++ (LF ∷ [])), length-append l (LF ∷ [])) in
    let f : line_fault room (length rs) l ≡ none =
    line_fault_lem s b e room (length rs) (omega (arith, length-take-le n s (right_size s e), right_size s e, length-append rs s)) in
    let k₁ : Clean room (t ++ (l ++ (LF ∷ []))) (rs ++ take n s) =
    rw (line_record_lem s b e) at (line_more room t rs l k (write-plain (payload_at s)) (omega (arith, w₁.0)) (omega arith) f) in
    rw (q, v) (ih (t ++ (l ++ (LF ∷ []))) (rs ++ take n s) k₁ (bytes_drop n s b) w₁.1 (rw q at u) (rw v at r))

pub text_read : (room : ℕ) (rs : List ℕ) → IsBytes rs → right_records 0 rs ≡ true → Within line_max (cut (write_quoted rs)).closed
    → length (write_quoted rs) ≤ upload_max → length rs ≤ room → Clean room (write_quoted rs) rs
text_read room rs b e = by_records (Behind room) (behind_none room) (behind_one room) rs e [] [] (clean_none room) b

-- such a text, finished
pub all_read : (t rs out : List ℕ) (m : Lent) → Clean (length out) t rs → Finished (first_refusal (length out) t) t out m → EndedWith rs out m
all_read t rs out m k f = rw (k.same, k.shut, empty_record, append-nil rs) at (rw (k.unrefused, k.shut) at f)
