-- The Lines writer: records are judged one after another; the text is what is put already and then the lines of the records left.
-- Assumes nothing.
use Prim.Native.Nat.{ℕ, zero, suc, pred, ◌+◌, ◌-◌, ◌≤◌, ◌<◌}
use mathlib.Core.Bool.{Bool, true, false}
use mathlib.Core.List.{List, [], ◌∷◌, ◌++◌, append_assoc, append-nil}
use mathlib.Core.Path.{◌≡◌, refl, sym, ap, ◌∙◌}
use native.Mathlib.Omega.{arith}
use lib.Dec.{leb, eqb}
use borrow.Author.Tests.{le-leb, lt-leb, leb-true, eqb-true}
use lib.ListN.{length, take, drop, length-drop, drop_of_length-le}
use lib.Seq.{length-sets, drop-drop}
use Rattle.prelude.specs.Bytes.{LF}
use Rattle.prelude.specs.Pick.{pick}
use Rattle.prelude.proofs.Cases.{split, and_left, and_right}
use Rattle.prelude.proofs.Picks.{pick_true, pick_false}
use Rattle.utf8.specs.Utf8.{valid_utf8}
use Rattle.strings_write.specs.Write.{write_string, wrote_into}
use Rattle.rooms.specs.inner.Puts.{Put}
use Rattle.rooms.proofs.Puts.{put_past, put_none, put_as, put_then}
use Rattle.rooms.proofs.Passes.{Whole}
use Rattle.std.specs.Prelude.{Result, Ok, Err}
use Rattle.prelude.specs.declared.refusals.Refusal.{Refusal}
use Rattle.prelude.specs.Refusals.{unfit, no_room}
use Rattle.lines.specs.Line.{kind_of}
use Rattle.records.specs.Records.{head_size}
use Rattle.lines_write.specs.Write.{size_at, kind_at, payload_at, right_record, right_records, line_at, lines_from, wrote_lines, lines_into}

right_skip : (k : ℕ) (s : List ℕ) → right_records k s ≡ right_records 0 (drop k s)
unfolding right_records
right_skip zero s = refl
right_skip (suc k) [] = refl
right_skip (suc k) (x ∷ r) = right_skip k r

lines_skip : (k : ℕ) (s : List ℕ) → lines_from k s ≡ lines_from 0 (drop k s)
unfolding lines_from
lines_skip zero s = refl
lines_skip (suc k) [] = refl
lines_skip (suc k) (x ∷ r) = lines_skip k r

-- behind the record at the head
pub next : (x n : ℕ) (r : List ℕ) → drop (pred (head_size + n)) r ≡ drop (4 + n) (x ∷ r)
next x n r = ap (λ (k : ℕ). drop k (x ∷ r)) (let e : suc (pred (4 + n)) ≡ 4 + n = omega arith in e)

pub right_step : (s : List ℕ) → 0 < length s → right_record s ≡ true → right_records 0 s ≡ right_records 0 (drop (4 + size_at s) s)
unfolding right_records
right_step [] h e = absurd (omega arith)
right_step (x ∷ r) h e = rw e (right_skip (pred (head_size + size_at (x ∷ r))) r ∙ ap (right_records 0) (next x (size_at (x ∷ r)) r))

right_stop : (s : List ℕ) → 0 < length s → right_record s ≡ false → right_records 0 s ≡ false
unfolding right_records
right_stop [] h e = absurd (omega arith)
right_stop (x ∷ r) h e = rw e

pub right_first : (s : List ℕ) → 0 < length s → right_records 0 s ≡ true → right_record s ≡ true
unfolding right_records
right_first [] h e = absurd (omega arith)
right_first (x ∷ r) h e = and_left (right_record (x ∷ r)) _ e

pub lines_step : (s : List ℕ) → 0 < length s → lines_from 0 s ≡ line_at s ++ lines_from 0 (drop (4 + size_at s) s)
unfolding lines_from
lines_step [] h = absurd (omega arith)
lines_step (x ∷ r) h =
    ap (λ (l : List ℕ). line_at (x ∷ r) ++ l) (lines_skip (pred (head_size + size_at (x ∷ r))) r ∙ ap (lines_from 0) (next x (size_at (x ∷ r)) r))

-- what a right record is
pub right_size : (s : List ℕ) → right_record s ≡ true → 4 + size_at s ≤ length s
unfolding right_record
right_size s e = leb-true _ _ (and_left (leb (4 + size_at s) (length s)) _ e)

pub right_kind : (s : List ℕ) → right_record s ≡ true → kind_at s ≡ kind_of (payload_at s)
unfolding right_record
right_kind s e = eqb-true _ _ (and_right (leb (4 + size_at s) (length s)) _ e)

one_valid : (bs : List ℕ) → eqb (kind_of bs) 1 ≡ valid_utf8 bs
unfolding kind_of pick
one_valid bs = split (valid_utf8 bs) (λ e. rw e) (λ e. rw e)

-- the record at a place, in code; n is its size
module _ (s : List ℕ) (at n : ℕ) (h : at ≤ length s) (en : n ≡ size_at (drop at s)) where
  pub cut_short : length s - at < 4 + n → false ≡ right_record (drop at s)
  unfolding right_record
  cut_short l = sym (rw (lt-leb (4 + size_at (drop at s)) (length (drop at s)) (omega (arith, length-drop at s))))

  payload_is : take (at + 4 + n - (at + 4)) (drop (at + 4) s) ≡ payload_at (drop at s)
  payload_is = λ i. take ((let e : at + 4 + n - (at + 4) ≡ size_at (drop at s) = omega (arith, en) in e) i) (sym (drop-drop 4 at s) i)

  pub kind_told : (kind k : ℕ) → 4 + n ≤ length s - at → kind ≡ kind_of (take (at + 4 + n - (at + 4)) (drop (at + 4) s)) → k ≡ kind_at (drop at s)
      → eqb k kind ≡ right_record (drop at s)
  unfolding right_record
  kind_told kind k l e f =
      let q : kind ≡ kind_of (payload_at (drop at s)) = e ∙ ap kind_of payload_is in
      sym (rw (le-leb (4 + size_at (drop at s)) (length (drop at s)) (omega (arith, length-drop at s))) (rw (← q, ← f)))

  module _ (g : right_record (drop at s) ≡ true) where
    pub right_inside : at + 4 + n ≤ length s
    right_inside = omega (arith, right_size (drop at s) g, length-drop at s)

    pub valid_told : (k : ℕ) → k ≡ kind_at (drop at s) → eqb k 1 ≡ valid_utf8 (take (at + 4 + n - (at + 4)) (drop (at + 4) s))
    valid_told k f = ap (λ (x : ℕ). eqb x 1) (f ∙ right_kind (drop at s) g) ∙ one_valid (payload_at (drop at s)) ∙ ap valid_utf8 (sym payload_is)

-- the judging loop
pub record Judged (s : List ℕ) (at : ℕ) : Type 0 where
  pub inside : at ≤ length s
  pub same : right_records 0 (drop at s) ≡ right_records 0 s

module _ (s : List ℕ) (at : ℕ) (i : Judged s at) where
  pub judged_all : length s ≤ at → true ≡ right_records 0 s
  unfolding right_records
  judged_all h = sym (sym i.same ∙ ap (right_records 0) (drop_of_length-le s h))

  module _ (h : at < length s) (b : Bool) (e : b ≡ right_record (drop at s)) where
    pub judged_bad : b ≡ false → false ≡ right_records 0 s
    judged_bad z = sym (sym i.same ∙ right_stop (drop at s) (omega (arith, length-drop at s)) (sym e ∙ z))

    pub judged_on : b ≡ true → (n : ℕ) → n ≡ size_at (drop at s) → Judged s (at + (4 + n))
    judged_on z n en = record {
      inside = omega (arith, right_size (drop at s) (sym e ∙ z), length-drop at s);
      same = (λ j. right_records 0 ((sym (drop-drop (4 + n) at s) ∙ ap (λ (k : ℕ). drop (4 + k) (drop at s)) en) j))
          ∙ sym (right_step (drop at s) (omega (arith, length-drop at s)) (sym e ∙ z)) ∙ i.same;
    }

-- the line of the record at a place, put as its text and an LF; n is its size
pub line_put : (s : List ℕ) (at n : ℕ) {room o p r : ℕ} {out mid new : List ℕ} → at ≤ length s → n ≡ size_at (drop at s)
    → Put (write_string (take (at + 4 + n - (at + 4)) (drop (at + 4) s))) room o p out mid → Put (LF ∷ []) room p r mid new → Put (line_at (drop at s)) room o r out new
unfolding line_at
line_put s at n h en a b = put_as (ap (λ (bs : List ℕ). write_string bs ++ (LF ∷ [])) (sym (payload_is s at n h en))) (put_then a b)

-- the writing loop's invariant: `done` is put, and the rest of the text is that of the records from `at` on
pub record Filling (s : List ℕ) (room : ℕ) (out₀ : List ℕ) (at o : ℕ) (out : List ℕ) : Type 0 where
  pub inside : at ≤ length s
  pub good : right_records 0 (drop at s) ≡ true
  pub done : List ℕ
  pub same : lines_from 0 s ≡ done ++ lines_from 0 (drop at s)
  pub put : Put done room 0 o out₀ out

pub begun : (s : List ℕ) (room : ℕ) (out : List ℕ) → right_records 0 s ≡ true → Filling s room out 0 0 out
begun s room out e = record { inside = omega arith; good = e; done = []; same = refl; put = put_none }

module _ {s : List ℕ} {room : ℕ} {out₀ : List ℕ} {at o : ℕ} {out : List ℕ} (i : Filling s room out₀ at o out) where
  pub kept : length out ≡ length out₀
  kept = ap length i.put.stored ∙ length-sets out₀ 0 (take (room - 0) i.done)

  pub filled : length s ≤ at → Put (lines_from 0 s) room 0 o out₀ out
  unfolding lines_from
  filled h = put_as (i.same ∙ ap (λ (x : List ℕ). i.done ++ lines_from 0 x) (drop_of_length-le s h) ∙ append-nil i.done) i.put

  module _ (h : at < length s) where
    some : 0 < length (drop at s)
    some = omega (arith, length-drop at s)

    pub here_right : right_record (drop at s) ≡ true
    here_right = right_first (drop at s) some i.good

    abbrev line : List ℕ
    line = line_at (drop at s)

    step : lines_from 0 s ≡ (i.done ++ line) ++ lines_from 0 (drop (4 + size_at (drop at s)) (drop at s))
    step = i.same ∙ ap (λ (x : List ℕ). i.done ++ x) (lines_step (drop at s) some) ∙ sym (append_assoc i.done line _)

    module _ {r : ℕ} {new : List ℕ} (p : Put line room o r out new) where
      pub overfull : room < r → Put (lines_from 0 s) room 0 r out₀ new
      overfull g = put_as step (put_then (put_then i.put p) (put_past g))

      pub moved : (n : ℕ) → n ≡ size_at (drop at s) → Filling s room out₀ (at + (4 + n)) r new
      moved n en =
          let d : drop (4 + size_at (drop at s)) (drop at s) ≡ drop (at + (4 + n)) s =
          ap (λ (k : ℕ). drop (4 + k) (drop at s)) (sym en) ∙ drop-drop (4 + n) at s in
          record {
            inside = omega (arith, right_size (drop at s) here_right, length-drop at s, i.inside);
            good = ap (right_records 0) (sym d) ∙ sym (right_step (drop at s) some here_right) ∙ i.good;
            done = i.done ++ line;
            same = step ∙ ap (λ (x : List ℕ). (i.done ++ line) ++ lines_from 0 x) d;
            put = put_then i.put p;
          }

-- what a call answers and leaves
abbrev WroteLines : List ℕ → List ℕ → Result ℕ Refusal → List ℕ → Type 0
WroteLines s out r new = (r ≡ wrote_lines (length out) s) × (new ≡ lines_into s out)

module _ (s out : List ℕ) (b : Bool) (e : b ≡ right_records 0 s) where
  pub not_right : b ≡ false → WroteLines s out (Err unfit) out
  unfolding wrote_lines lines_into
  not_right z = (sym (pick_false _ _ _ (sym e ∙ z)), sym (pick_false _ _ _ (sym e ∙ z)))

  pub all_right : b ≡ true → {r : Result ℕ Refusal} {new : List ℕ} → Whole Ok (Err no_room) (lines_from 0 s) out r new → WroteLines s out r new
  unfolding wrote_lines lines_into wrote_into
  all_right z w = (w.0 ∙ sym (pick_true _ _ _ (sym e ∙ z)), w.1 ∙ sym (pick_true _ _ _ (sym e ∙ z)))
