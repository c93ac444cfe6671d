-- A text that fits is stored at its place, and one that doesn't leaves all as it was; a writer that is lent the part from a place on does the same.
-- Assumes nothing.
use Prim.Native.Nat.{ℕ, ◌+◌, ◌-◌, ◌≤◌, ◌<◌}
use mathlib.Core.Bool.{Bool, true, false}
use mathlib.Core.List.{List, [], ◌++◌}
use mathlib.Core.Path.{◌≡◌, refl, sym, ap, subst, ◌∙◌}
use native.Mathlib.Omega.{arith}
use borrow.Author.Tests.{lt-ltb, le-ltb, le-leb, lt-leb, leb-true, leb-false}
use borrow.Rule.Slice.PartMut.{put_mid, put_same}
use lib.Dec.{leb}
use lib.ListN.{length, length-append, length-drop, take, drop}
use lib.Seq.{sets, length-sets, length-take-le, take-append_seam}
use Rattle.std.specs.Prelude.{Result, Ok, Err}
use Rattle.io.specs.Counts.{IsPrefixLen}
use Rattle.prelude.proofs.Cases.{split, never}
use Rattle.prelude.proofs.Picks.{pick_true, pick_false}
use Rattle.prelude.proofs.Stores.{sets_over, sets_part}
use Rattle.prelude.specs.declared.refusals.Refusal.{Refusal}
use Rattle.strings_write.specs.Write.{write_string, written_in, wrote_into}
use Rattle.terminals.specs.Terminals.{safe_text}
use Rattle.command_texts.specs.Texts.{PutWhole, behind_written, quoted_in}

pub left_out : (t : List ℕ) (at : ℕ) (out : List ℕ) → length out < at + length t → PutWhole t at at out out
left_out t at out h =
    let e : leb (at + length t) (length out) ≡ false = lt-leb _ _ h in
    record { answer = sym (pick_false _ _ _ e); stored = sym (pick_false _ _ _ e) }

pub put_whole : (t : List ℕ) (at : ℕ) (out : List ℕ) {r : ℕ} {new : List ℕ} → at + length t ≤ length out → r ≡ at + length t → new ≡ sets out at t → PutWhole t at r out new
put_whole t at out h a s =
    let e : leb (at + length t) (length out) ≡ true = le-leb _ _ h in
    record { answer = a ∙ sym (pick_true _ _ _ e); stored = s ∙ sym (pick_true _ _ _ e) }

-- the same of an equal text
pub whole_as : {t u : List ℕ} {at r : ℕ} {out new : List ℕ} → t ≡ u → PutWhole u at r out new → PutWhole t at r out new
whole_as {t} {u} {at} {r} {out} {new} e p = subst (λ (x : List ℕ). PutWhole x at r out new) (sym e) p

-- nothing is put, and nothing changes
pub none_put : (at : ℕ) (out : List ℕ) → PutWhole [] at at out out
none_put at out =
    split (leb (at + 0) (length out))
    (λ e. record { answer = (let z : at ≡ at + 0 = omega arith in z) ∙ sym (pick_true _ _ _ e); stored = sym (pick_true _ _ _ e) })
    (λ e. record { answer = sym (pick_false _ _ _ e); stored = sym (pick_false _ _ _ e) })

module _ (w : Result ℕ Refusal) (n at size : ℕ) (e : w ≡ Ok n) where
  told : (k : ℕ) → k ≡ behind_written (Ok n) at size → k ≡ behind_written w at size
  told k f = subst (λ (x : Result ℕ Refusal). k ≡ behind_written x at size) (sym e) f

  pub behind_past : size < at → at ≡ behind_written w at size
  unfolding behind_written
  behind_past h = told at (sym (pick_false _ _ _ (lt-leb (at + n) size (omega arith)) ∙ pick_true _ _ _ (lt-ltb size at h)))

  pub behind_inside : (k : ℕ) → at ≤ size → (n ≤ size - at → k ≡ n) → (size - at ≤ n → k ≡ size - at) → at + k ≡ behind_written w at size
  unfolding behind_written
  behind_inside k h f g =
      told (at + k)
      (split (leb (at + n) size)
      (λ q. let l : at + n ≤ size = leb-true _ _ q in (let z : at + k ≡ at + n = omega (arith, f (omega arith)) in z) ∙ sym (pick_true _ _ _ q))
      (λ q.
      let l : size < at + n = leb-false (at + n) size q in
      (let z : at + k ≡ size = omega (arith, g (omega arith)) in z) ∙ sym (pick_false _ _ _ q ∙ pick_false _ _ _ (le-ltb size at h))))

pub behind_refused : (w : Result ℕ Refusal) (k : Refusal) (at size : ℕ) → w ≡ Err k → at ≡ behind_written w at size
unfolding behind_written
behind_refused w k at size e = subst (λ (x : Result ℕ Refusal). at ≡ behind_written x at size) (sym e) refl

-- a writer that is lent the part from a place on
module _ (t out : List ℕ) (at : ℕ) (w : Result ℕ Refusal) (part : List ℕ) (h : at ≤ length out) (a : w ≡ written_in (length (take (length out - at) (drop at out))) t)
    (s : part ≡ wrote_into t (take (length out - at) (drop at out))) where
  abbrev old : List ℕ
  old = take (length out - at) (drop at out)

  abbrev whole : List ℕ
  whole = put_mid at (length out - at) out part

  size : length old ≡ length out - at
  size = length-take-le (length out - at) (drop at out) (omega (arith, length-drop at out))

  module _ (e : leb (length t) (length old) ≡ true) where
    fits : length t ≤ length out - at
    fits = omega (arith, leb-true (length t) (length old) e, size)

    stored : whole ≡ sets out at t
    unfolding wrote_into
    stored =
        ap (put_mid at (length out - at) out) (s ∙ pick_true _ _ _ e ∙ sym (sets_over t old (leb-true (length t) (length old) e)))
        ∙ sets_part out t at at (λ q. refl) (λ q. omega arith)

    answered : (r : ℕ) → r ≡ behind_written w at (length whole) → r ≡ at + length t
    unfolding written_in behind_written
    answered r q =
        q ∙ ap (λ (x : Result ℕ Refusal). behind_written x at (length whole)) (a ∙ pick_true _ _ _ e)
        ∙ pick_true _ _ _ (le-leb (at + length t) (length whole) (omega (arith, fits, ap length stored, length-sets out at t)))

  module _ (e : leb (length t) (length old) ≡ false) where
    over : length out < at + length t
    over = omega (arith, leb-false (length t) (length old) e, size)

    same : whole ≡ out
    unfolding wrote_into
    same = ap (put_mid at (length out - at) out) (s ∙ pick_false _ _ _ e) ∙ put_same at (length out - at) out

    kept : (r : ℕ) → r ≡ behind_written w at (length whole) → r ≡ at
    unfolding written_in behind_written
    kept r q = q ∙ ap (λ (x : Result ℕ Refusal). behind_written x at (length whole)) (a ∙ pick_false _ _ _ e)

  pub written_put : (r : ℕ) → r ≡ behind_written w at (length whole) → PutWhole t at r out whole
  written_put r q =
      split (leb (length t) (length old))
      (λ e. put_whole t at out (omega (arith, fits e)) (answered e r q) (stored e))
      (λ e.
      subst (λ (x : List ℕ). PutWhole t at r out x) (sym (same e))
      (subst (λ (k : ℕ). PutWhole t at k out out) (sym (kept e r q)) (left_out t at out (over e))))

-- a string that was written in a buffer: its bytes are the first ones
abbrev is_wrote : Result ℕ Refusal → Bool
is_wrote (Ok n) = true
is_wrote (Err k) = false

abbrev size_of : Result ℕ Refusal → ℕ
size_of (Ok n) = n
size_of (Err k) = 0

module _ (s line : List ℕ) (w : Result ℕ Refusal) (a : w ≡ written_in (length line) (write_string s)) where
  abbrev string : List ℕ
  string = write_string s

  module _ (n : ℕ) (e : w ≡ Ok n) where
    string_fits : leb (length string) (length line) ≡ true
    unfolding written_in
    string_fits =
        split (leb (length string) (length line)) (λ q. q)
        (λ q. never (let z : false ≡ true = ap is_wrote (sym (a ∙ pick_false _ _ _ q) ∙ e) in cc))

    string_size : n ≡ length string
    unfolding written_in
    string_size = ap size_of (sym e ∙ a ∙ pick_true _ _ _ string_fits)

    module _ (new : List ℕ) (b : new ≡ wrote_into string line) where
      string_first : new ≡ string ++ drop (length string) line
      unfolding wrote_into
      string_first = b ∙ pick_true _ _ _ string_fits

      string_taken : take n new ≡ string
      string_taken = ap (λ (k : ℕ). take k new) string_size ∙ ap (take (length string)) string_first ∙ take-append_seam string _

      pub string_counts : IsPrefixLen n new
      string_counts =
          let l : n ≡ length (take n new) = string_size ∙ ap length (sym string_taken) in
          let m : length new ≡ length (string ++ drop (length string) line) = ap length string_first in
          (omega (arith, m, string_size, length-append string (drop (length string) line)), l)

      pub string_put : {at r : ℕ} {out out' : List ℕ} → PutWhole (safe_text (take n new)) at r out out' → PutWhole (quoted_in (length line) s) at r out out'
      unfolding quoted_in
      string_put p = whole_as (pick_true _ _ _ string_fits ∙ ap safe_text (sym string_taken)) p

  pub string_left : (k : Refusal) (at : ℕ) (out : List ℕ) → w ≡ Err k → PutWhole (quoted_in (length line) s) at at out out
  unfolding quoted_in written_in
  string_left k at out e =
      split (leb (length string) (length line))
      (λ q. never (let z : false ≡ true = ap is_wrote (sym e ∙ a ∙ pick_true _ _ _ q) in cc))
      (λ q. whole_as (pick_false _ _ _ q) (none_put at out))
