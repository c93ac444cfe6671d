-- What the code's functions return, over plain values: a law for each return, by the tests that led there.
-- Assumes nothing.
use Prim.Native.Nat.{ℕ, ◌+◌, ◌≤◌}
use mathlib.Core.Bool.{true}
use mathlib.Core.List.{List, [], ◌∷◌}
use mathlib.Core.Path.{◌≡◌, refl, sym, ap, ◌∙◌}
use Rattle.std.specs.Prelude.{Option, Some, None, Ok, Err}
use native.Mathlib.Nat.{add-zero}
use native.Mathlib.Omega.{arith}
use borrow.Author.Tests.{leb-true, eq-eqb, ne_eqb, le-leb}
use lib.Dec.{leb}
use lib.ListN.{length, take}
use Rattle.prelude.proofs.Cases.{split, never, and_left, and_right}
use Rattle.records.specs.Records.{line_record, Fault, none, refuse, line_fault, Appended, append_by, append_line}
use Rattle.records.proofs.LineRecords.{put_none}
use Rattle.upload.specs.declared.uploads.Upload.{Upload}
use Rattle.upload.specs.declared.uploads.Answer.{Answer}
use Rattle.prelude.specs.Bytes.{LF}
use Rattle.prelude.specs.Limits.{upload_max, line_max}
use Rattle.prelude.specs.Pick.{pick}
use Rattle.prelude.specs.declared.refusals.Refused.{Refused}
use Rattle.prelude.specs.Refusals.{too_long, over_limit, refused_at}
use Rattle.upload.specs.Calls.{Lent, lent, with_refusal, stored, behind_lf, at_end, byte_by, feed_byte, feed_bytes, finish_by, finish_all, fit_state, fit_lent, without_line, answer_of, stop_state, stop_lent, guarded_by, guarded, feed, finish}
use Rattle.upload.specs.inner.Fitness.{Fit}
use Rattle.upload.proofs.Kept.{line_fits, Ok as Kept, ok_bytes}

-- is_fit
pub fit_rest : (s : Upload) (line out : ℕ) → line_max ≤ line → s.held ≤ line_max → s.taken ≤ upload_max → s.lfs ≤ s.taken → leb s.used out ≡ fit_state s line out
unfolding fit_state pick
fit_rest s line out a b c d = rw (le-leb line_max line a, le-leb s.held line_max b, le-leb s.taken upload_max c, le-leb s.lfs s.taken d)

pub fit_facts : (m : Lent) → fit_lent m ≡ true → Fit m
unfolding fit_state pick
fit_facts m e =
    let s = m.state in
    let e₁ = and_right (leb line_max (length m.line)) _ e in
    let e₂ = and_right (leb s.held line_max) _ e₁ in
    let e₃ = and_right (leb s.taken upload_max) _ e₂ in
    record {
      held = leb-true _ _ (and_left (leb s.held line_max) _ e₁);
      taken = leb-true _ _ (and_left (leb s.taken upload_max) _ e₂);
      lfs = leb-true _ _ (and_left (leb s.lfs s.taken) _ e₃);
      used = leb-true _ _ (and_right (leb s.lfs s.taken) _ e₃);
      large = leb-true _ _ (and_left (leb line_max (length m.line)) _ e);
    }

-- take_byte
module _ (s : Upload) (line out : List ℕ) (b : ℕ) where
  pub byte_kept : (s.refusal ≡ 0 → ⊥) → lent s line out ≡ feed_byte (lent s line out) b
  unfolding feed_byte pick
  byte_kept e = rw (ne_eqb s.refusal 0 e)

  module _ (r : s.refusal ≡ 0) where
    pub byte_over : (w : Refused) → w ≡ refused_at over_limit s.held → (t : Upload) → t ≡ with_refusal s w.refusal w.place → s.taken ≡ upload_max → lent t line out ≡ feed_byte (lent s line out) b
    unfolding feed_byte pick
    byte_over w k t e q = rw (eq-eqb s.refusal 0 r, eq-eqb s.taken upload_max q, e, k)

    module _ (n : s.taken ≡ upload_max → ⊥) where
      pub byte_long : (w : Refused) → w ≡ refused_at too_long line_max → (t : Upload) → t ≡ with_refusal s w.refusal w.place → (b ≡ LF → ⊥) → s.held ≡ line_max → lent t line out ≡ feed_byte (lent s line out) b
      unfolding feed_byte pick
      byte_long w k t e l h = rw (eq-eqb s.refusal 0 r, ne_eqb s.taken upload_max n, ne_eqb b LF l, eq-eqb s.held line_max h, e, k)

      pub byte_stored : (b ≡ LF → ⊥) → (s.held ≡ line_max → ⊥) → stored (lent s line out) (b ∷ []) ≡ feed_byte (lent s line out) b
      unfolding feed_byte pick
      byte_stored l h = rw (eq-eqb s.refusal 0 r, ne_eqb s.taken upload_max n, ne_eqb b LF l, ne_eqb s.held line_max h) (rw (ne_eqb b LF l))

      -- a line's record behind the others
      module _ (l : b ≡ LF) (a : Appended) (ea : a ≡ append_line (take s.held line) out s.used) where
        pub byte_lf_refused : (why : Refused) → a.added ≡ Err why → (t : Upload) → t ≡ with_refusal s why.refusal why.place → lent t line a.out ≡ feed_byte (lent s line out) b
        unfolding feed_byte append_line pick
        byte_lf_refused why z t et =
            rw (et, ea, eq-eqb s.refusal 0 r, ne_eqb s.taken upload_max n, eq-eqb b LF l)
            (by_lf (line_fault (length out) s.used (take s.held line)) (rw ea at z))
          where
            by_lf : (f : Fault) → (append_by f (take s.held line) out s.used).added ≡ Err why → lent (with_refusal s why.refusal why.place) line (append_by f (take s.held line) out s.used).out ≡ byte_by f (lent s line out) b
            by_lf none z = never (cc)
            by_lf (refuse m p) z = let e : refused_at m p ≡ why = cc in ap (λ (w : Refused). lent (with_refusal s w.refusal w.place) line out) (sym e)

        pub byte_lf : (k : ℕ) → a.added ≡ Ok k → lent (behind_lf s (s.used + k)) line a.out ≡ feed_byte (lent s line out) b
        unfolding feed_byte append_line pick
        byte_lf k z =
            rw (ea, eq-eqb s.refusal 0 r, ne_eqb s.taken upload_max n, eq-eqb b LF l)
            (by_lf (line_fault (length out) s.used (take s.held line)) (rw ea at z))
          where
            by_lf : (f : Fault) → (append_by f (take s.held line) out s.used).added ≡ Ok k → lent (behind_lf s (s.used + k)) line (append_by f (take s.held line) out s.used).out ≡ byte_by f (lent s line out) b
            by_lf none z = let e : length (line_record (take s.held line)) ≡ k = cc in rw (eq-eqb b LF l, e)
            by_lf (refuse m p) z = never (cc)

-- take_end
module _ (s : Upload) (line out : List ℕ) where
  pub end_empty : s.held ≡ 0 → (t : Upload) → t ≡ at_end s s.used → lent t line out ≡ finish_all (lent s line out)
  unfolding finish_all pick
  end_empty e t et = rw (et, eq-eqb s.held 0 e) (rw (eq-eqb s.held 0 e, put_none out s.used, add-zero s.used))

  module _ (h : s.held ≡ 0 → ⊥) where
    module _ (a : Appended) (ea : a ≡ append_line (take s.held line) out s.used) where
      pub end_refused : (why : Refused) → a.added ≡ Err why → (t : Upload) → t ≡ with_refusal s why.refusal why.place → lent t line a.out ≡ finish_all (lent s line out)
      unfolding finish_all append_line pick
      end_refused why z t et =
          rw (et, ea, ne_eqb s.held 0 h) (by_end (line_fault (length out) s.used (take s.held line)) (rw ea at z))
        where
          by_end : (f : Fault) → (append_by f (take s.held line) out s.used).added ≡ Err why → lent (with_refusal s why.refusal why.place) line (append_by f (take s.held line) out s.used).out ≡ finish_by f (lent s line out)
          by_end none z = never (cc)
          by_end (refuse m p) z = let e : refused_at m p ≡ why = cc in ap (λ (w : Refused). lent (with_refusal s w.refusal w.place) line out) (sym e)

      pub end_taken : (k : ℕ) → a.added ≡ Ok k → (t : Upload) → t ≡ at_end s (s.used + k) → lent t line a.out ≡ finish_all (lent s line out)
      unfolding finish_all append_line pick
      end_taken k z t et =
          rw (et, ea, ne_eqb s.held 0 h) (by_end (line_fault (length out) s.used (take s.held line)) (rw ea at z))
        where
          by_end : (f : Fault) → (append_by f (take s.held line) out s.used).added ≡ Ok k → lent (at_end s (s.used + k)) line (append_by f (take s.held line) out s.used).out ≡ finish_by f (lent s line out)
          by_end none z = let e : length (line_record (take s.held line)) ≡ k = cc in rw (ne_eqb s.held 0 h, e)
          by_end (refuse m p) z = never (cc)

-- what a line adds ends inside the output
added_by : (f : Fault) (l out : List ℕ) (used n : ℕ) → line_fault (length out) used l ≡ f → used ≤ length out → (append_by f l out used).added ≡ Ok n → used + n ≤ length out
added_by none l out used n e h z = let k : length (line_record l) ≡ n = cc in omega (arith, line_fits (length out) used l h e, k)
added_by (refuse m p) l out used n e h z = never (cc)

pub added_fits : (a : Appended) (l out : List ℕ) (used n : ℕ) → a ≡ append_line l out used → used ≤ length out → a.added ≡ Ok n → used + n ≤ length out
unfolding append_line pick
added_fits a l out used n e h z = added_by (line_fault (length out) used l) l out used n refl h (rw e at z)

-- feed and finish: what stops a call, and what a call that isn't stopped may build on
module _ (m : Lent) (a : Option Answer) (e : a ≡ stop_lent m) where
  pub call_stopped : (d : Lent) (b : Answer) → a ≡ Some b → record { lent = m; answer = b } ≡ guarded m d
  call_stopped d b z = ap (λ (x : Option Answer). guarded_by x m d) (sym z ∙ e)

  call_done : (d : Lent) → a ≡ None → (w : Lent) → w ≡ d → (b : Answer) → b ≡ answer_of w.state → record { lent = w; answer = b } ≡ guarded m d
  call_done d z w q b p = rw (p, q) (ap (λ (x : Option Answer). guarded_by x m d) (sym z ∙ e))

  pub feed_done : (piece : List ℕ) → a ≡ None → (w : Lent) → w ≡ feed_bytes m piece → (b : Answer) → b ≡ answer_of w.state → record { lent = w; answer = b } ≡ feed m piece
  unfolding feed
  feed_done piece z w q b p = call_done (feed_bytes m piece) z w q b p

  pub finish_done : a ≡ None → (w : Lent) → w ≡ finish_all m → (b : Answer) → b ≡ answer_of w.state → record { lent = w; answer = b } ≡ finish m
  unfolding finish
  finish_done z w q b p = call_done (finish_all m) z w q b p

  pub not_stopped : a ≡ None → Fit m
  unfolding stop_state pick
  not_stopped z =
      split (fit_lent m) (λ f. fit_facts m f)
      (λ f. let n : a ≡ Some (without_line 1) = e ∙ rw f in never (cc))

-- take_bytes
pub fit_ok : (m : Lent) → Fit m → Kept m.line m.out m
fit_ok m f = record { held = f.held; taken = f.taken; lfs = f.lfs; used = f.used; room = refl; wide = refl; large = f.large }

pub ok_fits : (line out : List ℕ) (m : Lent) → Kept line out m → Fit m
ok_fits line out m k =
    record { held = k.held; taken = k.taken; lfs = k.lfs; used = omega (arith, k.used, k.room); large = omega (arith, k.large, k.wide) }

pub after_bytes : (m : Lent) → Fit m → (bs : List ℕ) (w : Lent) → w ≡ feed_bytes m bs → Kept m.line m.out w
after_bytes m f bs w e = rw e (ok_bytes m.line m.out m bs (fit_ok m f))

-- stop
pub told : (n k : ℕ) (a : Answer) → a ≡ without_line n → n ≡ k → Some a ≡ Some (without_line k)
told n k a e p = ap Some (e ∙ ap without_line p)

-- answer_of
pub answer_none : (s : Upload) (a : Answer) → a ≡ without_line 0 → s.refusal ≡ 0 → a ≡ answer_of s
unfolding answer_of pick
answer_none s a p e = rw (eq-eqb s.refusal 0 e) p

pub answer_some : (s : Upload) → (s.refusal ≡ 0 → ⊥) → record { number = s.refusal; line = s.line; place = s.place } ≡ answer_of s
unfolding answer_of pick
answer_some s e = rw (ne_eqb s.refusal 0 e)
