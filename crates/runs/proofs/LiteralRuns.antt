-- Runs of literal characters, by induction on the text: a run goes on over a character and stops where none stands; plain bytes are
-- characters.
-- Assumes nothing.
use mathlib.Core.Path.{◌≡◌, refl, sym, ap, ◌∙◌}
use mathlib.Core.Bool.{true}
use mathlib.Core.List.{List, [], ◌∷◌}
use Prim.Native.Nat.{ℕ, zero, suc, ◌+◌, ◌-◌, ◌*◌, ◌/◌, ◌≤◌, ◌<◌, zero-le}
use native.Mathlib.Nat.{not-suc-le-zero}
use native.Mathlib.Omega.{arith}
use lib.Dec.{eqb}
use lib.ListN.{length, drop, length-drop, drop_of_length-le}
use lib.Seq.{drop-drop}
use Rattle.prelude.proofs.Cases.{split}
use Rattle.prelude.proofs.Picks.{pick_true}
use Rattle.prelude.proofs.Rest.{advances}
use Rattle.utf8.specs.Class.{class_of, plain_run}
use Rattle.utf8.proofs.PlainRuns.{run_plain, run_stop, after_eights}
use Rattle.utf8.proofs.Characters.{char_le}
use Rattle.notation.specs.declared.styles.Style.{Style}
use Rattle.notation.specs.Literals.{literal_len, or_stop, literal_run}
use Rattle.runs.specs.inner.Blocks.{Running, Ran}
use Rattle.notation.proofs.LiteralClasses.{literal_class}
use Rattle.notation.proofs.LiteralLaws.{literal_char, run_skip, run_fits, run_ends}

module _ (st : Style) where
  pub literal_fits : (s : List ℕ) → literal_len st s ≤ length s
  literal_fits s = go (literal_len st s) refl
    where
      go : (n : ℕ) → literal_len st s ≡ n → n ≤ length s
      go zero e = zero-le
      go (suc n) e = rw (literal_char st s n e) at (char_le s)

  nil_run : (k : ℕ) → literal_run st k [] ≡ 0
  unfolding literal_run
  nil_run zero = refl
  nil_run (suc k) = refl

  cons_run : (x : ℕ) (r : List ℕ) → literal_run st 0 (x ∷ r) ≡ or_stop (literal_len st (x ∷ r)) (λ m. literal_run st m r)
  unfolding literal_run
  cons_run x r = refl

  pub run_stop_at : (s : List ℕ) → literal_len st s ≡ 0 → literal_run st 0 s ≡ 0
  run_stop_at [] e = nil_run 0
  run_stop_at (x ∷ r) e = cons_run x r ∙ ap (λ (n : ℕ). or_stop n (λ m. literal_run st m r)) e

  pub run_on : (n : ℕ) (s : List ℕ) → literal_len st s ≡ n → literal_run st 0 s ≡ n + literal_run st 0 (drop n s)
  run_on zero s e = omega arith
  run_on (suc n) [] e = absurd (let f : suc n ≤ 0 = rw e at (literal_fits []) in not-suc-le-zero f)
  run_on (suc n) (x ∷ r) e =
      let f : suc n ≤ suc (length r) = rw e at (literal_fits (x ∷ r)) in
      cons_run x r ∙ ap (λ (k : ℕ). or_stop k (λ m. literal_run st m r)) e
      ∙ (let i : literal_run st n r ≡ n + literal_run st 0 (drop n r) = run_skip st n r (omega arith) in omega arith)

  plain_one : (x : ℕ) (r : List ℕ) → eqb (class_of x) 0 ≡ true → literal_len st (x ∷ r) ≡ 1
  plain_one x r e = sym (literal_class st x r) ∙ pick_true (eqb (class_of x) 0) _ _ e

  plain_chars : (n : ℕ) (s : List ℕ) → n ≤ plain_run s → n ≤ length s → literal_run st 0 s ≡ n + literal_run st 0 (drop n s)
  plain_chars zero s h l = omega arith
  plain_chars (suc n) [] h l = absurd (not-suc-le-zero l)
  plain_chars (suc n) (x ∷ r) h l =
      split (eqb (class_of x) 0)
      (λ e. let f : plain_run (x ∷ r) ≡ suc (plain_run r) = run_plain x r e in
      let u : literal_run st 0 (x ∷ r) ≡ 1 + literal_run st 0 r = run_on 1 (x ∷ r) (plain_one x r e) in
      let g : literal_run st 0 r ≡ n + literal_run st 0 (drop n r) = plain_chars n r (omega arith) (omega arith) in omega arith)
      (λ e. let f : plain_run (x ∷ r) ≡ 0 = run_stop x r e in absurd (let b : ⊥ = omega arith in b))

  pub here : (s : List ℕ) (from : ℕ) → from ≤ length s → Running st s from from
  here s from h = record { onward = omega arith; inside = h; same = refl }

  pub further : (s : List ℕ) (from at next : ℕ) → Running st s from at → Running st s at next → Running st s from next
  further s from at next a b =
      record { onward = omega (arith, a.onward, b.onward); inside = b.inside; same = b.same ∙ a.same }

  -- behind the eights that are plain
  pub begun : (s : List ℕ) (from i : ℕ) → from ≤ length s → i ≡ from + 8 * (plain_run (drop from s) / 8) → Running st s from i
  begun s from i h e =
      let n : ℕ = 8 * (plain_run (drop from s) / 8) in
      let l : n ≤ plain_run (drop from s) = omega arith in
      let a = after_eights s from i h e in
      let d : n ≤ length (drop from s) = simp length-drop (omega (arith, a.0)) in
      let m : literal_run st 0 (drop from s) ≡ n + literal_run st 0 (drop (from + n) s) =
      plain_chars n (drop from s) l d ∙ ap (λ (x : List ℕ). n + literal_run st 0 x) (drop-drop n from s) in
      record { onward = omega arith; inside = a.0; same = rw e (omega arith) }

  pub moved : (s : List ℕ) (from at n : ℕ) → Running st s from at → n ≡ literal_len st (drop at s) → Running st s from (at + n)
  moved s from at n k e =
      let u : literal_run st 0 (drop at s) ≡ n + literal_run st 0 (drop (at + n) s) =
      run_on n (drop at s) (sym e) ∙ ap (λ (x : List ℕ). n + literal_run st 0 x) (drop-drop n at s) in
      let l : n ≤ length s - at = rw (← e, length-drop at s) at (literal_fits (drop at s)) in
      record { onward = omega (arith, k.onward); inside = omega (arith, k.inside); same = omega (arith, k.same) }

  -- all of a run that began before
  pub through : (s : List ℕ) (from at e : ℕ) → Running st s from at → e ≡ at + literal_run st 0 (drop at s) → Running st s from e
  through s from at e k h =
      let n : ℕ = literal_run st 0 (drop at s) in
      let f : n ≤ length s - at = rw length-drop at (run_fits st (drop at s)) in
      let z : literal_run st 0 (drop e s) ≡ 0 =
      ap (λ (i : ℕ). literal_run st 0 (drop i s)) h ∙ ap (literal_run st 0) (sym (drop-drop n at s)) ∙ run_stop_at (drop n (drop at s)) (run_ends st (drop at s)) in
      record { onward = omega (arith, k.onward); inside = omega (arith, k.inside); same = omega (arith, k.same) }

  pub stopped : (s : List ℕ) (from at : ℕ) → Running st s from at → 0 ≡ literal_len st (drop at s) → at ≡ from + literal_run st 0 (drop from s)
  stopped s from at k e = omega (arith, k.same, run_stop_at (drop at s) (sym e))

  pub at_end_lem : (s : List ℕ) (from at : ℕ) → Running st s from at → length s ≤ at → at ≡ from + literal_run st 0 (drop from s)
  at_end_lem s from at k h = omega (arith, k.same, ap (literal_run st 0) (drop_of_length-le s h), nil_run 0)

-- a turn of a run's loop: blocks up to mid, common characters up to most, and then literal characters that begin before end
module _ {st : Style} {s : List ℕ} {from at mid end most next : ℕ} (k : Running st s from at) (a : Running st s at mid)
    (b : (end ≤ length s) × (mid < length s → mid < end)) (c : (t : Style) → Running t s mid most) (u : Ran st s most end next) where
  turned : Running st s from next
  turned = further st s from most next (further st s from mid most (further st s from at mid k a) (c st)) u.run

  pub turn_stopped : next < end → next ≡ from + literal_run st 0 (drop from s)
  turn_stopped h = stopped st s from next turned (u.stop h)

  pub turn_on : end ≤ next → Running st s from next
  turn_on h = turned

  pub turn_less : at < length s → end ≤ next → length s - next < length s - at
  turn_less l h = advances (length s) at mid end next l a.onward b.1 (omega (arith, (c st).onward, u.run.onward)) h u.run.inside
