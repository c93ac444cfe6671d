-- One call of a plan, and the plan call by call: what is left to run gives the same.
-- Assumes nothing.
use Prim.Native.Nat.{ℕ, suc, ◌+◌, ◌-◌, ◌≤◌, ◌<◌}
use mathlib.Core.Bool.{Bool, true, false}
use mathlib.Core.List.{List, ◌∷◌}
use mathlib.Core.Path.{◌≡◌, refl, sym, ◌∙◌}
use native.Mathlib.Numerals.{add-one}
use native.Mathlib.Omega.{arith}
use borrow.Author.Tests.{eq-eqb, ne_eqb}
use lib.Dec.{eqb}
use lib.ListN.{length, take, drop, get_or, length-drop, drop_of_length-le}
use lib.Seq.{take_all, drop-drop, drop-cons}
use Rattle.prelude.specs.Pick.{pick}
use Rattle.upload.specs.declared.uploads.Upload.{Upload}
use Rattle.upload.specs.declared.uploads.Answer.{Answer}
use Rattle.upload.specs.Calls.{Lent, lent, fresh, Called, zeros, feed, finish}
use Rattle.j8_lines.specs.Lists.{feeds, finishes, call, run, began, decode}
use Rattle.replay.specs.inner.Plans.{OneCall}

module _ (text : List ℕ) (at c : ℕ) (m : Lent) (r : Called) (h : at ≤ length text) where
  pub one_finish : c ≡ 0 → r ≡ finish m → OneCall text at c m r at
  unfolding call pick
  one_finish e q = record { result = rw (eq-eqb c 0 e) q; rest = rw (eq-eqb c 0 e); inside = h }

  pub one_feed : (c ≡ 0 → ⊥) → c - 1 ≤ length text - at → r ≡ feed m (take (at + (c - 1) - at) (drop at text)) → OneCall text at c m r (at + (c - 1))
  unfolding call pick
  one_feed e l q =
      let p : at + (c - 1) - at ≡ c - 1 = omega arith in
      record { result = rw (ne_eqb c 0 e, ← p) q; rest = rw (ne_eqb c 0 e, drop-drop (c - 1) at text); inside = omega arith }

  pub one_rest : (c ≡ 0 → ⊥) → length text - at < c - 1 → r ≡ feed m (take (length text - at) (drop at text)) → OneCall text at c m r (length text)
  unfolding call pick
  one_rest e l q =
      let d = length-drop at text in
      let p : take (length text - at) (drop at text) ≡ take (c - 1) (drop at text) =
      take_all (length text - at) (drop at text) (omega arith) ∙ sym (take_all (c - 1) (drop at text) (omega arith)) in
      record {
        result = rw (ne_eqb c 0 e, ← p) q;
        rest = rw (ne_eqb c 0 e, drop-drop (c - 1) at text) (drop_of_length-le text {i = length text} (omega arith) ∙ sym (drop_of_length-le text {i = at + (c - 1)} (omega arith)));
        inside = omega arith;
      }

next_by_lem : (text rest : List ℕ) (at c : ℕ) (m : Lent) (a : Answer) (r : Called) (next : ℕ) (k : Bool) → eqb c 0 ≡ k → r ≡ call m (pick k finishes (feeds (take (c - 1) (drop at text)))) → drop next text ≡ pick k (drop at text) (drop (c - 1) (drop at text)) → run (record { lent = m; answer = a }) (decode (drop at text) (c ∷ rest)) ≡ run r (decode (drop next text) rest)
unfolding run decode pick
next_by_lem text rest at c m a r next true e q d = rw (e, q, d)
next_by_lem text rest at c m a r next false e q d = rw (e, q, d)

pub play_next : (x : Called) (text plan : List ℕ) (at i : ℕ) (m : Lent) (a : Answer) (r : Called) (next : ℕ) → i < length plan → x ≡ run (record { lent = m; answer = a }) (decode (drop at text) (drop i plan)) → OneCall text at (get_or plan i 0) m r next → x ≡ run r (decode (drop next text) (drop (i + 1) plan))
play_next x text plan at i m a r next h e o =
    let step = next_by_lem text (drop (suc i) plan) at (get_or plan i 0) m a r next (eqb (get_or plan i 0) 0) refl o.result o.rest in
    e ∙ rw (drop-cons plan i 0 h, add-one i) step

pub play_first : (text plan line out : List ℕ) (s : Upload) → s ≡ fresh → run (began line out) (decode text plan) ≡ run (record { lent = lent s line out; answer = zeros }) (decode text plan)
play_first text plan line out s e = rw e

pub play_last : (x r : Called) (text plan : List ℕ) (at i : ℕ) → length plan ≤ i → x ≡ run r (decode (drop at text) (drop i plan)) → r ≡ x
unfolding run decode pick
play_last x r text plan at i h e = sym (rw (drop_of_length-le plan h) at e)
