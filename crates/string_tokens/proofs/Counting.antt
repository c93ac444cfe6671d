-- Units counted: the whole reading is what was counted and then the reading of the rest, and the text's bytes so far are those counted and
-- those that denote none.
-- Assumes nothing.
use Rattle.std.specs.Prelude.{Result, Ok, Err}
use Rattle.prelude.specs.declared.refusals.Refusal.{Refusal}
use Rattle.prelude.specs.declared.refusals.Refused.{Refused}
use Rattle.prelude.specs.Refusals.{refused_at}
use Prim.Native.Nat.{ℕ, zero, suc, ◌+◌, ◌-◌, ◌≤◌, ◌<◌}
use mathlib.Core.Bool.{Bool, true, false}
use mathlib.Core.List.{List, [], ◌∷◌, ◌++◌}
use mathlib.Core.Path.{◌≡◌, refl, sym, ap, ◌∙◌, subst}
use native.Mathlib.Omega.{arith}
use borrow.Author.Tests.{ltb-true, ltb-false}
use lib.Dec.{ltb}
use lib.ListN.{length, get_or, take, drop, length-drop, length-append}
use lib.Seq.{drop-drop, length-take-le}
use Rattle.prelude.proofs.Cases.{split}
use Rattle.utf8.specs.declared.encoding.Few.{Few}
use Rattle.utf8.specs.Utf8.{few_of}
use Rattle.notation.specs.declared.styles.Style.{Style}
use Rattle.notation.specs.declared.styles.Unit.{Unit as Found}
use Rattle.notation.specs.declared.styles.Unit.TheVariants.{Close, Took}
use Rattle.notation.specs.Styles.{took, unit_of, FewOf}
use Rattle.notation.specs.Literals.{literal_run}
use Rattle.notation.proofs.LiteralLaws.{run_fits}
use Rattle.units.specs.Units.{unit_at}
use Rattle.units.proofs.Sizes.{took_size, took_raw}
use Rattle.units.proofs.SingleLaws.{plain_unit}
use Rattle.strings.specs.Read.{more, read_units, token_of}
use Rattle.strings.proofs.Steps.{read_closes, read_fault, read_on}
use Rattle.strings.proofs.Runs.{run_law}
use Rattle.strings.proofs.Reading.{took_few}
use Rattle.eights.proofs.Lanes.{word_none}
use Rattle.string_tokens.specs.inner.Quotes.{ended_at, failed_at, Takes, Plains}
use Rattle.eights.specs.inner.Words.{word, bit, is_odd, First}
use Rattle.string_tokens.proofs.Quoting.{not_odd}

pub record Counted (st : Style) (s : List ℕ) (from at spare : ℕ) : Type 0 where
  pub done : List ℕ
  pub inside : at ≤ length s
  pub count : from + length done + spare ≡ at
  pub same : read_units st from 0 (drop from s) ≡ more done (read_units st at 0 (drop at s))

pub begun : (st : Style) (s : List ℕ) (from e : ℕ) → from ≤ length s → e ≡ from + literal_run st 0 (drop from s) → Counted st s from e 0
begun st s from e h ee =
    let l : length (take (literal_run st 0 (drop from s)) (drop from s)) ≡ literal_run st 0 (drop from s) = length-take-le (literal_run st 0 (drop from s)) (drop from s) (run_fits st (drop from s)) in
    record {
      done = take (literal_run st 0 (drop from s)) (drop from s);
      inside = omega (arith, ee, run_fits st (drop from s), length-drop from s);
      count = omega (arith, ee, l);
      same = run_law st (drop from s) from
          ∙ ap (λ (r : List ℕ). more (take (literal_run st 0 (drop from s)) (drop from s)) (read_units st (from + literal_run st 0 (drop from s)) 0 r)) (drop-drop (literal_run st 0 (drop from s)) from s)
          ∙ ap (λ (k : ℕ). more (take (literal_run st 0 (drop from s)) (drop from s)) (read_units st k 0 (drop k s))) (sym ee);
    }

pub takes_inside : (st : Style) (s : List ℕ) (at n m : ℕ) → at ≤ length s → Takes st (drop at s) n m → (at + n ≤ length s) × (0 < n)
takes_inside st s at n m h u = (omega (arith, (took_size st (drop at s) n u.bytes u.is).1, length-drop at s), (took_size st (drop at s) n u.bytes u.is).0)

pub counted_on : {st : Style} {s : List ℕ} {from at spare : ℕ} → Counted st s from at spare → {n m : ℕ} (k : ℕ) → Takes st (drop at s) n m → m + k ≡ n → Counted st s from (at + n) (spare + k)
counted_on {st} {s} {from} {at} {spare} c {n} {m} k u e =
    record {
      done = c.done ++ u.bytes;
      inside = (takes_inside st s at n m c.inside u).0;
      count = omega (arith, c.count, u.count, length-append c.done u.bytes);
      same = read_on st (read_units st from 0 (drop from s)) s c.done at n u.bytes c.same u.is;
    }

-- plain bytes
plains_then : {st : Style} {s : List ℕ} {from at spare : ℕ} (n : ℕ) → Counted st s from at spare → at + n ≤ length s
    → ((j : ℕ) → at ≤ j → j < at + n → is_odd (get_or s j 0) ≡ false) → Counted st s from (at + n) spare
plains_then {st} {s} {from} {at} {spare} zero c h f = subst (λ (k : ℕ). Counted st s from k spare) (let z : at ≡ at + 0 = omega arith in z) c
plains_then {st} {s} {from} {at} {spare} (suc n) c h f =
    let i : Counted st s from (at + n) spare = plains_then n c (omega arith) (λ j a b. f j a (omega arith)) in
    let u : unit_at st (drop (at + n) s) ≡ took 1 (get_or s (at + n) 0 ∷ []) = plain_unit st s (at + n) (omega arith) _ refl (not_odd _ (f (at + n) (omega arith) (omega arith))) in
    let t : Takes st (drop (at + n) s) 1 1 = record { bytes = get_or s (at + n) 0 ∷ []; is = u; count = refl } in
    let q : at + n + 1 ≡ at + suc n = omega arith in
    let z : spare + 0 ≡ spare = omega arith in
    rw (q, z) at (counted_on i 0 t refl)

pub over_plains : {st : Style} {s : List ℕ} {from at spare to : ℕ} → Counted st s from at spare → Plains s at to → Counted st s from to spare
over_plains {st} {s} {from} {at} {spare} {to} c p =
    let q : at + (to - at) ≡ to = omega (arith, p.onward) in
    subst (λ (k : ℕ). Counted st s from k spare) q
    (plains_then (to - at) c (omega (arith, p.onward, p.inside)) (λ j a b. p.plain j a (omega (arith, p.onward))))

-- one unit in code
pub ok_is : {u : Result Found Refusal} {x y : Found} → u ≡ Ok x → x ≡ y → u ≡ Ok y
ok_is e f = e ∙ ap (λ (z : Found). Ok z) f

module _ (st : Style) (r : List ℕ) (u : Result Found Refusal) (i : unit_of u ≡ unit_at st r) (f : FewOf u) where
  pub took_takes : (n : ℕ) (few : Few) → u ≡ Ok (Took n few) → Takes st r n few.count
  took_takes n few e =
      record { bytes = few_of few; is = sym i ∙ ap unit_of e; count = length-take-le few.count (few.a ∷ few.b ∷ few.c ∷ few.d ∷ []) (took_few u n few e f) }

  pub took_less : (n : ℕ) (few : Few) → u ≡ Ok (Took n few) → few.count ≤ n
  took_less n few e =
      let l : length (few_of few) ≡ few.count = length-take-le few.count (few.a ∷ few.b ∷ few.c ∷ few.d ∷ []) (took_few u n few e f) in
      omega (arith, l, (took_raw st r n (few_of few) (sym i ∙ ap unit_of e)).0)

module _ {st : Style} {s : List ℕ} {from at spare : ℕ} (c : Counted st s from at spare) (u : Result Found Refusal) (i : unit_of u ≡ unit_at st (drop at s)) where
  pub closed : u ≡ Ok Close → ended_at (at + 1) (at - from - spare) ≡ token_of (read_units st from 0 (drop from s))
  closed e =
      let l : at - from - spare ≡ length (c.done ++ []) = omega (arith, c.count, length-append c.done []) in
      ap (λ (n : ℕ). ended_at (at + 1) n) l
      ∙ ap token_of (sym (c.same ∙ ap (more c.done) (read_closes st at (drop at s) (sym i ∙ ap unit_of e))))

  pub failed : (refusal : Refusal) → u ≡ Err refusal → (f : Refused) → f ≡ refused_at refusal at → failed_at f ≡ token_of (read_units st from 0 (drop from s))
  failed refusal e f q =
      ap failed_at q ∙ ap token_of (sym (c.same ∙ ap (more c.done) (read_fault st at (drop at s) refusal (sym i ∙ ap unit_of e))))

bit_none : (b : Bool) → bit b ≡ 0 → b ≡ false
bit_none true e = absurd (omega arith)
bit_none false e = refl

-- no mark at all
pub none_marked : (g : ℕ → Bool) (w : ℕ) → w ≡ word (λ k. bit (g k)) 8 → w ≡ 0 → First g 8 8
none_marked g w e z =
    record { inside = omega arith; before = λ k h. bit_none (g k) (word_none (λ k. bit (g k)) 8 (sym e ∙ z) k h); stop = λ h. absurd (omega arith) }

pub no_plains : (s : List ℕ) (from : ℕ) → from ≤ length s → Plains s from from
no_plains s from h = record { onward = omega arith; inside = h; plain = λ j a b. absurd (omega arith) }

pub eight_plains : (s : List ℕ) (from at k : ℕ) → Plains s from at → at + 8 ≤ length s → First (λ j. is_odd (get_or s (at + j) 0)) 8 k → Plains s from (at + k)
eight_plains s from at k p h f =
    record {
      onward = omega (arith, p.onward);
      inside = omega (arith, f.inside);
      plain = λ j a b. split (ltb j at) (λ q. p.plain j a (ltb-true j at q))
          (λ q. let l : at ≤ j = ltb-false j at q in let e : at + (j - at) ≡ j = omega arith in
          rw e at (f.before (j - at) (omega arith)));
    }
