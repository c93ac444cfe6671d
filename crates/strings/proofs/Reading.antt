-- The reader's loop: the whole reading is what is decoded already and then the reading of the rest, a run and a unit at a time.
-- Assumes nothing.
use Prim.Native.Nat.{ℕ, ◌+◌, ◌-◌, ◌≤◌, ◌<◌, zero-le}
use mathlib.Core.List.{List, [], ◌∷◌, ◌++◌, append_assoc}
use mathlib.Core.Path.{◌≡◌, refl, sym, ap, ◌∙◌, subst}
use native.Mathlib.Omega.{arith}
use lib.ListN.{length, take, drop, length-drop, length-append}
use Rattle.std.specs.Prelude.{Result, Ok, Err}
use Rattle.prelude.specs.declared.refusals.Refusal.{Refusal}
use Rattle.prelude.specs.declared.refusals.Refused.{Refused}
use Rattle.prelude.specs.Refusals.{refused_at}
use lib.Seq.{sets, drop-drop, length-take-le}
use Rattle.prelude.proofs.Cases.{never}
use Rattle.prelude.proofs.Stores.{sets_append}
use Rattle.notation.specs.declared.styles.Style.{Style}
use Rattle.notation.specs.declared.styles.Unit.{Unit as Found}
use Rattle.notation.specs.declared.styles.Unit.TheVariants.{Close, Took}
use Rattle.utf8.specs.declared.encoding.Few.{Few}
use Rattle.utf8.specs.Utf8.{few_of}
use Rattle.notation.specs.Styles.{StringUnit, close, took, fault, unit_of, FewOf}
use Rattle.notation.specs.Literals.{literal_run}
use Rattle.units.specs.Units.{unit_at}
use Rattle.notation.proofs.LiteralLaws.{run_fits}
use Rattle.units.proofs.Sizes.{took_size, took_raw}
use Rattle.strings.specs.declared.answers.Token.{Token}
use Rattle.strings.specs.declared.read.Turned.{Turned}
use Rattle.strings.specs.declared.read.Turned.TheVariants.{On, Finish}
use Rattle.strings.specs.Read.{StringRead, accepted, refused, more, read_units, token_at, token_of}
use Rattle.strings.specs.inner.Turns.{unit_turn, unit_bytes, turn_of, turn_bytes, units_bytes, Advanced}
use Rattle.strings.proofs.Steps.{read_closes, read_fault, read_took, more_none, more_more}
use Rattle.strings.proofs.Runs.{run_law}
use Rattle.strings.proofs.UnitBytes.{bytes_close, bytes_fault, bytes_took, bytes_then, bytes_run}

pub took_few : (u : Result Found Refusal) (n : ℕ) (few : Few) → u ≡ Ok (Took n few) → FewOf u → few.count ≤ 4
took_few u n few e h = rw e at h

few_length : (few : Few) → few.count ≤ 4 → few.count ≡ length (few_of few)
few_length few h = sym (length-take-le few.count (few.a ∷ few.b ∷ few.c ∷ few.d ∷ []) h)

-- one unit in code
abbrev TurnedTo : StringUnit → ℕ → ℕ → List ℕ → Result Turned Refused → List ℕ → Type 0
TurnedTo u at o out x new = (x ≡ unit_turn u at o) × (new ≡ sets out o (unit_bytes u))

module _ (st : Style) (r : List ℕ) (at o : ℕ) (out : List ℕ) (u : Result Found Refusal) (i : unit_of u ≡ unit_at st r) where
  pub on_close : u ≡ Ok Close → TurnedTo (unit_at st r) at o out (Ok (Finish (at + 1) o)) out
  on_close e = subst (λ (v : StringUnit). TurnedTo v at o out (Ok (Finish (at + 1) o)) out) (sym (ap unit_of e) ∙ i) (refl, refl)

  pub on_took : (n : ℕ) (few : Few) (new : List ℕ) → u ≡ Ok (Took n few) → FewOf u → new ≡ sets out o (few_of few)
      → TurnedTo (unit_at st r) at o out (Ok (On (at + n) (o + few.count))) new
  on_took n few new e f w =
      subst (λ (v : StringUnit). TurnedTo v at o out (Ok (On (at + n) (o + few.count))) new) (sym (ap unit_of e) ∙ i)
      (ap (λ (k : ℕ). Ok (On (at + n) (o + k))) (few_length few (took_few u n few e f)), w)

  pub on_fault : (refusal : Refusal) → u ≡ Err refusal → TurnedTo (unit_at st r) at o out (Err (refused_at refusal at)) out
  on_fault refusal e = subst (λ (v : StringUnit). TurnedTo v at o out (Err (refused_at refusal at)) out) (sym (ap unit_of e) ∙ i) (refl, refl)

-- a unit stays in the text
pub took_inside : (st : Style) (s : List ℕ) (at n : ℕ) (few : Few) (u : Result Found Refusal) → unit_of u ≡ unit_at st (drop at s) → u ≡ Ok (Took n few) → at ≤ length s → at + n ≤ length s
took_inside st s at n few u i e h =
    omega (arith, (took_size st (drop at s) n (few_of few) (sym i ∙ ap unit_of e)).1, length-drop at s)

-- a run and a unit in code
module _ (st : Style) (s : List ℕ) (at o e : ℕ) (out o1 : List ℕ) (h : at ≤ length s) (ee : e ≡ at + literal_run st 0 (drop at s)) where
  abbrev skip : ℕ
  skip = literal_run st 0 (drop at s)

  skip_is : e - at ≡ skip
  skip_is = omega (arith, ee)

  pub run_inside : e ≤ length s
  run_inside = omega (arith, ee, run_fits st (drop at s), length-drop at s)

  rest_is : drop skip (drop at s) ≡ drop e s
  rest_is = drop-drop skip at s ∙ ap (λ (k : ℕ). drop k s) (sym ee)

  pub run_turned : (x : Result Turned Refused) (new : List ℕ) → o1 ≡ sets out o (take (e - at) (drop at s)) → TurnedTo (unit_at st (drop e s)) e (o + (e - at)) o1 x new
      → (x ≡ turn_of st (drop at s) at o) × (new ≡ sets out o (turn_bytes st (drop at s)))
  unfolding turn_of turn_bytes
  run_turned x new w (ex, en) =
      let l : length (take (e - at) (drop at s)) ≡ e - at = length-take-le (e - at) (drop at s) (omega (arith, skip_is, run_fits st (drop at s))) in (
        ex ∙ (λ i. unit_turn (unit_at st (sym rest_is i)) (ee i) (o + skip_is i)),
        en ∙ ap (λ (y : List ℕ). sets y (o + (e - at)) (unit_bytes (unit_at st (drop e s)))) w
            ∙ sets_append (take (e - at) (drop at s)) (unit_bytes (unit_at st (drop e s))) out o (o + (e - at)) (omega (arith, l))
            ∙ (λ i. sets out o (take (skip_is i) (drop at s) ++ unit_bytes (unit_at st (sym rest_is i)))),
      )

-- the loop's invariant: `done` is decoded and stored, and the rest is still to be read
pub record Kept (st : Style) (s out₀ : List ℕ) (from : ℕ) (out : List ℕ) (at o : ℕ) : Type 0 where
  pub done : List ℕ
  pub inside : at ≤ length s
  pub less : o ≤ at
  pub count : o ≡ length done
  pub stored : out ≡ sets out₀ 0 done
  pub same : read_units st from 0 (drop from s) ≡ more done (read_units st at 0 (drop at s))
  pub denoted : units_bytes st 0 (drop from s) ≡ done ++ units_bytes st 0 (drop at s)

pub begun : (st : Style) (s out : List ℕ) (from : ℕ) → from ≤ length s → Kept st s out from out from 0
begun st s out from h =
    record { done = []; inside = h; less = zero-le; count = refl; stored = refl; same = sym (more_none (read_units st from 0 (drop from s))); denoted = refl }

-- some more units
pub and_more : {st : Style} {s out₀ : List ℕ} {from : ℕ} {out : List ℕ} {at o : ℕ} → Kept st s out₀ from out at o
    → {to p : ℕ} {new : List ℕ} → Advanced st s at o out to p new → Kept st s out₀ from new to p
and_more {st} {s} {out₀} {from} {out} {at} {o} k {to} {p} {new} d =
    record {
      done = k.done ++ d.bytes;
      inside = d.inside;
      less = omega (arith, k.less, d.less, d.onward);
      count = omega (arith, k.count, d.count, length-append k.done d.bytes);
      stored = d.stored ∙ ap (λ (l : List ℕ). sets l o d.bytes) k.stored ∙ sets_append k.done d.bytes out₀ 0 o (omega (arith, k.count));
      same = k.same ∙ ap (more k.done) d.same ∙ more_more k.done d.bytes (read_units st to 0 (drop to s));
      denoted = bytes_then _ k.done _ d.bytes _ k.denoted d.denoted;
    }

module _ {st : Style} {s out₀ : List ℕ} {from : ℕ} {out : List ℕ} {at o : ℕ} (k : Kept st s out₀ from out at o)
    (x : Result Turned Refused) (new : List ℕ) (ex : x ≡ turn_of st (drop at s) at o) (en : new ≡ sets out o (turn_bytes st (drop at s))) where
  abbrev run : ℕ
  run = literal_run st 0 (drop at s)

  abbrev rest : List ℕ
  rest = drop run (drop at s)

  abbrev lit : List ℕ
  lit = take run (drop at s)

  abbrev all : StringRead
  all = read_units st from 0 (drop from s)

  lit_length : length lit ≡ run
  lit_length = length-take-le run (drop at s) (run_fits st (drop at s))

  step_is : (u : StringUnit) → unit_at st rest ≡ u → x ≡ unit_turn u (at + run) (o + run)
  unfolding turn_of
  step_is u e = ex ∙ ap (λ (v : StringUnit). unit_turn v (at + run) (o + run)) e

  new_is : (u : StringUnit) → unit_at st rest ≡ u → new ≡ sets out₀ 0 (k.done ++ (lit ++ unit_bytes u))
  unfolding turn_bytes
  new_is u e =
      en ∙ ap (λ (v : StringUnit). sets out o (lit ++ unit_bytes v)) e ∙ ap (λ (l : List ℕ). sets l o (lit ++ unit_bytes u)) k.stored
      ∙ sets_append k.done (lit ++ unit_bytes u) out₀ 0 o (omega (arith, k.count))

  -- behind the run
  behind : all ≡ more (k.done ++ lit) (read_units st (at + run) 0 rest)
  behind = k.same ∙ ap (more k.done) (run_law st (drop at s) at) ∙ more_more k.done lit (read_units st (at + run) 0 rest)

  bytes_behind : units_bytes st 0 (drop from s) ≡ k.done ++ (lit ++ units_bytes st 0 rest)
  bytes_behind = k.denoted ∙ ap (λ (l : List ℕ). k.done ++ l) (bytes_run st (drop at s))

  abbrev Moved : ℕ → ℕ → Type 0
  Moved next count = Kept st s out₀ from new next count × (at < next)

  move_took : (n : ℕ) (bs : List ℕ) → unit_at st rest ≡ took n bs → Moved (at + run + n) (o + run + length bs)
  move_took n bs e =
      let size = took_size st rest n bs e in
      let d : drop n rest ≡ drop (at + run + n) s =
      drop-drop n run (drop at s) ∙ drop-drop (run + n) at s ∙ ap (λ (i : ℕ). drop i s) (let z : at + (run + n) ≡ at + run + n = omega arith in z) in (
        record {
          done = k.done ++ (lit ++ bs);
          inside = omega (arith, size.1, length-drop run (drop at s), length-drop at s, k.inside, run_fits st (drop at s));
          less = omega (arith, (took_raw st rest n bs e).0, k.less);
          count = omega (arith, k.count, length-append k.done (lit ++ bs), length-append lit bs, lit_length);
          stored = new_is (took n bs) e;
          same = behind ∙ ap (more (k.done ++ lit)) (read_took st (at + run) rest n bs e)
              ∙ more_more (k.done ++ lit) bs (read_units st (at + run + n) 0 (drop n rest))
              ∙ (λ i. more (append_assoc k.done lit bs i) (read_units st (at + run + n) 0 (d i)));
          denoted = bytes_then _ k.done _ (lit ++ bs) _ bytes_behind
              (ap (λ (l : List ℕ). lit ++ l) (bytes_took st rest n bs e ∙ ap (λ (r : List ℕ). bs ++ units_bytes st 0 r) d)
              ∙ sym (append_assoc lit bs (units_bytes st 0 (drop (at + run + n) s))));
        },
        omega (arith, size.0),
      )

  pub moved : (next count : ℕ) → x ≡ Ok (On next count) → Moved next count
  moved next count h = go (unit_at st rest) refl
    where
      go : (u : StringUnit) → unit_at st rest ≡ u → Moved next count
      go close e = let z : Ok (On next count) ≡ unit_turn close (at + run) (o + run) = sym h ∙ step_is close e in never (cc)
      go (took n bs) e =
          let z : unit_turn (took n bs) (at + run) (o + run) ≡ Ok (On next count) = sym (step_is (took n bs) e) ∙ h in
          let a : at + run + n ≡ next = cc in
          let b : o + run + length bs ≡ count = cc in
          rw (a, b) at (move_took n bs e)
      go (fault refusal) e = let z : Ok (On next count) ≡ Err (refused_at refusal (at + run)) = sym h ∙ step_is (fault refusal) e in never (cc)

  abbrev Last : Result Token Refused → Type 0
  Last r = (r ≡ token_of all) × (new ≡ sets out₀ 0 (units_bytes st 0 (drop from s)))

  last_of : (r : Result Token Refused) (v : StringRead) (u : StringUnit) → all ≡ v → r ≡ token_of v → unit_at st rest ≡ u → units_bytes st 0 rest ≡ unit_bytes u → Last r
  last_of r v u e w i b = (w ∙ ap token_of (sym e), new_is u i ∙ ap (sets out₀ 0) (sym (bytes_behind ∙ ap (λ (l : List ℕ). k.done ++ (lit ++ l)) b)))

  pub ended : (end count : ℕ) → x ≡ Ok (Finish end count) → Last (Ok (token_at end count))
  ended end count h = go (unit_at st rest) refl
    where
      go : (u : StringUnit) → unit_at st rest ≡ u → Last (Ok (token_at end count))
      go close e =
          let z : Ok (Finish end count) ≡ unit_turn close (at + run) (o + run) = sym h ∙ step_is close e in
          let a : end ≡ at + run + 1 = cc in
          let b : count ≡ o + run = cc in
          let l : count ≡ length ((k.done ++ lit) ++ []) = omega (arith, b, k.count, length-append (k.done ++ lit) [], length-append k.done lit, lit_length) in
          last_of (Ok (token_at end count)) (accepted ((k.done ++ lit) ++ []) (at + run + 1)) close
          (behind ∙ ap (more (k.done ++ lit)) (read_closes st (at + run) rest e))
          (λ i. Ok (token_at (a i) (l i)))
          e (bytes_close st rest e)
      go (took n bs) e = let z : Ok (Finish end count) ≡ unit_turn (took n bs) (at + run) (o + run) = sym h ∙ step_is (took n bs) e in never (cc)
      go (fault refusal) e = let z : Ok (Finish end count) ≡ Err (refused_at refusal (at + run)) = sym h ∙ step_is (fault refusal) e in never (cc)

  pub failed : (f : Refused) → x ≡ Err f → Last (Err f)
  failed f h = go (unit_at st rest) refl
    where
      go : (u : StringUnit) → unit_at st rest ≡ u → Last (Err f)
      go close e = let z : Err f ≡ unit_turn close (at + run) (o + run) = sym h ∙ step_is close e in never (cc)
      go (took n bs) e = let z : Err f ≡ unit_turn (took n bs) (at + run) (o + run) = sym h ∙ step_is (took n bs) e in never (cc)
      go (fault m) e =
          let z : ◌≡◌ {A = Result Turned Refused} (Err f) (Err (refused_at m (at + run))) = sym h ∙ step_is (fault m) e in
          let a : f ≡ refused_at m (at + run) = cc in
          last_of (Err f) (refused m (at + run)) (fault m) (behind ∙ ap (more (k.done ++ lit)) (read_fault st (at + run) rest m e))
          (ap Err a) e (bytes_fault st rest m e)
