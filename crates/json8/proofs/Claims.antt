-- The claims of specs/Claims.antt, each from the law that has it.
-- Assumes nothing.
use Prim.Native.Nat.{ℕ, ◌≤◌}
use mathlib.Core.List.{List}
use mathlib.Core.Path.{◌≡◌, refl, ap}
use native.Mathlib.Omega.{arith}
use lib.Dec.{ltb}
use lib.ListN.{length}
use Rattle.prelude.proofs.Picks.{pick_case}
use Rattle.prelude.specs.Refusals.{number_of, too_long, cut_off, no_room}
use Rattle.prelude.specs.Limits.{text_max}
use Rattle.json8.specs.Nodes.{Read, got, refused}
use Rattle.json8.specs.Leaves.{string, word, number, key}
use Rattle.json8.specs.Values.{value_of, group}
use Rattle.json8.specs.Read.{read_all, fitted, read_of}
use Rattle.json8.specs.Claims.{TablesFit, ValuesProgress, RefusalsInside, RefusalsNumbered, FaultsPassedUp, TextsCutOffAtEnd, FaultsInOrder}
use Rattle.json8.proofs.Limited.{limited_full}
use Rattle.json8.proofs.Numbers.{text_numbered, passed_up}
use Rattle.json8.proofs.Fair.{Fair, value_fair, read_fair}

pub tables_fit : TablesFit
tables_fit s l tag ns bs e =
    let f : Fair 1 0 0 s (got l tag ns bs) = rw e at (read_fair s) in (omega (arith, f.2), omega (arith, f.1, f.3))

pub values_progress : ValuesProgress
values_progress left p n m s l tag ns bs h e =
    let f : Fair 1 p n s (got l tag ns bs) = rw e at (value_fair left p n m s h) in (omega (arith, f.0), f.1)

-- a place of a refusal
abbrev Inside : List ℕ → Read → Type 0
Inside s (got l tag ns bs) = Unit
Inside s (refused refusal at) = (at ≤ length s) × (refusal ≡ cut_off → at ≡ length s)

fair_inside : (s : List ℕ) (nodes room : ℕ) (r : Read) → Fair 1 0 0 s r → Inside s (fitted nodes room r)
fair_inside s nodes room (got l tag ns bs) f =
    pick_case (Inside s) (ltb nodes (length ns)) (refused no_room 0) _ (λ e. (omega arith, λ c. omega (arith, ap number_of c)))
    (λ e. pick_case (Inside s) (ltb room (length bs)) (refused no_room 0) (got l tag ns bs) (λ g. (omega arith, λ c. omega (arith, ap number_of c))) (λ g. tt))
fair_inside s nodes room (refused refusal at) f = (omega (arith, f.0), λ c. omega (arith, f.1 c))

all_inside : (nodes room : ℕ) (s : List ℕ) → Inside s (read_of nodes room s)
unfolding read_of
all_inside nodes room s =
    pick_case (Inside s) (ltb text_max (length s)) (refused too_long 0) (fitted nodes room (read_all s)) (λ e. (omega arith, λ c. omega (arith, ap number_of c)))
    (λ e. fair_inside s nodes room (read_all s) (read_fair s))

pub refusals_inside : RefusalsInside
refusals_inside nodes room s refusal at e = (rw e at (all_inside nodes room s)).0

pub refusals_numbered : RefusalsNumbered
refusals_numbered nodes room s refusal at e = rw e at (text_numbered nodes room s)

pub faults_passed_up : FaultsPassedUp
faults_passed_up = passed_up

pub texts_cut_off_at_end : TextsCutOffAtEnd
texts_cut_off_at_end nodes room s at e = (rw e at (all_inside nodes room s)).1 refl

pub faults_in_order : FaultsInOrder
unfolding value_of group word number key
faults_in_order left p n m s = (
  λ e. rw e,
  λ e v. rw (e, v),
  λ e. rw e,
  λ e v. rw (e, v),
  λ e. rw e,
  λ e. rw e,
  λ e h. rw e (limited_full string p n m s h),
)
