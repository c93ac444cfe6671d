-- How a run ends, by what the system says of printing; and a refusal by its position.
-- Assumes nothing.
use Prim.Native.Nat.{ℕ}
use mathlib.Core.Bool.{true}
use mathlib.Core.List.{List}
use mathlib.Core.Path.{◌≡◌, refl, ap, ◌∙◌}
use Rattle.std.specs.Prelude.{ℤ, Option, Some, None, Result, Ok, Err, IsOk, IsErr}
use Rattle.positions.specs.declared.Position.{Position}
use Rattle.positions.specs.Positions.{position_of}
use Rattle.messages.specs.declared.Spot.TheVariants.{Text}
use Rattle.command_outputs.specs.declared.outcomes.Outcome.{Outcome}
use Rattle.command_outputs.specs.declared.outcomes.Outcome.TheVariants.{Done, Refused, Long, Mixed, Misused, Unread, Unwritten}
use Rattle.command_outputs.specs.declared.pages.Page.{Page}
use Rattle.command_outputs.specs.Outcomes.{is_unwritten, refused_at, is_printed}
use Rattle.command_outputs.specs.Pages.{failure_outcome, page_outcome}

pub refused_there : (text : List ℕ) (number place : ℕ) (p : Position) → p ≡ position_of text place → Refused number (Text p.line p.column) place ≡ refused_at text number place
refused_there text number place p e = ap (λ (q : Position). Refused number (Text q.line q.column) place) e

unwritten : (o : Outcome) → is_unwritten o ≡ true → is_printed o ≡ true
unwritten Done e = refl
unwritten (Refused number spot place) e = e
unwritten (Long size) e = e
unwritten (Mixed line) e = e
unwritten (Misused wrong) e = e
unwritten (Unread error) e = e
unwritten (Unwritten error) e = refl

pub ended_printed : {T E : Type 0} (printed : Result T E) (o : Outcome) → (IsOk printed → o ≡ Done) × (IsErr printed → is_unwritten o ≡ true) → is_printed o ≡ true
ended_printed (Ok x) o p = ap is_printed (p.0 refl)
ended_printed (Err e) o p = unwritten o (p.1 refl)

by_failure : (f : Option ℤ) → is_printed (failure_outcome f) ≡ true
by_failure None = refl
by_failure (Some error) = refl

pub page_printed : (p : Page) (o : Outcome) → o ≡ page_outcome p → is_printed o ≡ true
unfolding page_outcome
page_printed p o e = ap is_printed e ∙ by_failure p.failure
