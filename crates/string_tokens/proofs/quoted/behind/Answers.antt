-- The run ends at the closing quote, or the units decide (Quoting).
use mathlib.Core.Path.{sym, ap, ◌∙◌}
use Rattle.std.specs.Prelude.{Err}
use Rattle.std.proofs.lemmas.Result.{err_from_is_err_and}
use Rattle.prelude.specs.declared.refusals.Refused.{Refused}
use Rattle.string_tokens.proofs.Quoting.{mark_fits, plain_judged, slashed_judged, faulty_judged}
use Rattle.string_tokens.proofs.quoted.behind.Goals as goal

pub inner_run-e-requires : goal.inner_run-e-requires
inner_run-e-requires c = mark_fits _ _ _ c.requires

pub returns-then-byte_at-quote_of : goal.returns-then-byte_at-quote_of
returns-then-byte_at-quote_of c = plain_judged _ _ _ c.requires _ c.inner_run-e.ensures (sym c.byte_at.ensures ∙ c.if-byte_at-quote_of.true ∙ c.quote_of.ensures)

pub counted-requires : goal.counted-requires
counted-requires c = (mark_fits _ _ _ c.requires, c.inner_run-e.ensures)

pub returns-in_err-token : goal.returns-in_err-token
returns-in_err-token c =
    let p = err_from_is_err_and c.from_residual.result c.from_residual.ensures.1 in
    faulty_judged _ _ _ c.requires _ c.inner_run-e.ensures _ c.counted.ensures _ c.in_err-token.was _ (p.1 ∙ ap (λ (f : Refused). Err f) p.2)

pub returns : goal.returns
returns c =
    slashed_judged _ _ _ c.requires _ c.inner_run-e.ensures _ c.counted.ensures _ (λ z. c.if-byte_at-quote_of.false (c.byte_at.ensures ∙ z ∙ sym c.quote_of.ensures)) c.in_ok-token.was
