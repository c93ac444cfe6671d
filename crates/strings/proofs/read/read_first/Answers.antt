-- The first pass has no room and judges; what it judged is what the second stores (Tokens).
use mathlib.Core.Path.{ap, ◌∙◌}
use Rattle.std.specs.Prelude.{Err}
use Rattle.std.proofs.lemmas.Result.{err_from_is_err_and}
use Rattle.strings.specs.Read.{read_token}
use Rattle.strings.proofs.Tokens.{token_wrong, token_tight, token_good}
use Rattle.strings.proofs.UnitBytes.{token_stored}
use Rattle.strings.proofs.read.read_first.Goals as goal

pub returns-in_err-judged : goal.returns-in_err-judged
returns-in_err-judged c =
    let p = err_from_is_err_and c.from_residual.result c.from_residual.ensures.1 in
    let r = token_wrong c.args.out.now (read_token c.args.s.now) c.token.new.out c.token.auto.out _ c.in_err-judged.ensures.is in
    record { answer = p.1 ∙ ap Err p.2 ∙ r.0; stored = r.1 }

pub returns-then-judged-out : goal.returns-then-judged-out
returns-then-judged-out c =
    let r = token_tight c.args.out.now (read_token c.args.s.now) c.token.new.out c.token.auto.out _ c.in_ok-judged.ensures.is c.if-judged-out.true in
    record { answer = ap Err c.at.ensures ∙ r.0; stored = r.1 }

pub returns : goal.returns
returns c =
    let r = token_good c.args.out.now (read_token c.args.s.now) c.token.new.out c.token.auto.out _ c.in_ok-judged.ensures.is _ c.if-judged-out.false (token_stored _ _ _ c.token-2.ensures.stored) in record { answer = r.0; stored = r.1 }
