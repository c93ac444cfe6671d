-- By the opening mark (Quoting).
use Rattle.string_tokens.proofs.Quoting.{mark_is, unmarked_judged}
use Rattle.string_tokens.proofs.quoted.quoted.Goals as goal

pub behind-requires : goal.behind-requires
behind-requires c = mark_is _ _ c.mark_at.ensures _ c.in-Some.is

pub returns-in-None : goal.returns-in-None
returns-in-None c = unmarked_judged _ _ c.mark_at.ensures c.in-None.is _ c.at.ensures
