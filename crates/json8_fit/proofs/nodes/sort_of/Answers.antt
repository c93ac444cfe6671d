-- By the kind.
use Rattle.prelude.proofs.Picks.{picks}
use Rattle.json8_fit.specs.inner.Steps.{sort_of}
use Rattle.json8_fit.proofs.nodes.sort_of.Goals as goal

pub returns-then-kind-eq7 : goal.returns-then-kind-eq7
unfolding sort_of
returns-then-kind-eq7 c = search picks

pub returns-then-kind-eq8 : goal.returns-then-kind-eq8
unfolding sort_of
returns-then-kind-eq8 c = search picks

pub returns : goal.returns
unfolding sort_of
returns c = search picks
