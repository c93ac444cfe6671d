-- Each pattern by its bound; every byte fits, since the code point is below 110000.
use borrow.Author.Rules.{rules}
use Rattle.utf8.specs.Utf8.{encode}
use Rattle.prelude.proofs.Picks.{picks}
use Rattle.utf8.proofs.encoding.encode.Goals as goal

pub returns-then-v-lt128 : goal.returns-then-v-lt128
unfolding encode
returns-then-v-lt128 c = record { is = search picks; few = search rules }

pub returns-then-v-lt2048 : goal.returns-then-v-lt2048
unfolding encode
returns-then-v-lt2048 c = record { is = search picks; few = search rules }

pub returns-then-v-lt65536 : goal.returns-then-v-lt65536
unfolding encode
returns-then-v-lt65536 c = record { is = search picks; few = search rules }

pub returns : goal.returns
unfolding encode
returns c = record { is = search picks; few = search rules }
