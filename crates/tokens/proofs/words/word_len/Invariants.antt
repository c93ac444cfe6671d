-- The invariant: the place and the word's bytes behind it end where the word does (Runs).
use mathlib.Core.Path.{◌≡◌}
use Prim.Native.Nat.{◌+◌, ◌-◌, ◌≤◌}
use lib.ListN.{length}
use Rattle.tokens.specs.Words.{is_word}
use Rattle.tokens.proofs.Runs.{behind}
use Rattle.tokens.proofs.words.word_len.Given as goal

abbrev pub invariant-loop-at : goal.invariant-loop-at
invariant-loop-at l =
    (l.from ≤ l.at) × (l.at ≤ length l.s) × (l.at + behind is_word l.s l.at ≡ l.from + behind is_word l.s l.from)

abbrev pub decreases-loop-at : goal.decreases-loop-at
decreases-loop-at l =
    length l.s - l.at
