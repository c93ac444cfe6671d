-- The piece's bytes left fall.
use Rattle.std.proofs.Common.{◌≡◌, ◌-◌, length}
use Rattle.command_books.proofs.uploads.take_piece.Given as goal

abbrev pub invariant-loop-from : goal.invariant-loop-from
invariant-loop-from l =
    (length l.line ≡ length l.initial.line) × (length l.out ≡ length l.initial.out) × (length l.page ≡ length l.initial.page) × (length l.shown ≡ length l.initial.shown)

abbrev pub decreases-loop-from : goal.decreases-loop-from
decreases-loop-from l =
    length l.piece - l.from
