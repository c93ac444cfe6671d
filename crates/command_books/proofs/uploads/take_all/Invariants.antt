-- The buffers keep their lengths.
use Rattle.std.proofs.Common.{◌≡◌, length}
use Rattle.command_books.proofs.uploads.take_all.Given as goal

abbrev pub invariant-loop : goal.invariant-loop
invariant-loop o l =
    (length l.piece ≡ length l.initial.piece) × (length l.line ≡ length l.initial.line) × (length l.out ≡ length l.initial.out) × (length l.page ≡ length l.initial.page) × (length l.shown ≡ length l.initial.shown)
