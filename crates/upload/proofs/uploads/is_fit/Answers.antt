-- The tests of `fit_state`, in its order.
use borrow.Author.Tests.{le-leb, lt-leb}
use Rattle.upload.specs.Calls.{fit_state}
use Rattle.upload.proofs.Values.{fit_rest}
use Rattle.upload.proofs.uploads.is_fit.Goals as goal

pub returns-then-line-lt-LINE_MAX : goal.returns-then-line-lt-LINE_MAX
unfolding fit_state
returns-then-line-lt-LINE_MAX c = simp (lt-leb _ _ c.if-line-lt-LINE_MAX.true)

pub returns-then-s-gt-LINE_MAX : goal.returns-then-s-gt-LINE_MAX
unfolding fit_state
returns-then-s-gt-LINE_MAX c = simp (le-leb _ _ c.if-line-lt-LINE_MAX.false, lt-leb _ _ c.if-s-gt-LINE_MAX.true)

pub returns-then-s-gt-UPLOAD_MAX : goal.returns-then-s-gt-UPLOAD_MAX
unfolding fit_state
returns-then-s-gt-UPLOAD_MAX c = simp (le-leb _ _ c.if-line-lt-LINE_MAX.false, le-leb _ _ c.if-s-gt-LINE_MAX.false, lt-leb _ _ c.if-s-gt-UPLOAD_MAX.true)

pub returns-then-s : goal.returns-then-s
unfolding fit_state
returns-then-s c = simp (le-leb _ _ c.if-line-lt-LINE_MAX.false, le-leb _ _ c.if-s-gt-LINE_MAX.false, le-leb _ _ c.if-s-gt-UPLOAD_MAX.false, lt-leb _ _ c.if-s.true)

pub returns : goal.returns
returns c = fit_rest _ _ _ c.if-line-lt-LINE_MAX.false c.if-s-gt-LINE_MAX.false c.if-s-gt-UPLOAD_MAX.false c.if-s.false
