-- The else case is not the one promised of.
use mathlib.Core.Bool.{Bool, true, false}
use mathlib.Core.Path.{◌≡◌, sym, ◌∙◌}
use Rattle.prelude.proofs.Cases.{never}
use Rattle.runs.proofs.blocks.place_of.Goals as goal

pub returns-else-found : goal.returns-else-found
returns-else-found c = λ e. let u : ◌≡◌ {A = Bool} true false = sym e ∙ c.if-found.false in never cc
