-- Sixty-four times Str (Whole).
use Rattle.tsv8_cells.specs.Types.{all_strs}
use Rattle.tsv8.proofs.Whole.{all_are_strs}
use Rattle.tsv8.proofs.read.strs.Goals as goal

pub returns : goal.returns
unfolding all_strs
returns c = all_are_strs
