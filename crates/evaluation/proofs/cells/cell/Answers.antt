use Rattle.evaluation.specs.Cells.{cell_at}
use Rattle.evaluation.proofs.cells.cell.Goals as goal

pub returns : goal.returns
unfolding cell_at
returns c = c.value.ensures
