-- `start`: a cleared memory has no row.
use Rattle.intern.proofs.Growing.{started}
use Rattle.intern.proofs.start.Goals as goal

pub returns : goal.returns
returns c = started c.requires c.clear.ensures
