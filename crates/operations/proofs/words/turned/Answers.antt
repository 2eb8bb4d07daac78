use Rattle.operations.proofs.MoveLaws.{turned_both, turned_fits}
use Rattle.operations.proofs.words.turned.Goals as goal

pub overflow_add-result : goal.overflow_add-result
overflow_add-result c = record { fits = turned_fits _ _ _ _ c.requires.fits c.requires.inside c.low.ensures }

pub returns : goal.returns
returns c = turned_both _ _ _ _ c.requires.fits c.requires.inside c.low.ensures
