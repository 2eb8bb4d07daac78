-- `back`: the first rows stay, so the list's first part stays.
use Rattle.intern.proofs.Growing.{cut_back}
use Rattle.intern.proofs.back.Goals as goal

pub returns : goal.returns
returns c = let p = c.requires in cut_back p.kept p.some p.within c.drop_rows.ensures
