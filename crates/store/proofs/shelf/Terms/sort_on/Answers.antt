-- `sort_on`: a term that has no width is a Bool.
use Rattle.store.proofs.Sorting.{place_bool}
use Rattle.store.proofs.shelf.Terms.sort_on.Goals as goal

pub returns-in-0 : goal.returns-in-0
returns-in-0 c = place_bool c.args.self.now.shelf c.args.place c.requires c.width_on.ensures c.in-0.is
