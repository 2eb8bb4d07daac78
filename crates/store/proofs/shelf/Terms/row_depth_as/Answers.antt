-- `row_depth_as`: what the row's record and its measure say.
use mathlib.Core.Path.{refl}
use Rattle.store.proofs.Sorting.{row_depth}
use Rattle.store.proofs.shelf.Terms.row_depth_as.Goals as goal

pub returns : goal.returns
returns g c = row_depth c.args.self.now.shelf c.args.k c.requires.kept refl refl c.row_as-row.ensures.at_is c.depth_in.ensures
    c.row_as-row.ensures.kind_is c.row_as-row.ensures.measure_is
