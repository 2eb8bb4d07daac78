-- `width_on`: `true` and `false` are Bools, and a row has its term's width.
use Rattle.store.proofs.Sorting.{low_width}
use Rattle.store.proofs.shelf.Terms.width_on.Goals as goal

pub returns-then-k-lt-FIRST_PLACE : goal.returns-then-k-lt-FIRST_PLACE
returns-then-k-lt-FIRST_PLACE c = low_width c.args.self.now.shelf c.args.place c.if-k-lt-FIRST_PLACE.true
