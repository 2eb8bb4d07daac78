-- `depth_at`: `true` and `false` have depth 0, and a row has its term's depth.
use borrow.Author.Rules.{rules}
use Rattle.store.proofs.Sorting.{low_depth}
use Rattle.store.proofs.gates.Kept.depth_at.Goals as goal

pub returns-then-k-lt-FIRST_PLACE : goal.returns-then-k-lt-FIRST_PLACE
returns-then-k-lt-FIRST_PLACE c = record { value = low_depth c.args.self.now.shelf c.args.place c.if-k-lt-FIRST_PLACE.true; below = search rules }
