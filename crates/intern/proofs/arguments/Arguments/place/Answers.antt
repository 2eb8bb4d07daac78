-- `place`: argument i is the number of a kept term.
use native.Mathlib.Omega.{arith}
use Rattle.store.proofs.Arguments.{count_length, operand_below}
use Rattle.store.proofs.Keeping.{store_of}
use Rattle.intern.proofs.arguments.Arguments.place.Goals as goal

pub operand-requires-clause-below : goal.operand-requires-clause-below
operand-requires-clause-below c = let a = c.args.self.now in omega (arith, count_length a.kept.lookup.job.now a.list)

pub returns-clause-below : goal.returns-clause-below
returns-clause-below c = let a = c.args.self.now in
    operand_below (record { store = store_of a.kept; placed = a.placed; below = a.below }) c.args.i
    (omega (arith, count_length a.kept.lookup.job.now a.list)) c.operand.ensures
