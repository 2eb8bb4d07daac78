use Rattle.std.specs.Iterator.Adapters.{zip_first, zip_second}
use Rattle.std.specs.Slice.Iter.{iter_rest}
use Rattle.store.specs.Lookup.{gates}
use Rattle.shift_circuits.proofs.ShiftLaws.{Staging}
use Rattle.shift_circuits.proofs.shift.stages.Given as goal

abbrev pub invariant-loop-s : goal.invariant-loop-s
invariant-loop-s g l =
    Staging (g.D.Direction.shifted l.direction (gates l.lookup)) l.x.items l.y.items l.res.items (zip_first l.s-iterator) (iter_rest (zip_second l.s-iterator))
