use Rattle.std.specs.Slice.Iter.{iter_rest}
use Rattle.store.specs.Lookup.{gates}
use Rattle.shift_circuits.proofs.ShiftLaws.{ShrStage}
use Rattle.shift_circuits.proofs.shift.RightDirection.stage.Given as goal

abbrev pub invariant-loop-bit : goal.invariant-loop-bit
invariant-loop-bit l = ShrStage (gates l.lookup) l.self.fill l.s l.y l.bits l.out.items l.bit-index (iter_rest l.above)
