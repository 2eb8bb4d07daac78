use Rattle.store.specs.Lookup.{gates}
use Rattle.shift_circuits.proofs.ShiftLaws.{ShlStage}
use Rattle.shift_circuits.proofs.shift.LeftDirection.stage.Given as goal

abbrev pub invariant-loop-i : goal.invariant-loop-i
invariant-loop-i l = ShlStage (gates l.lookup) l.s l.thresh l.y l.bits l.out.items l.i
