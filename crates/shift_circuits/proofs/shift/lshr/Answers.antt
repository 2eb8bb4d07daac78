use Rattle.shift_circuits.proofs.ShiftLaws.{lshr_whole}
use Rattle.shift_circuits.proofs.shift.lshr.Goals as goal

pub returns : goal.returns
returns c = lshr_whole _ _ c.args.y.now.items c.args.x.now.items c.stages-shifted.ensures c.bounded.ensures
