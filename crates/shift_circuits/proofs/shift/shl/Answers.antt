use Rattle.shift_circuits.proofs.ShiftLaws.{shl_whole}
use Rattle.shift_circuits.proofs.shift.shl.Goals as goal

pub returns : goal.returns
returns c = shl_whole _ _ c.args.y.now.items c.args.x.now.items c.stages-shifted.ensures c.bounded.ensures
