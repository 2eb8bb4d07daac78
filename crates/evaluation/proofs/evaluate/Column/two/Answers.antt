use Rattle.evaluation.proofs.PlaceLaws.{two_ready, two_done}
use Rattle.evaluation.proofs.evaluate.Column.two.Goals as goal

pub apply_two-requires : goal.apply_two-requires
apply_two-requires c = two_ready c.args.op _ _ c.requires c.width_on.ensures c.number.ensures c.number-2.ensures

pub returns : goal.returns
returns c = two_done c.args.op _ _ c.requires c.width_on.ensures c.number.ensures c.number-2.ensures c.apply_two.ensures
