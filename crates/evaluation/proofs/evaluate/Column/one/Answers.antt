use Rattle.evaluation.proofs.PlaceLaws.{one_ready, one_done}
use Rattle.evaluation.proofs.evaluate.Column.one.Goals as goal

pub apply_one-requires : goal.apply_one-requires
apply_one-requires c = one_ready _ _ c.requires c.width_on.ensures c.number.ensures

pub returns : goal.returns
returns c = one_done _ _ c.requires c.width_on.ensures c.number.ensures c.apply_one.ensures
