use Rattle.evaluation.proofs.PlaceLaws.{three_ready, three_done}
use Rattle.evaluation.proofs.evaluate.Column.three.Goals as goal

pub choice-requires : goal.choice-requires
choice-requires c = three_ready _ _ _ c.requires c.number.ensures c.number-2.ensures c.number-3.ensures

pub returns : goal.returns
returns c = three_done _ _ _ c.requires c.number.ensures c.number-2.ensures c.number-3.ensures c.choice.ensures
