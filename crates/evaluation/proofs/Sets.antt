-- The laws that goals of this crate want.
use Rattle.evaluation.proofs.ListLaws.{first_below, folding_done, count_some}
use Rattle.evaluation.proofs.PlaceLaws.{first_low}
use Rattle.evaluation.proofs.TermLaws.{standing, own_at, true_at, false_at, const_at}

pub ruleset laws = (first_below, folding_done, count_some, first_low, standing, own_at, true_at, false_at, const_at)
