use Rattle.marks.proofs.MarkLaws.{listing_turn}
use Rattle.marks.proofs.links.Links.set_list.Goals as goal

pub loop-k-preserved : goal.loop-k-preserved
loop-k-preserved c = listing_turn c.loop-k.invariant c.in-Some.ensures.steps c.set.ensures
