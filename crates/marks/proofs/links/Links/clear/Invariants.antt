use Rattle.marks.proofs.MarkLaws.{Clearing}
use Rattle.marks.proofs.links.Links.clear.Given as goal

abbrev pub invariant-loop-k : goal.invariant-loop-k
invariant-loop-k l = Clearing l.initial.self l.self l.k
