use Rattle.marks.proofs.Marking.{Marking}
use Rattle.marks.proofs.links.Links.down.Given as goal

abbrev pub invariant-loop-k : goal.invariant-loop-k
invariant-loop-k l = Marking l.initial.self l.asked l.self l.k
