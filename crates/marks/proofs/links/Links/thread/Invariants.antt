use lib.Dec.{T}
use Rattle.marks.specs.Links.{is_marked}
use Rattle.marks.proofs.Threading.{Threading}
use Rattle.marks.proofs.links.Links.thread.Given as goal

abbrev pub invariant-loop-k : goal.invariant-loop-k
invariant-loop-k l = Threading l.initial.self l.asked l.self l.next l.k × T (is_marked l.initial.self l.asked)
