use Rattle.intern.specs.Given.{places, given_terms}
use Rattle.intern.proofs.Arguing.{Summing}
use Rattle.intern.proofs.arguments.Arguments.joined.Given as goal

abbrev pub invariant-loop-i : goal.invariant-loop-i
invariant-loop-i l = Summing (given_terms l.self) (places l.self) l.sum l.i
