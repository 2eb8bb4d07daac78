use Rattle.intern.specs.Given.{places, given_terms}
use Rattle.intern.proofs.Bools.{DeepeningBools}
use Rattle.intern.proofs.arguments.Arguments.deepest_bool.Given as goal

abbrev pub invariant-loop-i : goal.invariant-loop-i
invariant-loop-i l = DeepeningBools (given_terms l.self) (places l.self) l.most l.i
