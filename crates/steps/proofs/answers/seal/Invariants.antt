use Rattle.steps.proofs.Writing.{Sealing}
use Rattle.steps.proofs.answers.seal.Given as goal

abbrev pub invariant-loop-k : goal.invariant-loop-k
invariant-loop-k l = Sealing l.bytes l.n l.initial.d l.d l.k
