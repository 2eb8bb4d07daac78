use Rattle.operations.proofs.MoveLaws.{Copying}
use Rattle.operations.proofs.apply.repeated.Given as goal

abbrev pub invariant-loop : goal.invariant-loop
invariant-loop l = Copying l.m l.x l.counter l.r
