use Rattle.writer.proofs.PlaceLaws.{Filled}
use Rattle.writer.proofs.encode.encode.Given as goal

abbrev pub invariant-loop-number : goal.invariant-loop-number
invariant-loop-number l = Filled l.initial.key.items l.key.items l.numbers l.number-index
