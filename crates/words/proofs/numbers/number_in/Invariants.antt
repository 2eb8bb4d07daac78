use Rattle.words.proofs.NumberLaws.{Counting}
use Rattle.words.proofs.numbers.number_in.Given as goal

abbrev pub invariant-loop-b : goal.invariant-loop-b
invariant-loop-b l = Counting l.base l.word l.most l.n l.b-index
