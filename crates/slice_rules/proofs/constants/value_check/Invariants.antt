use Rattle.std.specs.Iterator.Adapters.{rev_source}
use Rattle.terms.specs.Decoded.{words_in}
use Rattle.terms.specs.Numbers.{numbers_left}
use Rattle.slice_rules.proofs.Literals.{Summing}
use Rattle.slice_rules.proofs.constants.value_check.Given as goal

abbrev pub invariant-loop-x : goal.invariant-loop-x
invariant-loop-x l = Summing (words_in l.job l.fn.list) l.sum (numbers_left (rev_source l.x-iterator))
