use mathlib.Core.Path.{◌≡◌}
use Rattle.theory.specs.Codes.{all_below}
use Rattle.terms.specs.Decoded.{words_in}
use Rattle.terms.specs.Numbers.{numbers_left}
use Rattle.terms.proofs.Term.all_below.Given as goal

abbrev pub invariant-loop-x : goal.invariant-loop-x
invariant-loop-x l = all_below l.n (words_in l.job l.fn.list) ≡ all_below l.n (numbers_left l.x-iterator)
