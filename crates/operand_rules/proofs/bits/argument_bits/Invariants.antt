use lib.ListN.{length}
use Rattle.terms.specs.Decoded.{words_in}
use Rattle.terms.specs.Numbers.{numbers_left}
use Rattle.circuits.proofs.AppendLaws.{Appending}
use Rattle.operand_rules.proofs.bits.argument_bits.Given as goal

abbrev pub invariant-loop-x : goal.invariant-loop-x
invariant-loop-x l =
    let left = numbers_left l.x-iterator in
    Appending l.out.items left (words_in l.job l.fn.list) (length left)
