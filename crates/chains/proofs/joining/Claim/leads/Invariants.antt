use Rattle.terms.specs.Numbers.{numbers_left}
use Rattle.chains.proofs.Joins.{Leading}
use Rattle.chains.proofs.joining.Claim.leads.Given as goal

abbrev pub invariant-loop-number : goal.invariant-loop-number
invariant-loop-number l = Leading l.self.past.now l.self.premises l.self.left l.self.right l.at (numbers_left l.number-iterator)
