use Rattle.terms.specs.Decoded.{numbers_of}
use Rattle.chains.proofs.Joins.{Comparing}
use Rattle.chains.proofs.joining.Claim.argument_wise.Given as goal

abbrev pub invariant-loop-i : goal.invariant-loop-i
invariant-loop-i l = Comparing l.self.past.now l.self.premises (numbers_of l.self.past.now.terms.job.now l.xs) (numbers_of l.self.past.now.terms.job.now l.ys) l.i
