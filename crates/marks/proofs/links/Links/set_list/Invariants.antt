use Rattle.terms.specs.Decoded.{words_in}
use Rattle.terms.specs.Numbers.{numbers_left}
use Rattle.marks.proofs.MarkLaws.{Listing}
use Rattle.marks.proofs.links.Links.set_list.Given as goal

abbrev pub invariant-loop-k : goal.invariant-loop-k
invariant-loop-k l = Listing l.initial.self (words_in l.initial.self.job.now l.fn.a) l.self (numbers_left l.k-iterator)
