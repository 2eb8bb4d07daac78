use Rattle.terms.specs.Decoded.{words_in}
use Rattle.terms.specs.Numbers.{numbers_left}
use Rattle.evaluation.specs.Columns.{column}
use Rattle.evaluation.proofs.ListLaws.{Folding}
use Rattle.evaluation.proofs.evaluate.Column.many.Given as goal

abbrev pub invariant-loop-k : goal.invariant-loop-k
invariant-loop-k l = let t = l.self.terms in
    Folding t.job.now t.work.now t.rows (column l.self) l.op (words_in t.job.now l.fn.a) l.acc (numbers_left l.k-iterator)
