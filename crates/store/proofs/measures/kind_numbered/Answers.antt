-- `kind_numbered`: the kind that was decoded, where the number fits into one of a job.
use mathlib.Core.Path.{sym, subst}
use borrow.Author.Rules.{rules}
use Rattle.store.specs.Measure.{KindNumbered}
use Rattle.store.proofs.Measuring.{kind_read}
use Rattle.store.proofs.measures.kind_numbered.Goals as goal

pub returns : goal.returns
returns c = subst (KindNumbered c.args.number) (sym c.ok-2.ensures.value) (kind_read c.try_from-2.result (search rules) c.try_from-2.ensures)
