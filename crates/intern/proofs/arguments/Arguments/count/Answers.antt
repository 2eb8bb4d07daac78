-- `count`: as many as there are places.
use mathlib.Core.Path.{sym, ◌∙◌}
use Rattle.store.proofs.Arguments.{count_length}
use Rattle.intern.proofs.arguments.Arguments.count.Goals as goal

pub returns : goal.returns
returns c = c.count.ensures ∙ sym (count_length c.args.self.now.kept.lookup.job.now c.args.self.now.list)
