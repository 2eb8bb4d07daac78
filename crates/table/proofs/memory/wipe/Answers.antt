use mathlib.Core.Path.{sym, subst}
use Rattle.table.specs.Promise.{Wiped}
use Rattle.table.proofs.MemoryLaws.{wiped}
use Rattle.table.proofs.memory.wipe.Goals as goal

pub returns : goal.returns
returns c = subst (Wiped c.args.work.now) (sym (c.fill.ensures.after (λ y e. e))) (wiped c.args.work.now)
