use mathlib.Core.Path.{◌∙◌}
use native.Mathlib.Omega.{arith}
use Rattle.table.proofs.MemoryLaws.{start_is}
use Rattle.table.proofs.buckets.heads_start.Goals as goal

pub overflow_mul-result-2 : goal.overflow_mul-result-2
overflow_mul-result-2 g c = let r = start_is g.N.Lengths.BYTES c.args.len _ _ (c.LINK_BYTES.ensures ∙ g.N.Lengths.linked) c.most_rows.ensures in omega (arith, r.0, r.1)

pub returns : goal.returns
returns g c = start_is g.N.Lengths.BYTES c.args.len _ _ (c.LINK_BYTES.ensures ∙ g.N.Lengths.linked) c.most_rows.ensures
