-- the record that was built is looked up
use mathlib.Core.Path.{sym, ap, ◌∙◌}
use native.Mathlib.Omega.{arith}
use Rattle.table.specs.Buckets.{unless_missing}
use Rattle.table.proofs.BucketLaws.{told_none}
use Rattle.table.proofs.KeyLaws.{built_missing, built_new, built_place}
use Rattle.table.proofs.kept.KeptRecords.find_built.Goals as goal

pub returns-in_err-end : goal.returns-in_err-end
returns-in_err-end g c = c.from_residual.ensures ∙ told_none (sym (built_missing c.build_key.ensures c.in_err-end.was _))

pub shared_whole_as_front-find : goal.shared_whole_as_front-find
shared_whole_as_front-find g c = let b = c.requires.bounded in (omega (arith, built_new g.row.S c.build_key.ensures c.in_ok-end.was c.requires.roomy), omega arith)

pub returns : goal.returns
returns g c = c.find.ensures ∙ ap unless_missing (built_place c.build_key.ensures c.in_ok-end.was _)
