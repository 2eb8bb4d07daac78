use lib.ListN.{length}
use Rattle.table.specs.Keys.{Roomy}
use Rattle.table.proofs.KeyLaws.{Building}
use Rattle.table.proofs.lists.build_key.Given as goal

abbrev pub invariant-loop-arg : goal.invariant-loop-arg
invariant-loop-arg g l = Building (length l.initial.key) g.N.Lengths.BYTES l.kind l.args l.key l.at l.arg-index × Roomy g.N.Lengths.BYTES (length l.args) (length l.initial.key)
