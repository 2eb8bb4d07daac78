use Rattle.std.specs.Prelude.{drop}
use Rattle.store.specs.Lookup.{gates}
use Rattle.circuits.proofs.MultiplyLaws.{Multiplying}
use Rattle.circuits.proofs.multiplier.shift_add_multiplier.Given as goal

abbrev pub invariant-loop-bit : goal.invariant-loop-bit
invariant-loop-bit l = Multiplying (gates l.lookup) l.x.items l.y.items l.out.items l.sum.items (drop l.bit-index l.ys)
