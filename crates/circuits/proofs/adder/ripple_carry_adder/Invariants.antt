use Rattle.std.specs.Iterator.Adapters.{zip_first, zip_second}
use Rattle.std.specs.Slice.Iter.{iter_rest}
use Rattle.store.specs.Lookup.{gates}
use Rattle.circuits.proofs.AddLaws.{Adding}
use Rattle.circuits.proofs.adder.ripple_carry_adder.Given as goal

abbrev pub invariant-loop-a : goal.invariant-loop-a
invariant-loop-a l =
    Adding (gates l.lookup) l.carry l.x.items l.y.items l.bits.items l.last l.c (iter_rest (zip_first l.a-iterator)) (iter_rest (zip_second l.a-iterator))
