use Rattle.std.specs.Iterator.Adapters.{zip_first, zip_second}
use Rattle.std.specs.Prelude.{length}
use Rattle.std.specs.Slice.Iter.{iter_rest}
use Rattle.theory.specs.Circuit.{zip_with}
use Rattle.store.specs.Lookup.{gates}
use Rattle.circuits.proofs.AppendLaws.{Appending}
use Rattle.circuits.proofs.bits.ites.Given as goal

abbrev pub invariant-loop-a : goal.invariant-loop-a
invariant-loop-a l = let xs = iter_rest (zip_first l.a-iterator) in let ys = iter_rest (zip_second l.a-iterator) in
    let f = (gates l.lookup).ite_gate l.c in
    Appending l.out.items (zip_with f xs ys) (zip_with f l.x.items l.y.items) (length xs)
