use Rattle.std.specs.Iterator.Adapters.{zip_first, zip_second}
use Rattle.std.specs.Slice.Iter.{iter_rest}
use Rattle.store.specs.Lookup.{gates}
use Rattle.std.specs.Prelude.{length}
use Rattle.theory.specs.Circuit.{ripple_carry_adder, partial_products}
use Rattle.store.specs.Numbers.{false_number}
use Rattle.circuits.proofs.AppendLaws.{Appending}
use Rattle.circuits.proofs.multiplier.add_row.Given as goal

abbrev pub invariant-loop-bit : goal.invariant-loop-bit
invariant-loop-bit l = let g = gates l.lookup in
    let xs = iter_rest (zip_second l.bit-iterator) in
    Appending l.out.items (ripple_carry_adder g l.carry (iter_rest (zip_first l.bit-iterator)) (partial_products g l.y xs))
    (ripple_carry_adder g false_number l.sum (partial_products g l.y l.x.items)) (length xs)
