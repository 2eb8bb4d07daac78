use Rattle.std.specs.Prelude.{map, length, drop}
use Rattle.store.specs.Lookup.{gates}
use Rattle.circuits.proofs.AppendLaws.{Appending}
use Rattle.circuits.proofs.bits.nots.Given as goal

abbrev pub invariant-loop-bit : goal.invariant-loop-bit
invariant-loop-bit l = let xs = drop l.bit-index l.bit-items in
    let f = (gates l.lookup).not_gate in
    Appending l.out.items (map f xs) (map f l.x.items) (length xs)
