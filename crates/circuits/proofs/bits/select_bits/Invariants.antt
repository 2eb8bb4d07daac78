use Rattle.std.specs.Prelude.{◌≡◌, length}
use Rattle.store.specs.Lookup.{bit_gate}
use Rattle.theory.specs.Move.{bits}
use Rattle.circuits.proofs.bits.select_bits.Given as goal

abbrev pub invariant-loop-i : goal.invariant-loop-i
invariant-loop-i l = (l.out.items ≡ bits l.i (λ k. bit_gate l.lookup k l.t)) × (length l.out.items ≡ l.i)
