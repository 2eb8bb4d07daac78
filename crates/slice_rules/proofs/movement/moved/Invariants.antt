use Rattle.std.specs.Prelude.{◌≡◌, ◌+◌, ◌%◌, length}
use Rattle.theory.specs.Move.{bits, bit_of}
use Rattle.slice_rules.proofs.movement.moved.Given as goal

abbrev pub invariant-loop-j : goal.invariant-loop-j
invariant-loop-j l = (l.out.items ≡ bits l.j (λ k. bit_of 1 l.x.items ((k + l.by.shift) % l.by.cycle))) × (length l.out.items ≡ l.j)
