use borrow.Author.Rules.{rules}
use native.Mathlib.Omega.{arith}
use Rattle.intern.proofs.Every.{deepest_of}
use Rattle.intern.proofs.arguments.Arguments.deepest.Goals as goal

pub returns : goal.returns
returns c = deepest_of (λ i l a b q k. search rules) (record { passed = omega arith; rest = omega arith }) (omega arith) c.count.ensures c.fold.ensures.ran
