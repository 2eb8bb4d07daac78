use borrow.Author.Rules.{rules}
use native.Mathlib.Omega.{arith}
use mathlib.Core.Path.{refl}
use Rattle.intern.proofs.Every.{every}
use Rattle.intern.proofs.arguments.Arguments.all_are.Goals as goal

pub returns : goal.returns
returns c = every (λ x l b q k. search rules) (record { passed = omega arith; rest = refl }) c.count.ensures c.all.ensures.ran
