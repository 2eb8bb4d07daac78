-- That an argument list lies in the job is a fact: any two proofs of it are equal.
use Rattle.std.specs.Coded.{Unit-prop, le_prop}
use Rattle.theory.specs.Record.{Bytes}
use Rattle.theory.proofs.Facts.{ℕ-set}
use Rattle.terms.specs.declared.Operands.{Operands}
use Rattle.terms.specs.declared.Operands.TheVariants.{None, One, Two, Three, List as Listed}
use Rattle.terms.specs.Decoded.{OperandsPlaced}

pub OperandsPlaced-prop : (job : Bytes) (ops : Operands) → IsProp (OperandsPlaced job ops)
OperandsPlaced-prop job None = Unit-prop
OperandsPlaced-prop job (One x) = Unit-prop
OperandsPlaced-prop job (Two x y) = Unit-prop
OperandsPlaced-prop job (Three x y z) = Unit-prop
OperandsPlaced-prop job (Listed a) = hlevel (ℕ-set, le_prop)

pub ruleset argument_facts = (OperandsPlaced-prop)
