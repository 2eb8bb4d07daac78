-- What is said of a job that is written is a fact: any two proofs of it are equal. A ghost field needs this of what it says.
use Rattle.theory.specs.Record.{Bytes}
use Rattle.theory.proofs.Facts.{ℕ-set}
use Rattle.text.specs.Writing.{Clean}

pub Clean-prop : (job : Bytes) → IsProp (Clean job)
unfolding Clean
Clean-prop job = ℕ-set _ _
