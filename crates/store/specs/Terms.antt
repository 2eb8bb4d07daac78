-- What callers are promised of a term that is read back from its place.
use Rattle.std.specs.Prelude.{◌≡◌, true, ℕ, length}
use Rattle.theory.specs.Kind.{arity, takes}
use Rattle.theory.specs.Record.{Bytes}
use Rattle.theory.specs.Codes.{all_below}
use Rattle.theory.specs.Places.{tree_at, tree_of}
use Rattle.terms.specs.declared.Term.{Term}
use Rattle.terms.specs.Decoded.{OperandsPlaced, op_of, operands_of, arguments_of}
use Rattle.store.specs.Store.{listed}

-- t is the term at a place: it rebuilds the tree, its arguments can be read in the job and stand before it, and are as many as its kind
-- takes
pub record TermAt (job work : Bytes) (n place : ℕ) (t : Term) : Type 0 where
  pub made : tree_at (listed job work n) place ≡ tree_of (listed job work n) (op_of t) (arguments_of job t)
  pub placed : OperandsPlaced job (operands_of t)
  pub below : all_below place (arguments_of job t) ≡ true
  pub number : takes (arity (op_of t)) (length (arguments_of job t)) ≡ true
