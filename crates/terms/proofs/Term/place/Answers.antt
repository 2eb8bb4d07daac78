-- `Term::place`: the bytes at its place; four of them fit into 32 bits.
use native.Mathlib.Omega.{arith}
use Rattle.terms.proofs.Numbers.{place_small}
use Rattle.terms.proofs.Term.place.Goals as goal

pub overflow_cast-result : goal.overflow_cast-result
overflow_cast-result c = omega (arith, place_small _ _ c.requires c.bytes.ensures.bound)
