-- `is_bit_kind`: an Equals is bit-level where the sort of its first side is Bool.
use Rattle.ternary.proofs.KindLaws.{kind_equals}
use Rattle.ternary.proofs.kinds.is_bit_kind.Goals as goal

pub returns-in-Equals : goal.returns-in-Equals
returns-in-Equals c = kind_equals c.term_on.ensures _ _ c.in-Equals.is c.sort_on.result c.sort_on.ensures c.eq.ensures
