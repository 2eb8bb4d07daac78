use Rattle.std.specs.Iterator.Adapters.{rev_source}
use Rattle.terms.specs.Decoded.{words_in}
use Rattle.terms.specs.Numbers.{numbers_left}
use Rattle.ternary.specs.Gates.{bit_of}
use Rattle.ternary.proofs.BitLaws.{Rowing}
use Rattle.ternary.proofs.bits.row.Given as goal

abbrev pub invariant-loop-k : goal.invariant-loop-k
invariant-loop-k l = Rowing l.values l.or (words_in l.job l.fn.a) (bit_of l.acc) (numbers_left (rev_source l.k-iterator))
