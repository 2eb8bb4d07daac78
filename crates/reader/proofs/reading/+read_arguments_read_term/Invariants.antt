use Prim.Native.Nat.{◌+◌}
use Rattle.names.specs.Kinds.{declared_in}
use Rattle.reader.proofs.LoopLaws.{Filling}
use Rattle.reader.proofs.reading.+read_arguments_read_term.Given as goal

abbrev pub decreases-read_arguments : goal.decreases-read_arguments
decreases-read_arguments l = l.nesting + l.nesting + 1

abbrev pub decreases-read_term : goal.decreases-read_term
decreases-read_term l = l.nesting + l.nesting

abbrev pub invariant-read_arguments-loop-count : goal.invariant-read_arguments-loop-count
invariant-read_arguments-loop-count l = Filling l.initial.list l.initial.writer l.list l.writer (declared_in l.declarations) l.nesting l.count
