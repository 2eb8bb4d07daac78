use Rattle.std.specs.Iterator.Adapters.{enumerate_source, enumerate_count}
use Rattle.names.specs.Lines.{lines_left}
use Rattle.convert.proofs.TextLaws.{Running}
use Rattle.convert.proofs.take_lines.Given as goal

abbrev pub invariant-loop-k : goal.invariant-loop-k
invariant-loop-k l = Running l.text l.initial.writer l.writer l.next (enumerate_count l.k-iterator) l.s (lines_left (enumerate_source l.k-iterator))
