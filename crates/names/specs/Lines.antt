-- The lines of a text, as the code says them.
use Rattle.std.specs.Prelude.{List}
use Rattle.theory.specs.Record.{Bytes}
use Rattle.text.specs.Convert.{lines}
use Rattle.names.specs.declared.lines.Lines.{Lines}

-- the lines that are still to come
abbrev pub lines_left : Lines → List Bytes
lines_left s = lines s.rest.now
