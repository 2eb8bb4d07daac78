use mathlib.Core.Path.{◌≡◌}
use lib.ListN.{drop}
use Rattle.words.specs.Tables.{beside}
use Rattle.words.proofs.tables.beside.Given as goal

abbrev pub invariant-loop-name : goal.invariant-loop-name
invariant-loop-name g l = beside l.word (drop l.name-index l.table) ≡ beside l.word l.table
