-- The records that a `KeptRecords` looks up.
use Rattle.std.specs.Prelude.{List}
use Rattle.theory.specs.Record.{Bytes}
use Rattle.table.specs.Lent.{kept_over}
use Rattle.table.specs.declared.kept.KeptRecords.{KeptRecords}

-- those that are kept in its rows
abbrev pub looked_up : {N : Type 0} {m : _} → KeptRecords N m → List Bytes
looked_up {m = m} r = kept_over m.BYTES r.job.now r.work.now r.rows
