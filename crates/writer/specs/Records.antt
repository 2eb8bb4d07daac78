-- The records of a job, as the code says them.
use Rattle.std.specs.Prelude.{List}
use Rattle.theory.specs.Record.{Bytes, records_of}
use Rattle.writer.specs.declared.records.Records.{Records}

-- the whole records that are still to come
abbrev pub records_left : Records → List Bytes
records_left s = records_of s.rest.now
