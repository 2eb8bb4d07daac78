-- The body of a record, as it is read in its job.
use Rattle.std.specs.Prelude.{ℕ, ◌+◌, ◌*◌, take, drop}
use Rattle.theory.specs.Record.{Bytes, little_endian}
use Rattle.terms.specs.Framing.{part}
use Rattle.terms.specs.declared.records.Body.{Body}

-- its bytes
abbrev pub bytes_of : Body → Bytes
bytes_of b = part b.job.now b.at b.size

-- the number at argument i, `before` bytes standing before the arguments; past the body's end, what the job has there
abbrev pub argument_at : Body → ℕ → ℕ → ℕ
argument_at b before i = little_endian (take b.bytes (drop (b.at + before + b.bytes * i) b.job.now))
