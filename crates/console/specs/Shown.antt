-- What `bbcheck` writes into a memory.
use Rattle.std.specs.Prelude.{◌≡◌, cond, [], ℕ, ◌+◌, ◌*◌, ◌/◌, ◌<◌, ◌≤◌, ◌⊎◌, leb, length, Option}
use Rattle.std.specs.Io.KnownBytes.{Appends, Consumes, IsAtEnd, Keeps}
use Rattle.theory.specs.Limit.{answer_bytes, number_bytes}
use Rattle.theory.specs.Record.{Bytes}
use Rattle.theory.specs.Program.{memory, bbcheck}
use Rattle.report.specs.Text.{head_space, line_space}

-- the text of any job fits into so many bytes: its answers are at most as many as fit into the lent memory where they are short
abbrev pub text_space : ℕ
text_space = head_space + memory / answer_bytes number_bytes * line_space

-- the text, where a memory of `space` bytes is long enough for any
unfoldable pub shown : Bytes → ℕ → Bytes
shown input space = cond (leb text_space space) (bbcheck input) []

-- so many bytes are the text of some input, which is at most one byte longer than the memory that is lent for a job
pub record Printed (size : ℕ) : Type 0 where
  pub input : Bytes
  pub short : length input ≤ memory + 1
  pub size_is : size ≡ length (bbcheck input)

-- what was read, all that there is or one byte more than the memory that is lent for a job, is gone from the reader; its text, so many bytes, is what
-- was written
pub record Checked (left rest held holds : Option Bytes) (size : ℕ) : Type 0 where
  pub input : Bytes
  pub short : length input ≤ memory + 1
  pub read : Consumes left rest input
  pub whole : length input < memory + 1 → IsAtEnd rest
  pub wrote : Appends held holds (bbcheck input)
  pub size_is : size ≡ length (bbcheck input)

-- where a read or a write failed: what was read before is gone from the reader, and nothing was written, or the write failed and all had been read
pub record Stopped (left rest held holds : Option Bytes) : Type 0 where
  pub input : Bytes
  pub short : length input ≤ memory + 1
  pub read : Consumes left rest input
  pub unwritten : Keeps held holds ⊎ (length input < memory + 1 → IsAtEnd rest)
