-- Where the job stands in the memory for it.
use Rattle.std.specs.Prelude.{◌≡◌, List, ◌++◌, ℕ, ◌≤◌, ◌<◌, length, take, drop}
use Rattle.theory.specs.Limit.{number_bytes}
use Rattle.theory.specs.Record.{Bytes, kind_of, step_kind}
use Rattle.text.specs.Writing.{Lone, Clean, kept}
use Rattle.rows.specs.Layout.{link_bytes}
use Rattle.rows.specs.Rows.{kept_as}
use Rattle.table.specs.Buckets.{TableAs}
use Rattle.words.specs.Words.{piece}
use Rattle.writer.specs.declared.places.Spot.{Spot}

-- the job so far
abbrev pub so_far : Bytes → Spot → Bytes
so_far out s = take s.done out

-- the records that rows name: a job that is written has terms' numbers of two bytes
abbrev pub row_records : Bytes → Bytes → ℕ → List Bytes
row_records job work n = kept_as (link_bytes number_bytes) job work n

-- the terms of the first bytes of a job have a row each in the work memory, and a table over the rows finds them;
-- the records after them are found by a walk
pub record Covered (job work : Bytes) (rows covered : ℕ) : Type 0 where
  pub before : covered ≤ length job
  pub table : TableAs number_bytes (take covered job) work rows
  pub split : kept job ≡ row_records (take covered job) work rows ++ kept (drop covered job)
  pub rest : Clean (drop covered job)

-- the job so far lies in the memory, is whole records, and its terms are counted and found
pub record Ready (out work : Bytes) (s : Spot) : Type 0 where
  pub within : s.done ≤ length out
  pub counted : s.terms ≡ length (kept (so_far out s))
  pub clean : Clean (so_far out s)
  pub few : s.terms ≤ s.done
  pub rows : Covered (so_far out s) work s.rows s.covered

-- a term's record stands at the end of the job, up to `end`; where the job stands does not count it yet
pub record Longer (out work : Bytes) (s : Spot) (end : ℕ) : Type 0 where
  pub ready : Ready out work s
  pub on : s.done ≤ end
  pub within : end ≤ length out
  pub lone : Lone (piece s.done end out)
  pub low : kind_of (piece s.done end out) < step_kind

-- the job stands at `end`
pub record Grows (out work : Bytes) (end : ℕ) (s : Spot) : Type 0 where
  pub done_is : s.done ≡ end
  pub ready : Ready out work s

-- the most bytes of a term's record: its length, its kind, the numbers in the kind, its arguments
abbrev pub key_bytes : ℕ
key_bytes = 142
