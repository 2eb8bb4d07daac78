-- What is looked up among the kept records: numbers of terms, missing where no such term is kept.
use Rattle.std.specs.Prelude.{◌≡◌, List, ℕ}
use Rattle.theory.specs.Gates.{Gates}
use Rattle.theory.specs.Record.{Bytes, number_length}
use Rattle.rows.specs.Rows.{kept}
use Rattle.store.specs.Numbers.{numbers_in, bit_number, bb_number, constant_number}
use Rattle.store.specs.declared.gates.Lookup.{Lookup}

-- l looks up n rows of a job
pub record Finds (l : Lookup) (job work : Bytes) (n : ℕ) : Type 0 where
  pub job_is : l.job.now ≡ job
  pub work_is : l.work.now ≡ work
  pub rows_are : l.rows ≡ n

-- the number of each gate
abbrev pub gates : Lookup → Gates ℕ
gates l = numbers_in l.job.now l.work.now l.rows

-- the number of bit i of term x
abbrev pub bit_gate : Lookup → ℕ → ℕ → ℕ
bit_gate l i x = bit_number (number_length l.job.now) (kept l.job.now l.work.now l.rows) i x

-- the number of the BvBbTerm of these bits
abbrev pub bb_gate : Lookup → List ℕ → ℕ
bb_gate l xs = bb_number (number_length l.job.now) (kept l.job.now l.work.now l.rows) xs

-- the number of the constant of this width and value
abbrev pub constant_gate : Lookup → ℕ → ℕ → ℕ
constant_gate l w v = constant_number (kept l.job.now l.work.now l.rows) w v
