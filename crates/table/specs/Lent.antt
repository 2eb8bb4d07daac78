-- What contracts say of the records that a function is lent. `job` and `work` are the references as a contract names them, and the records
-- are those of the first n rows when the function is called.
use Rattle.std.specs.Prelude.{List, ℕ}
use Rattle.std.specs.Borrow.{Bor}
use denote.Triple.Both.{Both}
use Rattle.theory.specs.Record.{Bytes, number_length}
use Rattle.rows.specs.Layout.{link_bytes}
use Rattle.rows.specs.Rows.{kept_as, kept}
use Rattle.table.specs.Keys.{place_list, place_indexed, place_constant}

-- the kept records, where terms' numbers have b bytes
abbrev pub kept_over : ℕ → Bytes → Bytes → ℕ → List Bytes
kept_over b job work n = kept_as (link_bytes b) job work n

module _ {X Y : Type 0} (job : Both (Bor Bytes) X) (work : Both (Bor Bytes) Y) (n : ℕ) where
  -- by the job's own number length
  abbrev pub kept_records : List Bytes
  kept_records = kept job.entry.now work.entry.now n

  -- ---- places, looked up in the job's own number length
  -- that of the record of a kind with these arguments
  abbrev pub list_place : ℕ → List ℕ → ℕ
  list_place kind xs = place_list (number_length job.entry.now) kind xs kept_records

  -- with an index and an argument
  abbrev pub indexed_place : ℕ → ℕ → ℕ → ℕ
  indexed_place kind i x = place_indexed (number_length job.entry.now) kind i x kept_records

  -- with a width and a value
  abbrev pub constant_place : ℕ → ℕ → ℕ → ℕ
  constant_place kind width value = place_constant kind width value kept_records
