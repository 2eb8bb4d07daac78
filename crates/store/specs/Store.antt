-- The store: the plain list that the kept records build, and what holds of it between two records of a job.
use Rattle.std.specs.Prelude.{◌≡◌, ℕ, ◌+◌, ◌<◌, length, drop}
use mathlib.Core.List.{List, map, foldl}
use Rattle.theory.specs.Limit.{first_terms}
use Rattle.theory.specs.Record.{Bytes, number_length}
use Rattle.theory.specs.Plain.{Entry, Plain, start, feed}
use Rattle.theory.specs.Places.{tree_at}
use Rattle.theory.specs.Listed.{AllGood, WellKept}
use Rattle.rows.specs.Layout.{link_size, measure_at}
use Rattle.rows.specs.Rows.{kept}
use Rattle.table.specs.Buckets.{Table}
use Rattle.store.specs.Measure.{measure}

-- the plain list that these records build, where the numbers of terms have b bytes
abbrev pub stored : ℕ → List Bytes → Plain
stored b rows = foldl (feed b) start rows

-- the list of the first n rows
abbrev pub listed : Bytes → Bytes → ℕ → Plain
listed job work n = stored (number_length job) (kept job work n)

-- the records of the entries after `true` and `false`
abbrev pub records : Plain → List Bytes
records list = map (λ (e : Entry). e.bytes) (drop first_terms list)

-- THE INVARIANT: the rows are kept as they should be, each builds a term of its own, and has that term's measure
pub record Store (job work : Bytes) (n : ℕ) : Type 0 where
  pub table : Table job work n
  pub well : WellKept (number_length job) (listed job work n)
  pub sorted : AllGood (listed job work n)
  pub count : length (listed job work n) ≡ first_terms + n
  pub records_are : records (listed job work n) ≡ kept job work n
  pub measures_are : (k : ℕ) → k < n → measure_at (link_size job) work k ≡ measure (tree_at (listed job work n) (first_terms + k))
