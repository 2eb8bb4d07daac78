-- Places in a job: parts of it, its records, and where they end.
use Rattle.std.specs.Prelude.{cond, ℕ, take, drop, Option, None, Some}
use Rattle.theory.specs.Record.{Bytes, extent, whole}

-- n bytes from `at` on
abbrev pub part : Bytes → ℕ → ℕ → Bytes
part job at n = take n (drop at job)

-- the record at `at`, length and all
abbrev pub record_at : Bytes → ℕ → Bytes
record_at job at = part job at (extent (drop at job))

-- the bytes of the whole record at the start of these bytes, if one stands there
unfoldable pub frame_of : Bytes → Option ℕ
frame_of bs = cond (whole bs) (Some (extent bs)) None
