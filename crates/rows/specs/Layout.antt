-- Where things stand in bytes: numbers and records in the job, the parts of a row in the work memory.
-- A row is the offset of its record in the job, its measure, and a link to an earlier row. A measure and a link have l bytes each.
use Rattle.std.specs.Prelude.{◌≡◌, ℕ, ◌+◌, ◌*◌, ◌^◌, ◌<◌, cond, eqb, take, drop}
use Rattle.theory.specs.Limit.{number_bytes, long_bytes}
use Rattle.theory.specs.Record.{Bytes, little_endian, number_length}

-- ---- sizes
-- the first number that a number's bytes can't hold
abbrev pub number_end : ℕ
number_end = 256 ^ number_bytes

-- above every place, and so above every depth, which is at most its term's place
abbrev pub place_end : ℕ
place_end = 256 ^ long_bytes

-- what stands for no place
abbrev pub missing : ℕ
missing = 4294967295

-- the bytes of a link, where terms' numbers have b: three can count the most terms
unfoldable pub link_bytes : ℕ → ℕ
link_bytes b = cond (eqb b long_bytes) 3 b

-- those of a job's links
abbrev pub link_size : Bytes → ℕ
link_size job = link_bytes (number_length job)

-- a row starts with the offset of its record in the job, of so many bytes; its measure and its link stand after it
abbrev pub offset_bytes : ℕ
offset_bytes = 3

-- the bytes of a row
abbrev pub row_size : ℕ → ℕ
row_size l = offset_bytes + 2 * l

-- ---- reading
-- the number of so many bytes at a place
abbrev pub number_at : Bytes → ℕ → ℕ → ℕ
number_at s at len = little_endian (take len (drop at s))

-- where row k's record stands in the job
unfoldable pub offset_at : ℕ → Bytes → ℕ → ℕ
offset_at l work k = number_at work (k * row_size l) offset_bytes

-- row k's measure: the depth of its term, or its width
unfoldable pub measure_at : ℕ → Bytes → ℕ → ℕ
measure_at l work k = number_at work (k * row_size l + offset_bytes) l

-- row k's link: 0, or one more than the index of an earlier row
unfoldable pub link_at : ℕ → Bytes → ℕ → ℕ
link_at l work k = number_at work (k * row_size l + offset_bytes + l) l

-- a function returns x, which is below a bound
pub record Bounded (result x bound : ℕ) : Type 0 where
  pub value : result ≡ x
  pub below : result < bound
