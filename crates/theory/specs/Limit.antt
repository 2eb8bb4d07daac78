-- The limits of document 01, each named once, and those that a caller states (document 02, P8).
use Rattle.std.specs.Prelude.{cond, ℕ, ◌+◌, ◌*◌, min, eqb}

-- the greatest width
abbrev pub max_width : ℕ
max_width = 64

-- the greatest number of arguments, or of literals
abbrev pub max_arguments : ℕ
max_arguments = 64

-- `true` and `false`, which are there from the start
abbrev pub first_terms : ℕ
first_terms = 2

-- the longest job, in bytes
abbrev pub max_job : ℕ
max_job = 16777216

-- the bytes of a number in a record; a term's number has b of them, which a job decides (`number_length`, Record)
abbrev pub number_bytes : ℕ
number_bytes = 2

-- the bytes of a term's number in a job that asks for long ones (document 02, P10)
abbrev pub long_bytes : ℕ
long_bytes = 4

-- the bytes of a constant's value
abbrev pub value_bytes : ℕ
value_bytes = 8

-- ---- by b, the bytes of a term's number: two, or four
-- the greatest number of terms, `true` and `false` counted
abbrev pub max_terms : ℕ → ℕ
max_terms b = cond (eqb b long_bytes) 1000000 65535

-- the bytes of work memory that a kept term costs
abbrev pub term_bytes : ℕ → ℕ
term_bytes b = 4 + 2 * b

-- the bytes of an answer, whose depth has as many as a term's number
abbrev pub answer_bytes : ℕ → ℕ
answer_bytes b = 4 * number_bytes + b

-- ---- stated by a caller
-- a width limit, and a limit of the number of terms, `true` and `false` counted
pub record Limits : Type 0 where
  pub width : ℕ
  pub terms : ℕ

-- the two by their numbers
abbrev pub stated : ℕ → ℕ → Limits
stated width terms = record { width = width; terms = terms }

-- the rack's, of which the second is that of the longer numbers
abbrev pub rack : Limits
rack = stated max_width (max_terms long_bytes)

-- a limit above the rack's is the rack's, by the job's numbers
abbrev pub capped : ℕ → Limits → Limits
capped b limits = stated (min limits.width max_width) (min limits.terms (max_terms b))
