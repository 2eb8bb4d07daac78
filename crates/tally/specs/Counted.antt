-- The struct that a host lends, read as document 01's tally, and the answers that are counted into it.
use Rattle.std.specs.Prelude.{Bool, cond, List, ℕ, ◌-◌, ◌/◌, min, eqb, leb, length}
use Rattle.theory.specs.Limit.{answer_bytes, number_bytes, long_bytes}
use Rattle.theory.specs.Record.{Bytes, word}
use Rattle.theory.specs.Answer.{Answer, decode_answers}
use Rattle.theory.specs.Tally.{Tally}
use Rattle.tally.specs.declared.Tally.{Tally as Lent}
use Rattle.tally.specs.declared.Class.{Class}
use Rattle.tally.specs.declared.Class.TheVariants.{Held, FormOnly, Refused}

-- its four numbers
abbrev pub as_tally : Lent → Tally
as_tally t = record { jobs = t.jobs; held = t.held; form_only = t.form_only; refused = t.refused }

-- the class of a code
abbrev pub class_of : ℕ → Class
class_of code = cond (eqb code 0) Held (cond (eqb code 1) FormOnly Refused)

-- the codes of a class
abbrev pub belongs : Class → ℕ → Bool
belongs Held code = eqb code 0
belongs FormOnly code = eqb code 1
belongs Refused code = leb 2 code

-- the bytes of a depth: four where the length that the first answer says is that of a job with long numbers, else two
unfoldable pub depth_length : Bytes → ℕ
depth_length bytes = cond (eqb (word bytes) (answer_bytes long_bytes - number_bytes)) long_bytes number_bytes

-- how many of `count` answers, whose depths have b bytes, a memory of `size` bytes has whole
abbrev pub whole_answers : ℕ → ℕ → ℕ → ℕ
whole_answers b size count = min count (size / answer_bytes b)

-- the answers that are counted: the first `count` in these bytes, or, where the bytes are fewer, the whole ones among them
abbrev pub answers_in : ℕ → Bytes → List Answer
answers_in count bytes = let b = depth_length bytes in decode_answers b (whole_answers b (length bytes) count) bytes
