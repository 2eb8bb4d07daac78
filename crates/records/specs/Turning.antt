-- One record of a job: what it says, and what became of it.
use Rattle.std.specs.Prelude.{◌≡◌, true, cond, List, ℕ, ◌+◌, length, drop, Result, Ok, Err}
use Rattle.theory.specs.Limit.{Limits}
use Rattle.theory.specs.Record.{Bytes, whole, read, number_length}
use Rattle.theory.specs.Record as R
use Rattle.theory.specs.Plain.{has, feed, repeat_of}
use Rattle.theory.specs.Codes.{fault}
use Rattle.theory.specs.Answer.{Answer}
use Rattle.theory.specs.Job.{answers_to}
use Rattle.theory.specs.Places.{tree_of}
use Rattle.theory.specs.Origins.{origins_item}
use Rattle.terms.specs.declared.Item.{Item}
use Rattle.terms.specs.declared.stop.Stop.{Stop}
use Rattle.terms.specs.Numbered.{stop_code}
use Rattle.terms.specs.Framing.{record_at}
use Rattle.terms.specs.Decoded.{Placed, item_of}
use Rattle.store.specs.Store.{Store, listed}
use Rattle.intern.specs.Interning.{with_term, without_terms}
use Rattle.records.specs.declared.Turn.{Turn}
use Rattle.steps.specs.Answering.{with_notes}
use Rattle.chains.specs.Premises.{earlier_in, origins}

-- a turn by its parts
abbrev pub turn : ℕ → ℕ → ℕ → Turn
turn answers rows repeats = record { answers = answers; rows = rows; repeats = repeats }

-- a whole record stands at `at`, and was read as this item
pub record Reading (job work : Bytes) (rows at : ℕ) (item : Item) : Type 0 where
  pub store : Store job work rows
  pub stands : whole (drop at job) ≡ true
  pub says : item_of job item ≡ read (number_length job) (record_at job at)
  pub placed : Placed job item

-- the answers to the record at `at`
abbrev pub answers_at : Bytes → Bytes → Bytes → ℕ → ℕ → ℕ → List Answer
answers_at job work answers rows answered at =
    answers_to (number_length job) (earlier_in job work answers rows answered) (listed job work rows) (record_at job at)

-- the origins job after it
abbrev pub origins_at : Bytes → Bytes → ℕ → ℕ → List ℕ
origins_at job work rows at =
    origins_item (origins job work rows) (listed job work rows) at (record_at job at) (read (number_length job) (record_at job at))

-- the work memory after the record at `at` that says an item, where no code stops the job: a new term has its row, and the rows that a
-- back drops are in no bucket
abbrev pub memory_item : Bytes → Bytes → ℕ → ℕ → R.Item → Bytes
memory_item job work rows at (R.term o ks) =
    cond (has (listed job work rows) (record_at job at)) work (with_term job work rows at (tree_of (listed job work rows) o ks))
memory_item job work rows at (R.step n ks) = work
memory_item job work rows at (R.chain n ps k) = work
memory_item job work rows at (R.back n) = without_terms job work rows n
memory_item job work rows at R.unknown = work
memory_item job work rows at R.misfit = work

-- the work memory after the record at `at`
abbrev pub memory_at : Bytes → Bytes → ℕ → ℕ → Bytes
memory_at job work rows at = memory_item job work rows at (read (number_length job) (record_at job at))

-- the code of theory's tests of the record at `at`, before which `place` records stand, under stated limits, or 0
abbrev pub fault_at : Limits → ℕ → Bytes → Bytes → Bytes → ℕ → ℕ → ℕ → ℕ
fault_at limits place job work answers rows answered at =
    fault place (number_length job) limits (length work) (length answers) (listed job work rows) answered (record_at job at)

-- it passed: both memories and the counts after it, by theory's plain list, repeats and answers
pub record Passed (limits : Limits) (place : ℕ) (job work answers : Bytes) (rows answered at : ℕ)
    (work' answers' : Bytes) (t : Turn) : Type 0 where
  pub code_is : 0 ≡ fault_at limits place job work answers rows answered at
  pub memory_is : work' ≡ memory_at job work rows at
  pub store : Store job work' t.rows
  pub listed_is : listed job work' t.rows ≡ feed (number_length job) (listed job work rows) (record_at job at)
  pub origins_are : origins job work' t.rows ≡ origins_at job work rows at
  pub repeats_is : t.repeats ≡ repeat_of (number_length job) (listed job work rows) (record_at job at)
  pub answers_is : t.answers ≡ answered + length (answers_at job work answers rows answered at)
  pub written_is : answers' ≡ with_notes (number_length job) answers answered at (answers_at job work answers rows answered at)

-- it stops the job by the code of the first test that fails, and both memories stay as they were
pub record Halted (limits : Limits) (place : ℕ) (job work answers : Bytes) (rows answered at : ℕ)
    (work' answers' : Bytes) (s : Stop) : Type 0 where
  pub code_is : stop_code s ≡ fault_at limits place job work answers rows answered at
  pub memory_is : work' ≡ work
  pub answers_are : answers' ≡ answers

-- what became of it
abbrev pub Turned : Limits → ℕ → Bytes → Bytes → Bytes → ℕ → ℕ → ℕ → Bytes → Bytes → Result Turn Stop → Type 0
Turned limits place job work answers rows answered at work' answers' (Ok t) =
    Passed limits place job work answers rows answered at work' answers' t
Turned limits place job work answers rows answered at work' answers' (Err s) =
    Halted limits place job work answers rows answered at work' answers' s
