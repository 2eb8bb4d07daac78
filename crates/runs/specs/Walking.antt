-- Where a job stands between two records, what the next record does to it, and what the job comes to.
use Rattle.std.specs.Prelude.{◌≡◌, true, false, cond, ℕ, zero, suc, ◌+◌, ◌-◌, ◌*◌, ◌≤◌, ◌<◌, leb, length, take, drop}
use Rattle.std.specs.Prelude.{Option, None, Some, Result, Ok, Err}
use Rattle.std.specs.Borrow.{Bor, MutBor}
use denote.Triple.Both.{Both}
use Rattle.theory.specs.Limit.{Limits, first_terms, max_job, answer_bytes}
use Rattle.theory.specs.Record.{Bytes, extent, whole, records_of, total_length, number_length}
use Rattle.theory.specs.Plain.{plain_after}
use Rattle.theory.specs.Job.{Returned, returned, Call, call, run, answers_after}
use Rattle.terms.specs.declared.stop.Stop.{Stop}
use Rattle.terms.specs.declared.stop.Stop.TheVariants.{Cut}
use Rattle.terms.specs.Numbered.{stop_code}
use Rattle.steps.specs.Answering.{sealed}
use Rattle.chains.specs.Premises.{Noted}
use Rattle.table.specs.Promise.{cleared}
use Rattle.store.specs.Store.{Store, listed}
use Rattle.rows.specs.Layout.{place_end}
use Rattle.runs.specs.declared.Outcome.{Outcome}
use Rattle.records.specs.declared.Turn.{Turn}
use Rattle.runs.specs.declared.walk.State.{State}
use Rattle.records.specs.Turning.{memory_at, Turned}

-- what the host is told
abbrev pub told : Outcome → Returned
told o = record { stop = o.stop; records = o.records; answers = o.answers; terms = o.terms; repeats = o.repeats }

-- all that a call does under stated limits, with a job, a work memory and an answers' memory as they are lent
abbrev pub job_call : {X Y Z : Type 0} → Limits → Both (Bor Bytes) X → Both (MutBor Bytes) Y → Both (MutBor Bytes) Z → Call
job_call limits job work answers = call limits job.entry.now work.entry.now answers.entry.now

-- a state by its parts
abbrev pub state : ℕ → Option Stop → ℕ → ℕ → ℕ → ℕ → State
state at stop records answers rows repeats =
    record { at = at; stop = stop; records = records; answers = answers; rows = rows; repeats = repeats }

-- the code of what stopped a job, 0 of nothing
abbrev pub stop_number : Option Stop → ℕ
stop_number None = 0
stop_number (Some s) = stop_code s

-- what the host is told of a job by its numbers: the code that stopped it or 0, the records done, the answers written, the rows kept, the repeats
abbrev pub returned_of : ℕ → ℕ → ℕ → ℕ → ℕ → Returned
returned_of stop records answers rows repeats =
    record { stop = stop; records = records; answers = answers; terms = rows + first_terms; repeats = repeats }

-- what the host would be told if the job ended here
abbrev pub reached : State → Returned
reached s = returned_of (stop_number s.stop) s.records s.answers s.rows s.repeats

-- the terms are kept, the answers have room and hold the places of their steps' records, no more records are done than bytes passed, and
-- no more repeats met than records
pub record Standing (job work answers : Bytes) (s : State) : Type 0 where
  pub noted : Noted job work answers s.rows s.answers
  pub counted : s.records ≤ s.at
  pub repeated : s.repeats ≤ s.records

-- past a record of that size, which passed
abbrev pub moved : ℕ → State → Turn → State
moved size s t = state (s.at + size) s.stop (s.records + 1) t.answers t.rows (s.repeats + t.repeats)

-- no whole record was there, so code 3 stops the job; or one was there and passed, or stops it
pub data Next (limits : Limits) (job work answers : Bytes) (s : State) (work' answers' : Bytes) (q : Result State Stop) : Type 0 where
  broken : whole (drop s.at job) ≡ false → work' ≡ work → answers' ≡ answers → q ≡ Err Cut
      → Next limits job work answers s work' answers' q
  taken : whole (drop s.at job) ≡ true → (t : Turn)
      → Turned limits s.records job work answers s.rows s.answers s.at work' answers' (Ok t)
      → q ≡ Ok (moved (extent (drop s.at job)) s t) → Next limits job work answers s work' answers' q
  stopped : whole (drop s.at job) ≡ true → (c : Stop)
      → Turned limits s.records job work answers s.rows s.answers s.at work' answers' (Err c)
      → q ≡ Err c → Next limits job work answers s work' answers' q

-- the result of a record: where the job stands after one that passed, or what stopped it
abbrev pub stood : {X : Type 0} → State → Result X Stop → Result State Stop
stood s (Ok _) = Ok s
stood s (Err c) = Err c

-- so many bytes of work memory are used of a job: all, or four for each byte of the job, which is more than its records can fill
pub record Enough (job work used : ℕ) : Type 0 where
  pub within : used ≤ work
  pub enough : used < work → 4 * job ≤ used

-- ---- the work memory
-- after the first m records of a job, by what it was before them: as each record leaves it
unfoldable pub memory_run : Bytes → Bytes → ℕ → Bytes
memory_run job from zero = from
memory_run job from (suc m) =
    memory_at job (memory_run job from m) (length (plain_after m job) - first_terms) (total_length (take m (records_of job)))

-- as a job leaves it: untouched where the job is too long to be read, else cleared, and then as the records done leave it
unfoldable pub memory_left : Limits → Bytes → Bytes → ℕ → Bytes
memory_left limits job work space =
    cond (leb (length job) max_job) (memory_run job (cleared work) (run limits job (length work) space).records) work

-- ---- the whole job
-- what the host is to be told of it, and the answers' memory once its answers have their length and kind; where the records done end, the
-- work memory after them, and the terms that are kept then; the numbers fit into 32 bits
pub record Walked (limits : Limits) (job lent old work answers : Bytes) (s : State) : Type 0 where
  pub result_is : reached s ≡ returned (run limits job (length lent) (length old))
  pub at_is : s.at ≡ total_length (take s.records (records_of job))
  pub memory_is : work ≡ memory_run job (cleared lent) s.records
  pub roomy : answer_bytes (number_length job) * s.answers ≤ length answers
  pub answers_are : sealed (number_length job) s.answers answers
      ≡ answers_after (number_length job) (run limits job (length lent) (length old)).answers old
  pub few_records : s.records ≤ max_job
  pub few_answers : s.answers ≤ max_job
  pub few_terms : s.rows + first_terms < place_end
  pub few_repeats : s.repeats ≤ max_job
  pub store : Store job work s.rows
  pub list_is : listed job work s.rows ≡ plain_after s.records job
