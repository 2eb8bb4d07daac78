-- A job at its end: what the host is to be told, both memories, and the final store.
use Rattle.std.specs.Prelude.{◌≡◌, None, ◌+◌, ◌<◌, ◌≤◌, length}
use Rattle.theory.specs.Limit.{Limits, first_terms, max_job}
use Rattle.theory.specs.Record.{Bytes, number_length}
use Rattle.theory.specs.Plain.{plain_after}
use Rattle.theory.specs.Job.{returned, run, answers_after}
use Rattle.store.specs.Store.{listed}
use Rattle.store.specs.Shelf.{Shelf}
use Rattle.rows.specs.Layout.{place_end}
use Rattle.runs.specs.declared.walk.State.{State}
use Rattle.runs.specs.Walking.{reached, memory_left}

-- the numbers fit into 32 bits
pub record Small (s : State) : Type 0 where
  pub few_records : s.records ≤ max_job
  pub few_answers : s.answers ≤ max_job
  pub few_terms : s.rows + first_terms < place_end
  pub few_repeats : s.repeats ≤ max_job

-- what the host is to be told, and both memories; where the job does not stop early, the rows are the terms after the last record
pub record Finished (limits : Limits) (job work old work' answers : Bytes) (s : State) : Type 0 where
  pub result_is : reached s ≡ returned (run limits job (length work) (length old))
  pub answers_are : answers ≡ answers_after (number_length job) (run limits job (length work) (length old)).answers old
  pub memory_is : work' ≡ memory_left limits job work (length old)
  pub small : Small s
  pub shelf : s.stop ≡ None → Shelf job work' s.rows
  pub list_is : s.stop ≡ None → listed job work' s.rows ≡ plain_after s.records job
