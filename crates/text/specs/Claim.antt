-- Document 02, P13: what is to be shown of the job that is written: one step for each step line, in order,
-- whose literal is that line's term.
use Rattle.std.specs.Prelude.{◌≡◌, List, [], ◌∷◌, ◌++◌, ℕ, length, take}
use Rattle.std.specs.Prelude.{Option, None as none, Some as some}
use Rattle.std.specs.Prelude.{slice_get as get_elem?}
use Rattle.theory.specs.Limit.{number_bytes}
use Rattle.theory.specs.Term.{Term}
use Rattle.theory.specs.Optional.{either}
use Rattle.theory.specs.Record.{Bytes, records_of, ending, step, read, step_count, number_length}
use Rattle.theory.specs.Plain.{plain_after, at_place}
use Rattle.text.specs.Tokens.{ascii, left, word, after}
use Rattle.text.specs.Reading.{bind, Declared, declaration, Step, step_front, read_term, max_nesting, step_back}
use Rattle.text.specs.Convert.{lines, call}

-- ---- the lines of a text, without a job
-- the variable that a line declares
unfoldable pub declared_by : Bytes → Option Declared
declared_by line = bind (after left line) (λ a. bind (after (word (ascii "declare-const")) a) declaration)

-- a step by its parts
abbrev pub a_step : Term → ℕ → Step
a_step t n = record { literal = t; rule = n }

-- the step that a line is, over these variables
unfoldable pub step_by : List Declared → Bytes → Option Step
step_by vars line =
    bind (after left line) (λ a. bind (after (word (ascii "step")) a) (λ b. bind (step_front b) (λ c.
    bind (read_term max_nesting vars c) (λ t. bind (step_back t.rest) (λ n. some (a_step t.term n))))))

-- the steps of lines, in order; declarations before them add variables
unfoldable pub steps_in : List Declared → List Bytes → List Step
steps_in vars [] = []
steps_in vars (l ∷ ls) =
    elim (declared_by l) [
      | none ↦ either (steps_in vars ls) (λ s. s ∷ steps_in vars ls) (step_by vars l)
      | some d ↦ steps_in (vars ++ (d ∷ [])) ls
    ]

-- the steps of a text
abbrev pub steps_of : Bytes → List Step
steps_of text = steps_in [] (lines text)

-- ---- the job
-- the job's step before which k steps stand has that rule, and its one literal is that term on the plain list just then
pub record StepWritten (job : Bytes) (k : ℕ) (s : Step) : Type 0 where
  pub m : ℕ
  pub bytes : Bytes
  pub place : ℕ
  pub stands : get_elem? (records_of job) m ≡ some bytes
  pub kth : step_count (number_length job) (take m (records_of job)) ≡ k
  pub says : read (number_length job) bytes ≡ step s.rule (place ∷ [])
  pub literal : at_place (plain_after m job) place ≡ some s.literal

-- the job has no record of kind 103, which would be its first; it is whole records, and has these steps in order and no other
pub record StepsWritten (job : Bytes) (steps : List Step) : Type 0 where
  pub short : number_length job ≡ number_bytes
  pub whole : ending job ≡ 0
  pub counted : step_count (number_length job) (records_of job) ≡ length steps
  pub each : (k : ℕ) (s : Step) → get_elem? steps k ≡ some s → StepWritten job k s

-- ---- the work memory
-- what is lent for it, and what it holds, changes neither what is returned nor the job's memory
abbrev pub WorkFree : Type 0
WorkFree =
    (text job work work' : Bytes)
    → ((call text work job).result ≡ (call text work' job).result) × ((call text work job).job_memory ≡ (call text work' job).job_memory)
