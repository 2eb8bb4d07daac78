-- Document 02, P13: a text read line by line, and the job that is written.
use Rattle.std.specs.Prelude.{Bool, true, false, cond, List, [], ◌∷◌, ◌++◌, ℕ, suc, eqb, ltb, length, drop, replicate}
use Rattle.std.specs.Prelude.{Option, None as none, Some as some}
use Rattle.theory.specs.Term.{node, nil}
use Rattle.theory.specs.Optional.{is_some, either}
use Rattle.theory.specs.Record.{Bytes}
use Rattle.text.specs.Tokens.{ascii, left, word, after}
use Rattle.text.specs.Reading.{bind, number_end, Declared, variable, find_name, declaration, step_front, read_term, max_nesting, step_back}
use Rattle.text.specs.Writing.{write, put_step}

-- ---- lines
-- one more byte before the first line
abbrev pub push : ℕ → List Bytes → List Bytes
push b [] = (b ∷ []) ∷ []
push b (l ∷ ls) = (b ∷ l) ∷ ls

-- a newline ends a line; the last may lack it
unfoldable pub lines : Bytes → List Bytes
lines [] = []
lines (b ∷ bs) = elim (eqb b 10) [ true ↦ [] ∷ lines bs | false ↦ push b (lines bs) ]

-- ---- a line
-- between two lines: the variables declared, whether a step was read, the job so far
pub record State : Type 0 where
  pub declared : List Declared
  pub begun : Bool
  pub job : Bytes

-- these by their parts
abbrev pub state : List Declared → Bool → Bytes → State
state ds begun job = record { declared = ds; begun = begun; job = job }

-- nothing is declared or written
abbrev pub start : State
start = state [] false []

-- a declaration: no step was read, the name is new, and its number fits; the variable is written
unfoldable pub declare : ℕ → State → Declared → Option State
declare room s d =
    cond s.begun none
    (cond (is_some (find_name 0 d.name s.declared)) none
    (cond (ltb (length s.declared) number_end)
    (bind (write (node (variable (length s.declared) d) nil) room s.job) (λ p. some (state (s.declared ++ (d ∷ [])) false p.job)))
    none))

-- a step: its literal is read and written, then the step
unfoldable pub take_step : ℕ → State → Bytes → Option State
take_step room s bs =
    bind (step_front bs) (λ a. bind (read_term max_nesting s.declared a) (λ t. bind (step_back t.rest) (λ rule.
    bind (write t.term room s.job) (λ p. bind (put_step room rule p) (λ j. some (state s.declared true j))))))

-- a line: (declare-const .. or (step ..
unfoldable pub take_line : ℕ → State → Bytes → Option State
take_line room s line =
    bind (after left line) (λ a. either (bind (after (word (ascii "step")) a) (take_step room s))
    (λ b. bind (declaration b) (declare room s)) (after (word (ascii "declare-const")) a))

-- ---- the text
-- the job, or the place of the first line that is refused
pub data Outcome : Type 0 where
  written : Bytes → Outcome
  refused : ℕ → Outcome

-- from line `place` on
unfoldable pub convert_from : ℕ → ℕ → State → List Bytes → Outcome
convert_from room place s [] = written s.job
convert_from room place s (l ∷ ls) = elim (take_line room s l) [ none ↦ refused place | some t ↦ convert_from room (suc place) t ls ]

-- A TEXT into a memory of so many bytes
abbrev pub convert : ℕ → Bytes → Outcome
convert room text = convert_from room 1 start (lines text)

-- ---- a call
-- the code: 0, or 25 for a line that is refused; its place, 0 where there is none; the job's length, 0 where there is none
pub record Returned : Type 0 where
  pub code : ℕ
  pub line : ℕ
  pub length : ℕ

-- what is returned, and the two memories afterwards
pub record Call : Type 0 where
  pub result : Returned
  pub work_memory : Bytes
  pub job_memory : Bytes

-- an outcome as it is returned
abbrev pub returned : Outcome → Returned
returned (written j) = record { code = 0; line = 0; length = length j }
returned (refused place) = record { code = 25; line = place; length = 0 }

-- the job, then what the memory held before; all zero where a line is refused
abbrev pub job_after : Outcome → Bytes → Bytes
job_after (written j) old = j ++ drop (length j) old
job_after (refused place) old = replicate (length old) 0

-- ALL THAT A CALL DOES with a text, a work memory and a memory for the job
abbrev pub call : Bytes → Bytes → Bytes → Call
call text work job =
    let o = convert (length job) text in
    record { result = returned o; work_memory = replicate (length work) 0; job_memory = job_after o job }
