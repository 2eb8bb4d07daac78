-- What a job is written into, and what putting a term or a step changes.
use Rattle.std.specs.Prelude.{◌≡◌, ℕ, ◌≤◌, length, drop, Option, option_map}
use Rattle.theory.specs.Record.{Bytes}
use Rattle.text.specs.Writing.{Placed, placed}
use Rattle.writer.specs.declared.places.Writer.{Writer}
use Rattle.writer.specs.Places.{so_far}

-- the job so far
abbrev pub job_of : Writer → Bytes
job_of w = so_far w.out.now w.spot

-- how many bytes the memory for the job has
abbrev pub room : Writer → ℕ
room w = length w.out.now

-- the memory is the same that was lent
pub record SameMemory (old new : Writer) : Type 0 where
  pub out_name : new.out.ghost_name ≡ old.out.ghost_name
  pub work_name : new.work.ghost_name ≡ old.work.ghost_name
  pub out_size : room new ≡ room old
  pub work_size : length new.work.now ≡ length old.work.now

-- the memory is the same, the job has grown, and nothing past it has changed
pub record Moved (old new : Writer) : Type 0 where
  pub memory : SameMemory old new
  pub grown : old.spot.done ≤ new.spot.done
  pub past : drop new.spot.done new.out.now ≡ drop new.spot.done old.out.now

-- a term that was put, by its number
abbrev pub told_put : Writer → Option ℕ → Option Placed
told_put w r = option_map (λ k. placed k (job_of w)) r

-- the job with a step that was put
abbrev pub told_job : Writer → Option (Unit {0}) → Option Bytes
told_job w r = option_map (λ u. job_of w) r
