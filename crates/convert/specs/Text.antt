-- What a text comes to, as the code says it.
use Rattle.std.specs.Prelude.{◌≡◌, ℕ, ◌≤◌, length, take, drop, Result, Ok, Err}
use Rattle.std.specs.Borrow.{Bor, MutBor}
use denote.Triple.Both.{Both}
use Rattle.theory.specs.Record.{Bytes}
use Rattle.text.specs.Convert.{Outcome, written, refused, convert, Returned, Call, call}
use Rattle.convert.specs.declared.Converted.{Converted}

-- what is returned
abbrev pub told : Converted → Returned
told r = record { code = r.code; line = r.line; length = r.length }

-- all that a call does with a text, a work memory and a job's memory as they are lent
abbrev pub text_call : {X Y Z : Type 0} → Both (Bor Bytes) X → Both (MutBor Bytes) Y → Both (MutBor Bytes) Z → Call
text_call text work job = call text.entry.now work.entry.now job.entry.now

-- the job, or the place of the first line that is refused
abbrev pub told_lines : Bytes → Result ℕ ℕ → Outcome
told_lines out (Ok n) = written (take n out)
told_lines out (Err place) = refused place

-- all lines were taken, and nothing past the job has changed; or one was refused
pub record Taken (text old new : Bytes) (r : Result ℕ ℕ) : Type 0 where
  pub is : told_lines new r ≡ convert (length old) text
  pub within : (n : ℕ) → r ≡ Ok n → n ≤ length new
  pub past : (n : ℕ) → r ≡ Ok n → drop n new ≡ drop n old
