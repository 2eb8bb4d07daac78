-- The bytes of a term's number in a job: two or four. Either counts the most terms that the job may keep.
use mathlib.Core.Bool.{Bool, true, false, cond}
use Prim.Native.Nat.{ℕ, ◌^◌, ◌<◌, ◌≤◌, max}
use native.Mathlib.Omega.{arith}
use lib.ListN.{length, take}
use Rattle.theory.specs.Limit.{number_bytes, long_bytes, first_terms, Limits, capped}
use Rattle.theory.specs.Term.{same_numbers}
use Rattle.theory.specs.Record.{Bytes, long_record, number_length}

-- what holds of both holds of a job's
pub either_length : (P : ℕ → Type 0) → P number_bytes → P long_bytes → (job : Bytes) → P (number_length job)
unfolding number_length
either_length P two four job = go (same_numbers (take (length long_record) job) long_record)
  where
    go : (t : Bool) → P (cond t long_bytes number_bytes)
    go true = four
    go false = two

pub length_least : (job : Bytes) → 2 ≤ number_length job
length_least = either_length (λ b. 2 ≤ b) (omega arith) (omega arith)

pub length_most : (job : Bytes) → number_length job ≤ 4
length_most = either_length (λ b. b ≤ 4) (omega arith) (omega arith)

-- so many terms as a job may keep have numbers
pub terms_counted : (job : Bytes) (limits : Limits) (n : ℕ) → n ≤ max first_terms (capped (number_length job) limits).terms → n < 256 ^ number_length job
terms_counted job limits n = either_length (λ b. n ≤ max first_terms (capped b limits).terms → n < 256 ^ b) (λ h. omega arith) (λ h. omega arith) job
