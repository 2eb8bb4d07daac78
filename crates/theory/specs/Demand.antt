-- Document 01, "Demand 3 over a whole job": what a "held" answer says. It names the job's records, the plain list, the tests of
-- Codes that let a record pass, and the values;
-- no verdict, no circuit, and of what a program did only how many records it took and the answers.
use Rattle.std.specs.Prelude.{◌≡◌, List, [], ◌∷◌, ℕ, ◌<◌, ◌≤◌, length, take}
use Rattle.std.specs.Prelude.{Some as some}
use Rattle.std.specs.Prelude.{slice_get as get_elem?}
use Rattle.theory.specs.Limit.{Limits, max_job}
use Rattle.theory.specs.Kind.{Equals}
use Rattle.theory.specs.Term.{Term, two}
use Rattle.theory.specs.Value.{Assign, value}
use Rattle.theory.specs.Record.{Bytes, records_of, read, claim_of, step_count, number_length}
use Rattle.theory.specs.Plain.{Plain, plain_after, at_place}
use Rattle.theory.specs.Codes.{fault}
use Rattle.theory.specs.Answer.{Answer}

-- record m, counted from 0, is r, and no code stops the job before it or at it
pub record Reached (limits : Limits) (job : Bytes) (work space m : ℕ) (r : Bytes) : Type 0 where
  pub short : length job ≤ max_job
  pub stands : get_elem? (records_of job) m ≡ some r
  pub passes : (i : ℕ) (s : Bytes) → i ≤ m → get_elem? (records_of job) i ≡ some s
      → let b = number_length job in fault i b limits work space (plain_after i job) (step_count b (take i (records_of job))) s ≡ 0

-- the literals at these places are one, an equality whose two sides have the same value under every assignment
pub record Held (list : Plain) (places : List ℕ) : Type 0 where
  pub place : ℕ
  pub left : Term
  pub right : Term
  pub one_literal : places ≡ place ∷ []
  pub on_list : at_place list place ≡ some (two Equals left right)
  pub equal : (ρ : Assign) → value ρ left ≡ value ρ right

-- answer k, counted from 0, belongs to the step, of either kind, before which k steps stand;
-- it carries its rule, and with code 0 the step holds
pub record Answers (limits : Limits) (job : Bytes) (work space done k : ℕ) (a : Answer) : Type 0 where
  pub m : ℕ
  pub bytes : Bytes
  pub literals : List ℕ
  pub m_done : m < done
  pub reached : Reached limits job work space m bytes
  pub kth : step_count (number_length job) (take m (records_of job)) ≡ k
  pub is_step : claim_of (read (number_length job) bytes) ≡ some (a.rule, literals)
  pub held : a.code ≡ 0 → Held (plain_after m job) literals

-- of stated limits, a job's bytes, the lent lengths, the records done and the answers written
pub record Demand3 (limits : Limits) (job : Bytes) (work space done : ℕ) (answers : List Answer) : Type 0 where
  pub counted : length answers ≡ step_count (number_length job) (take done (records_of job))
  pub each : (k : ℕ) (a : Answer) → get_elem? answers k ≡ some a → Answers limits job work space done k a
