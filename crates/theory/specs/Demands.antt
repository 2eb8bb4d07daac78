-- Demands 1 and 2 over a whole job, in the words of Demand.antt: why a job stops, and what each step, of either kind,
-- that it reaches is answered.
use Rattle.std.specs.Prelude.{◌≡◌, List, [], ◌∷◌, ℕ, suc, ◌<◌, ◌≤◌, length, take}
use Rattle.std.specs.Prelude.{Some as some}
use Rattle.std.specs.Prelude.{slice_get as get_elem?}
use Rattle.theory.specs.Limit.{Limits, max_job}
use Rattle.theory.specs.Term.{Term}
use Rattle.theory.specs.RuleTable.{Rule, rule_at, ChainRule, chain_rule_at}
use Rattle.theory.specs.Record.{Bytes, records_of, ending, step, chain, back, read, claim_of, step_count, number_length}
use Rattle.theory.specs.Plain.{Plain, start, feed, plain_after, at_place, at_places}
use Rattle.theory.specs.Codes.{fault}
use Rattle.theory.specs.Answer.{Answer}
use Rattle.theory.specs.Chain.{Earlier, premises_at, joined}
use Rattle.theory.specs.Job.{judged, answer_to, answers_to, recall, run}
use Rattle.theory.specs.Demand.{Reached}

-- the code that stops the job at record m, which is r, from the plain list just then; 0 where none does
abbrev pub fault_at : Limits → Bytes → ℕ → ℕ → ℕ → Bytes → ℕ
fault_at limits job work space m r =
    let b = number_length job in fault m b limits work space (plain_after m job) (step_count b (take m (records_of job))) r

-- the job stops with this code after so many records: it is too long; or the record after them has that code, and none before has one;
-- or no whole record is left, and bytes are or not
pub data Stops (limits : Limits) (job : Bytes) (work space : ℕ) : ℕ → ℕ → Type 0 where
  too_long : max_job < length job → Stops limits job work space 2 0
  at_record : {m code : ℕ} {r : Bytes} → length job ≤ max_job → get_elem? (records_of job) m ≡ some r
      → fault_at limits job work space m r ≡ suc code
      → ((i : ℕ) (s : Bytes) → i < m → get_elem? (records_of job) i ≡ some s → fault_at limits job work space i s ≡ 0)
      → Stops limits job work space (suc code) m
  at_end : {m : ℕ} → length job ≤ max_job → length (records_of job) ≡ m
      → ((i : ℕ) (s : Bytes) → i < m → get_elem? (records_of job) i ≡ some s → fault_at limits job work space i s ≡ 0)
      → Stops limits job work space (ending job) m

-- record m is a step of rule n on the terms at places ks, and answer k, k being the steps before it, is the rule's on these terms
pub record StepAnswer (job : Bytes) (m n : ℕ) (ks : List ℕ) (answers : List Answer) : Type 0 where
  pub rule : Rule
  pub rule_is : rule_at n ≡ some rule
  pub literals : List Term
  pub literals_are : at_places (plain_after m job) ks ≡ some literals
  pub answered : get_elem? answers (step_count (number_length job) (take m (records_of job))) ≡ some (answer_to n rule literals)

-- the earlier steps after more records
abbrev pub earlier_from : ℕ → Earlier → Plain → List Bytes → Earlier
earlier_from b earlier list [] = earlier
earlier_from b earlier list (r ∷ rs) = earlier_from b (recall b earlier list r) (feed b list r) rs

-- those before record m of the job
abbrev pub earlier_after : ℕ → Bytes → Earlier
earlier_after m job = earlier_from (number_length job) [] start (take m (records_of job))

-- record m is a chain of rule n with these premises, on the term at place p, and answer k, k being the steps before it,
-- is the rule's on the premises and that term
pub record ChainAnswer (job : Bytes) (m n : ℕ) (premises : List ℕ) (p : ℕ) (answers : List Answer) : Type 0 where
  pub rule : ChainRule
  pub rule_is : chain_rule_at n ≡ some rule
  pub claim : Term
  pub claim_is : at_place (plain_after m job) p ≡ some claim
  pub answered : get_elem? answers (step_count (number_length job) (take m (records_of job)))
      ≡ some (judged n (joined rule (premises_at (earlier_after m job) (plain_after m job) premises) claim) claim)

-- every step that the job reaches is answered so
pub record Demand2 (limits : Limits) (job : Bytes) (work space : ℕ) (answers : List Answer) : Type 0 where
  pub steps : (m : ℕ) (r : Bytes) (n : ℕ) (ks : List ℕ) → Reached limits job work space m r
      → read (number_length job) r ≡ step n ks → StepAnswer job m n ks answers
  pub chains : (m : ℕ) (r : Bytes) (n : ℕ) (ps : List ℕ) (p : ℕ) → Reached limits job work space m r
      → read (number_length job) r ≡ chain n ps p → ChainAnswer job m n ps p answers

-- ---- document 02, P12: a premise is an earlier step that is held, whose literal no back has dropped since
-- record i, before record m, is the step with k steps before it; it claims p and is held; and each back since has a count above p
pub record Kept (job : Bytes) (m k p : ℕ) : Type 0 where
  pub i : ℕ
  pub bytes : Bytes
  pub rule : ℕ
  pub literals : List ℕ
  pub answer : Answer
  pub earlier : i < m
  pub stands : get_elem? (records_of job) i ≡ some bytes
  pub claims : claim_of (read (number_length job) bytes) ≡ some (rule, literals)
  pub kth : step_count (number_length job) (take i (records_of job)) ≡ k
  pub answered : answers_to (number_length job) (earlier_after i job) (plain_after i job) bytes ≡ answer ∷ []
  pub held : answer.code ≡ 0
  pub first : get_elem? literals 0 ≡ some p
  pub since : (j : ℕ) (s : Bytes) (n : ℕ) → i < j → j < m
      → get_elem? (records_of job) j ≡ some s → read (number_length job) s ≡ back n → p < n

-- what `Earlier` says, and as many places as steps
pub record Tells (job : Bytes) (m : ℕ) (earlier : Earlier) : Type 0 where
  pub counted : length earlier ≡ step_count (number_length job) (take m (records_of job))
  pub only : (k p : ℕ) → get_elem? earlier k ≡ some (some p) → Kept job m k p
  pub all : (k p : ℕ) → Kept job m k p → get_elem? earlier k ≡ some (some p)

-- all through a run `Earlier` says just that
abbrev pub PremisesTold : Type 0
PremisesTold = (limits : Limits) (job : Bytes) (work space m : ℕ)
    → m ≤ (run limits job work space).records → Tells job m (earlier_after m job)
