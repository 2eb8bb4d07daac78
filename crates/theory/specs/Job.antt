-- Document 01, "The job" and "Codes": the run of a job; what it returns, and what it leaves in the lent memory.
use Rattle.std.specs.Prelude.{true, false, cond, List, [], ◌∷◌, ◌++◌, ℕ, zero, suc, ◌+◌, leb, length, drop, replicate}
use Rattle.std.specs.Prelude.{Option, None as none, Some as some}
use Rattle.std.specs.Prelude.{slice_get as get_elem?}
use Rattle.theory.specs.Limit.{Limits, max_job}
use Rattle.theory.specs.Term.{Term, node, to_list}
use Rattle.theory.specs.Depth.{depth}
use Rattle.theory.specs.Optional.{either}
use Rattle.theory.specs.Verdict.{Verdict, not_one_literal, code_of, accepted}
use Rattle.theory.specs.RuleTable.{Rule, rule_at, ChainRule, chain_rule_at}
use Rattle.theory.specs.Rule.{verdict}
use Rattle.theory.specs.Record.{Bytes, records_of, ending, Item, term, step, chain, back, unknown, misfit, read, number_length}
use Rattle.theory.specs.Plain.{Plain, start, feed, repeat_of, at_place, at_places}
use Rattle.theory.specs.Codes.{fault}
use Rattle.theory.specs.Answer.{Answer, encode_answers}
use Rattle.theory.specs.Chain.{Earlier, recall_item, premises_at, joined}

-- ---- a step's answer
-- the depth of the right side; 0 where there is none
abbrev pub right_depth : Term → ℕ
right_depth (node o ts) = either 0 depth (get_elem? (to_list ts) 1)

-- an accepted answer has the right side's depth, any other 0
abbrev pub judged : ℕ → Verdict → Term → Answer
judged n v literal = record { rule = n; code = code_of v; depth = cond (accepted v) (right_depth literal) 0 }

-- a clause that is not of one literal
abbrev pub unjudged : ℕ → Answer
unjudged n = record { rule = n; code = code_of not_one_literal; depth = 0 }

-- the answer of rule n to a clause
abbrev pub answer_to : ℕ → Rule → List Term → Answer
answer_to n rule [] = unjudged n
answer_to n rule (t ∷ []) = judged n (verdict rule t) t
answer_to n rule (t ∷ u ∷ us) = unjudged n

-- one answer, where the rule and the literals are there
abbrev pub reply : ℕ → Option Rule → Option (List Term) → List Answer
reply n none q = []
reply n (some rule) none = []
reply n (some rule) (some literals) = answer_to n rule literals ∷ []

-- one answer to a chain, where the rule and the literal are there
abbrev pub chain_reply : ℕ → Option ChainRule → Option (List Term) → Option Term → List Answer
chain_reply n none premises q = []
chain_reply n (some rule) premises none = []
chain_reply n (some rule) premises (some claim) = judged n (joined rule premises claim) claim ∷ []

-- a step is answered from the plain list just then, a chain from that and the earlier steps; no other record has an answer
abbrev pub item_answers : Earlier → Plain → Item → List Answer
item_answers earlier list (step n ks) = reply n (rule_at n) (at_places list ks)
item_answers earlier list (chain n ps k) = chain_reply n (chain_rule_at n) (premises_at earlier list ps) (at_place list k)
item_answers earlier list (term o ks) = []
item_answers earlier list (back n) = []
item_answers earlier list unknown = []
item_answers earlier list misfit = []

-- the answers to a record, where the numbers of terms have b bytes: one or none
unfoldable pub answers_to : ℕ → Earlier → Plain → Bytes → List Answer
answers_to b earlier list r = item_answers earlier list (read b r)

-- the earlier steps after one more record, `list` being the plain list before it
unfoldable pub recall : ℕ → Earlier → Plain → Bytes → Earlier
recall b earlier list r = recall_item earlier (read b r) (answers_to b earlier list r)

-- ---- the run: stop code, records done (the stopping one not counted), answers, terms kept, term records done that were repeats
-- the answers here are a list; in the memory they are bytes
pub record Outcome : Type 0 where
  pub stop : ℕ
  pub records : ℕ
  pub answers : List Answer
  pub terms : ℕ
  pub repeats : ℕ

-- the outcome where the run ends
abbrev pub outcome : ℕ → ℕ → ℕ → List Answer → Plain → Outcome
outcome stop done repeats answers list = record { stop = stop; records = done; answers = answers; terms = length list; repeats = repeats }

-- from `done` records and `repeats` repeats on; `end` is the code where no record is left
unfoldable pub run_from : ℕ → Limits → ℕ → ℕ → ℕ → ℕ → ℕ → Earlier → Plain → List Answer → List Bytes → Outcome
run_from b limits work space end done repeats earlier list answers [] = outcome end done repeats answers list
run_from b limits work space end done repeats earlier list answers (r ∷ rs) =
    elim (fault done b limits work space list (length answers) r) [
      | zero ↦
          run_from b limits work space end (suc done) (repeats + repeat_of b list r) (recall b earlier list r) (feed b list r)
          (answers ++ answers_to b earlier list r) rs
      | suc code ↦ outcome (suc code) done repeats answers list
    ]

-- under limits that a caller states; of work memory and answers a run takes their lengths alone
unfoldable pub run : Limits → Bytes → ℕ → ℕ → Outcome
run limits job work space =
    elim (leb (length job) max_job) [
      | true ↦ run_from (number_length job) limits work space (ending job) 0 0 [] start [] (records_of job)
      | false ↦ outcome 2 0 0 [] start
    ]

-- ---- the lent memory after a call
-- the answers, then what the memory held before
abbrev pub answers_after : ℕ → List Answer → Bytes → Bytes
answers_after b answers old = let bs = encode_answers b answers in bs ++ drop (length bs) old

-- all zero
abbrev pub work_after : Bytes → Bytes
work_after old = replicate (length old) 0

-- ---- a call: the five numbers that it returns, and the two memories
-- what the host gets
pub record Returned : Type 0 where
  pub stop : ℕ
  pub records : ℕ
  pub answers : ℕ
  pub terms : ℕ
  pub repeats : ℕ

-- an outcome as it is returned
abbrev pub returned : Outcome → Returned
returned o = record { stop = o.stop; records = o.records; answers = length o.answers; terms = o.terms; repeats = o.repeats }

-- what is returned, and the two memories afterwards
pub record Call : Type 0 where
  pub result : Returned
  pub work_memory : Bytes
  pub answer_memory : Bytes

-- all that a call does with stated limits, a job, a work memory and an answers' memory
abbrev pub call : Limits → Bytes → Bytes → Bytes → Call
call limits job work answers =
    let o = run limits job (length work) (length answers) in
    record { result = returned o; work_memory = work_after work; answer_memory = answers_after (number_length job) o.answers answers }
