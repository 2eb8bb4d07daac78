-- Which codes an answer can have, and which a job can stop with.
use mathlib.Core.Path.{◌≡◌, refl}
use mathlib.Core.Bool.{Bool, true, false}
use mathlib.Core.List.{List, [], ◌∷◌, map}
use Prim.Native.Nat.{ℕ, ◌<◌}
use native.Mathlib.Omega.{arith}
use lib.Dec.{T, leb, leb→le}
use lib.ListN.{length}
use Rattle.theory.specs.Limit.{Limits, max_job}
use Rattle.theory.specs.Term.{Term}
use Rattle.theory.specs.Verdict.{Verdict, held, form_only, not_one_literal, wrong_form, not_bit_vector, not_constant, bit_not_literal, other_value, terms_differ, index_not_next, premise_broken, code_of}
use Rattle.theory.specs.RuleTable.{Rule}
use Rattle.theory.specs.Rule.{verdict}
use Rattle.theory.specs.Record.{Bytes, records_of, ending, Item, number_length}
use Rattle.theory.specs.Plain.{Plain, start}
use Rattle.theory.specs.Answer.{Answer}
use Rattle.theory.specs.Chain.{Earlier, premises_at, joined}
use Rattle.theory.specs.Job.{answer_to, Outcome, outcome, run_from, run}
use Rattle.theory.specs.Claim.{element, answer_codes, StopCodes, AnswerCodes}
use Rattle.theory.proofs.Places.{tree_at}
use Rattle.theory.proofs.Run.{AnswerOf, to_step, to_chain, ran}

-- ---- answers
abbrev pub Code : ℕ → Type 0
Code c = T (element c answer_codes)

verdict_code : (v : Verdict) → Code (code_of v)
verdict_code held = tt
verdict_code form_only = tt
verdict_code not_one_literal = tt
verdict_code wrong_form = tt
verdict_code not_bit_vector = tt
verdict_code not_constant = tt
verdict_code bit_not_literal = tt
verdict_code other_value = tt
verdict_code terms_differ = tt
verdict_code index_not_next = tt
verdict_code premise_broken = tt

answer_code : (n : ℕ) (rule : Rule) (ts : List Term) → Code (answer_to n rule ts).code
answer_code n rule [] = tt
answer_code n rule (t ∷ []) = verdict_code (verdict rule t)
answer_code n rule (t ∷ u ∷ us) = tt

pub code_known : {earlier : Earlier} {list : Plain} {i : Item} {a : Answer} → AnswerOf earlier list i a → Code a.code
code_known {list = list} (to_step n rule ks f b) = answer_code n rule (map (tree_at list) ks)
code_known {earlier = earlier} {list = list} (to_chain n rule ps k f b) = verdict_code (joined rule (premises_at earlier list ps) (tree_at list k))

pub answer_codes_are : AnswerCodes
answer_codes_are limits job work space k a e =
    code_known ((ran limits job work space).exact_answers k a e).is

-- ---- stops
pub stop_codes_are : StopCodes
stop_codes_are limits job work space = (ran limits job work space).stop_known

-- code 2: nothing is done, and the two first terms are kept
pub too_long : (limits : Limits) (job : Bytes) (work space : ℕ) → max_job < length job → run limits job work space ≡ outcome 2 0 0 [] start
unfolding run
too_long limits job work space h =
    go (leb (length job) max_job) (λ t. omega (arith, leb→le (length job) max_job t)) (run_from (number_length job) limits work space (ending job) 0 0 [] start [] (records_of job))
  where
    go : (b : Bool) → (T b → ⊥) → (x : Outcome) → elim b as (λ z. Outcome) [ true ↦ x | false ↦ outcome 2 0 0 [] start ] ≡ outcome 2 0 0 [] start
    go true f x = absurd (f tt)
    go false f x = refl
