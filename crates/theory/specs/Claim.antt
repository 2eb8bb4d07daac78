-- Statements beside the three demands, of document 01 and of the requests after it: on codes, on what is kept, on repeats, on depths,
-- on the tally. Each is proved in proofs/.
use Rattle.std.specs.Prelude.{◌≡◌, Bool, true, false, ◌||◌, cond, List, [], ◌∷◌, map, ℕ, ◌+◌, ◌-◌, ◌*◌, ◌%◌, ◌^◌, ◌<◌, ◌≤◌, max, T, eqb, ltb, length, take, drop}
use Rattle.std.specs.Prelude.{Some as some}
use Rattle.std.specs.Prelude.{slice_get as get_elem?}
use Rattle.theory.specs.Limit.{Limits, capped, first_terms, term_bytes, answer_bytes}
use Rattle.theory.specs.Kind.{Op, Equals, BvBbTerm, BvNeg, BvAdd, BvMul, BvULt, BvSLt}
use Rattle.theory.specs.Term.{Term, Terms, node, nil, cons, two}
use Rattle.theory.specs.Sort.{bv, sort_width, sort_of}
use Rattle.theory.specs.Value.{Assign, Val, number_of, value, bit_at, rotate_left_n, rotate_right_n}
use Rattle.theory.specs.RuleTable.{Rule, by_ult, by_slt, by_add, by_mult, by_neg, rule_at}
use Rattle.theory.specs.Record.{Bytes, AllBytes, records_of, step, read, step_count, Item, term, chain, back, unknown, misfit, number_length}
use Rattle.theory.specs.Plain.{Plain, plain_after, at_place, start, feed, repeat_of}
use Rattle.theory.specs.Answer.{Answer, decode_answers}
use Rattle.theory.specs.Job.{answer_to, Outcome, run, call}
use Rattle.theory.specs.Demand.{Reached}
use Rattle.theory.specs.Tally.{Tally, max_tally, tally_of}

-- ---- "Codes 2 to 9, 18 and 19 stop the job; 10 to 17 are answers", beside 0 and 1, and 24 of a chain
-- n is in the list
abbrev pub element : ℕ → List ℕ → Bool
element n [] = false
element n (k ∷ ks) = eqb n k || element n ks

-- what a job can stop with
abbrev pub stop_codes : List ℕ
stop_codes = 0 ∷ 2 ∷ 3 ∷ 4 ∷ 5 ∷ 6 ∷ 7 ∷ 8 ∷ 9 ∷ 18 ∷ 19 ∷ []

-- what an answer can have
abbrev pub answer_codes : List ℕ
answer_codes = 0 ∷ 1 ∷ 10 ∷ 11 ∷ 12 ∷ 13 ∷ 14 ∷ 15 ∷ 16 ∷ 17 ∷ 24 ∷ []

-- every job stops with one of these
abbrev pub StopCodes : Type 0
StopCodes = (limits : Limits) (job : Bytes) (work space : ℕ) → T (element (run limits job work space).stop stop_codes)

-- every answer of every job has one of those
abbrev pub AnswerCodes : Type 0
AnswerCodes =
    (limits : Limits) (job : Bytes) (work space k : ℕ) (a : Answer)
    → get_elem? (run limits job work space).answers k ≡ some a → T (element a.code answer_codes)

-- ---- "equal structure, one number"
-- no term is at two places of the list, after any number of the records done
abbrev pub OneNumber : Type 0
OneNumber = (limits : Limits) (job : Bytes) → AllBytes job → (work space m i j : ℕ) (t : Term) → m ≤ (run limits job work space).records
    → at_place (plain_after m job) i ≡ some t → at_place (plain_after m job) j ≡ some t → i ≡ j

-- ---- what is lent is enough
-- where the numbers of terms have b bytes: the answers fit into their memory, the kept terms into the work memory,
-- and they are no more than the limit, but for `true` and `false`
pub record Fits (b : ℕ) (limits : Limits) (work space : ℕ) (o : Outcome) : Type 0 where
  pub answers_fit : answer_bytes b * length o.answers ≤ space
  pub terms_fit : term_bytes b * (o.terms - first_terms) ≤ work
  pub numbers_fit : o.terms ≤ max first_terms (capped b limits).terms

-- of every job
abbrev pub LentEnough : Type 0
LentEnough = (limits : Limits) (job : Bytes) (work space : ℕ) → Fits (number_length job) limits work space (run limits job work space)

-- ---- document 02, P8: "A width above its limit is 7 ..
-- A job that gets neither under the bench limits gives, with the same lent memory, the same result and answers under the rack's"
-- after any number of the records done, no bit-vector on the list is wider than the limit; how many terms there are, `Fits` says
abbrev pub NoWider : Type 0
NoWider = (limits : Limits) (job : Bytes) (work space m i : ℕ) (t : Term) → m ≤ (run limits job work space).records
    → at_place (plain_after m job) i ≡ some t → sort_width (sort_of t) ≤ (capped (number_length job) limits).width

-- a job that stops with neither 7 nor 8 comes to the same under any larger limits: what is returned, and both memories
abbrev pub LimitsOnly : Type 0
LimitsOnly = (small large : Limits) → small.width ≤ large.width → small.terms ≤ large.terms → (job work old : Bytes)
    → (let c = call small job work old in (c.result.stop ≡ 7 → ⊥) → (c.result.stop ≡ 8 → ⊥) → c ≡ call large job work old)

-- ---- "After every call": nothing of one job reaches the next
-- a call depends on the job's bytes, the lengths of the two memories, and the bytes past the last answer
abbrev pub NothingKept : Type 0
NothingKept = (limits : Limits) (job work work₂ old old₂ : Bytes) → length work ≡ length work₂ → length old ≡ length old₂
    → (let n = answer_bytes (number_length job) * (call limits job work old).result.answers in drop n old ≡ drop n old₂)
    → call limits job work old ≡ call limits job work₂ old₂

-- ---- "Adding a term must say whether it was new or found .. A job also returns the number of repeats, a back record not lowering it"
-- the repeats among records, from a list on
abbrev pub repeats_from : ℕ → Plain → List Bytes → ℕ
repeats_from b list [] = 0
repeats_from b list (r ∷ rs) = repeat_of b list r + repeats_from b (feed b list r) rs

-- the records among them that put an entry on the list
abbrev pub news_from : ℕ → Plain → List Bytes → ℕ
news_from b list [] = 0
news_from b list (r ∷ rs) = cond (ltb (length list) (length (feed b list r))) 1 0 + news_from b (feed b list r) rs

-- a term record
abbrev pub is_term : Item → Bool
is_term (term o ks) = true
is_term (step n ks) = false
is_term (chain n ps k) = false
is_term (back n) = false
is_term unknown = false
is_term misfit = false

-- the term records among records
abbrev pub term_count : ℕ → List Bytes → ℕ
term_count b [] = 0
term_count b (r ∷ rs) = cond (is_term (read b r)) 1 0 + term_count b rs

-- of every job: each term record done was a repeat or put an entry, whatever was dropped later
abbrev pub Repeats : Type 0
Repeats =
    (limits : Limits) (job : Bytes) (work space : ℕ)
    → let o = run limits job work space in let done = take o.records (records_of job) in
    let b = number_length job in o.repeats + news_from b start done ≡ term_count b done

-- a record that says a term has six bytes or more, so a job of at most 16,777,216 bytes has no more repeats than these
abbrev pub FewRepeats : Type 0
FewRepeats = (limits : Limits) (job : Bytes) (work space : ℕ) → (run limits job work space).repeats ≤ 2796202

-- ---- "With arguments that aren't BvBbTerm, an accepted ult, slt or two-argument add has depth exactly 2 × n, and neg exactly 2 × n + 1"
-- an argument of width n that is no BvBbTerm
pub record NoBbTerm (t : Term) (n : ℕ) : Type 0 where
  pub wide : sort_of t ≡ bv n
  pub no_bb : (ts : Terms) → t ≡ node BvBbTerm ts → ⊥

-- the left sides that it is said of, each with its depth
pub data HasDepth : Rule → Term → ℕ → Type 0 where
  rule_8 : {x y : Term} {n : ℕ} → NoBbTerm x n → NoBbTerm y n → HasDepth by_ult (two BvULt x y) (2 * n)
  rule_9 : {x y : Term} {n : ℕ} → NoBbTerm x n → NoBbTerm y n → HasDepth by_slt (two BvSLt x y) (2 * n)
  rule_10 : {x y : Term} {n : ℕ} → NoBbTerm x n → NoBbTerm y n → HasDepth by_add (two BvAdd x y) (2 * n)
  rule_12 : {x : Term} {n : ℕ} → NoBbTerm x n → HasDepth by_neg (node BvNeg (cons x nil)) (2 * n + 1)

-- the answer to such a step, where it is held
abbrev pub ExactDepth : Type 0
ExactDepth =
    (number : ℕ) (rule : Rule) (left right : Term) (d : ℕ) → HasDepth rule left d
    → let a = answer_to number rule (two Equals left right ∷ []) in a.code ≡ 0 → a.depth ≡ d

-- ---- "For held steps of add, mult and neg .. if two assignments give every operand the same low i bits,
-- the claimed circuits agree in their low i bits"
-- the low i bits of a value, as a number
abbrev pub low_bits : ℕ → Val → ℕ
low_bits i v = number_of v % 2 ^ i

-- two assignments give every operand the same low i bits
abbrev pub SameLow : ℕ → Assign → Assign → Terms → Type 0
SameLow i ρ σ nil = Unit {0}
SameLow i ρ σ (cons t ts) = (low_bits i (value ρ t) ≡ low_bits i (value σ t)) × SameLow i ρ σ ts

-- the rules that it is said of, each with its operation
pub data Counts : Rule → Op → Type 0 where
  rule_10 : Counts by_add BvAdd
  rule_11 : Counts by_mult BvMul
  rule_12 : Counts by_neg BvNeg

-- for every i: above the width the low i bits are all
abbrev pub LowAgree : Terms → Term → Type 0
LowAgree operands right = (i : ℕ) (ρ σ : Assign) → SameLow i ρ σ operands → low_bits i (value ρ right) ≡ low_bits i (value σ right)

-- the answer to such a step, of every width n
abbrev pub LowBits : Type 0
LowBits =
    (number : ℕ) (rule : Rule) (o : Op) (operands : Terms) (right : Term) (n : ℕ) → Counts rule o → sort_of (node o operands) ≡ bv n
    → (answer_to number rule (two Equals (node o operands) right ∷ [])).code ≡ 0 → LowAgree operands right

-- the literals at these places are one, an equality of such an operation with a circuit, of which this is true
pub record LowHeld (o : Op) (list : Plain) (places : List ℕ) : Type 0 where
  pub place : ℕ
  pub operands : Terms
  pub right : Term
  pub one_literal : places ≡ place ∷ []
  pub on_list : at_place list place ≡ some (two Equals (node o operands) right)
  pub agree : LowAgree operands right

-- of every job: each step of these rules that it reaches and answers with code 0
abbrev pub LowBitsHeld : Type 0
LowBitsHeld =
    (limits : Limits) (job : Bytes) (work space m : ℕ) (r : Bytes) (number : ℕ) (places : List ℕ) (rule : Rule) (o : Op) (a : Answer)
    → Reached limits job work space m r → read (number_length job) r ≡ step number places → rule_at number ≡ some rule → Counts rule o
    → get_elem? (run limits job work space).answers (step_count (number_length job) (take m (records_of job))) ≡ some a → a.code ≡ 0
    → LowHeld o (plain_after m job) places

-- ---- "rotate left brings bit i to place i + k and rotate right to i − k, both modulo the width"
-- at every width n, for every amount k and number x
abbrev pub Rotations : Type 0
Rotations =
    (n k x i : ℕ) → i < n
    → (bit_at ((i + k) % n) (rotate_left_n k n x) ≡ bit_at i x) × (bit_at ((i + (n - k % n)) % n) (rotate_right_n k n x) ≡ bit_at i x)

-- ---- "Until one holds, the last three sum to all answers written, since the tally was zero, by the jobs it was lent for"
-- none of the three has saturated
pub record Free (t : Tally) : Type 0 where
  pub held_free : t.held < max_tally
  pub form_free : t.form_only < max_tally
  pub refused_free : t.refused < max_tally

-- the last three fields
abbrev pub sum : Tally → ℕ
sum t = t.held + t.form_only + t.refused

-- a job, its limits, and the two memories lent for it
pub record Lent : Type 0 where
  pub limits : Limits
  pub job : Bytes
  pub work : Bytes
  pub answers : Bytes

-- the answers that it wrote: as many as it returns, read from their memory when it has ended
abbrev pub left_by : Lent → List Answer
left_by l =
    let c = call l.limits l.job l.work l.answers in
    decode_answers (number_length l.job) c.result.answers c.answer_memory

-- how many the jobs wrote in all, by what they return
abbrev pub written : List Lent → ℕ
written [] = 0
written (l ∷ rest) = (call l.limits l.job l.work l.answers).result.answers + written rest

-- since the tally was zero
abbrev pub TallySum : Type 0
TallySum = (jobs : List Lent) → let t = tally_of (map left_by jobs) in Free t → sum t ≡ written jobs
