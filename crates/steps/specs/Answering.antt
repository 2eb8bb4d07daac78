-- The answer to a step: what its reply means, and the answers' memory with it.
use Rattle.std.specs.Prelude.{◌≡◌, true, cond, List, [], ◌∷◌, ◌++◌, ℕ, zero, suc, ◌+◌, ◌-◌, ◌*◌, length, take, drop}
use Rattle.theory.specs.Limit.{number_bytes, first_terms, answer_bytes}
use Rattle.theory.specs.Term.{Term}
use Rattle.theory.specs.Verdict.{Verdict, code_of, accepted}
use Rattle.theory.specs.Depth.{depth}
use Rattle.theory.specs.Optional.{either}
use Rattle.theory.specs.Chain.{sides}
use Rattle.theory.specs.Record.{Bytes, bytes_of, word_bytes}
use Rattle.theory.specs.Codes.{all_below}
use Rattle.theory.specs.Answer.{Answer, answer_kind}
use Rattle.rows.specs.Layout.{number_at, offset_bytes}
use Rattle.terms.specs.declared.Args.{Args}
use Rattle.terms.specs.Decoded.{Inside}
use Rattle.store.specs.declared.gates.Kept.{Kept}
use Rattle.store.specs.Kept.{words_of}
use Rattle.operand_rules.specs.Rules.{verdict_of}
use Rattle.steps.specs.declared.answers.Reply.{Reply}

-- the depth of the right side of an equation, 0 of any other term
abbrev pub equation_depth : Term → ℕ
equation_depth t = either 0 (λ p. depth p.1) (sides t)

-- an answer of three numbers: its rule, its code and its depth
abbrev pub noted : ℕ → ℕ → ℕ → Answer
noted rule code depth = record { rule = rule; code = code; depth = depth }

-- a reply with its rule
abbrev pub given : ℕ → Reply → Answer
given rule r = noted rule (code_of (verdict_of r.verdict)) r.depth

-- ---- the answers' memory while the job runs; a depth has b bytes, as many as a term's number
-- the bytes of an answer before its rule
abbrev pub head_bytes : ℕ
head_bytes = number_bytes + number_bytes

-- the bytes of an answer after them
abbrev pub tail_of : ℕ → Answer → Bytes
tail_of b a = word_bytes a.rule ++ (word_bytes a.code ++ bytes_of b a.depth)

-- an answer as it stands there: the place of its step's record, then rule, code and depth
abbrev pub note : ℕ → ℕ → Answer → Bytes
note b place a = bytes_of head_bytes place ++ tail_of b a

-- answers to the record at that place, one after the other; there is one or none
abbrev pub notes : ℕ → ℕ → List Answer → Bytes
notes b place [] = []
notes b place (a ∷ rest) = note b place a ++ notes b place rest

-- the memory with these in it, after the first k
unfoldable pub with_notes : ℕ → Bytes → ℕ → ℕ → List Answer → Bytes
with_notes b old k place new = take (answer_bytes b * k) old ++ (notes b place new ++ drop (answer_bytes b * (k + length new)) old)

-- the place of the record of answer k's step
abbrev pub step_place : ℕ → Bytes → ℕ → ℕ
step_place b memory k = number_at memory (answer_bytes b * k) offset_bytes

-- the code of answer k
abbrev pub step_code : ℕ → Bytes → ℕ → ℕ
step_code b memory k = number_at memory (answer_bytes b * k + (head_bytes + number_bytes)) number_bytes

-- an answer's length and kind
abbrev pub encode_head : ℕ → Bytes
encode_head b = word_bytes (answer_bytes b - number_bytes) ++ word_bytes answer_kind

-- length and kind are written into the first n answers
unfoldable pub sealed : ℕ → ℕ → Bytes → Bytes
sealed b zero memory = memory
sealed b (suc n) memory =
    encode_head b ++ (take (answer_bytes b - head_bytes) (drop head_bytes memory) ++ sealed b n (drop (answer_bytes b) memory))

-- the literals of a clause lie in the job, and each is kept
pub record Literals (kept : Kept) (literals : Args) : Type 0 where
  pub inside : Inside kept.lookup.job.now literals
  pub below : all_below (first_terms + kept.lookup.rows) (words_of kept literals) ≡ true

-- the reply has the verdict; and the right side's depth where it accepts
pub record Judged (v : Verdict) (literal : Term) (r : Reply) : Type 0 where
  pub verdict_is : verdict_of r.verdict ≡ v
  pub depth_is : r.depth ≡ cond (accepted v) (equation_depth literal) 0
